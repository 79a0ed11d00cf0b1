-- The invariant of a forwarder, later and with an ask fewer.
use Rattle.std.proofs.Common.{◌≡◌, ℕ, ◌≤◌, List, sym, subst, arith, Option, Some, None}
use Rattle.std.specs.Prelude.{not}
use Rattle.std.specs.List.{AllByRecursion}
use Rattle.suffix_routes.specs.Values.{Config}
use Rattle.outstanding.specs.declared.ask.Path.{Path}
use Rattle.outstanding.specs.Lists.{same_path, without_path, AreListed}
use Rattle.outstanding.specs.Values.{Ask, Inquiries}
use Rattle.outstanding.proofs.CallerLemmas.{listed_without_path}
use Rattle.step_texts.specs.WaitingQuestions.Values.{Waiting}
use Rattle.record_cache.specs.Values.{Held, Cache}
use Rattle.answer_builder.specs.Answers.{IsEarlier}
use Rattle.step_texts.proofs.StepTable.CallerLemmas.{All-filter, All-weaker}
use Rattle.step_actions.specs.Kept.{IsKeptAsk, HoldsEarlier, IsKeptForwarder}
use Rattle.step_actions.specs.Decision.{without_closed}

pub later_entries : (m n : ℕ) (es : List Held) → m ≤ n → AllByRecursion (IsEarlier m) es → AllByRecursion (IsEarlier n) es
later_entries m n es le all = All-weaker (IsEarlier m) (IsEarlier n) (λ h was. let at : h.accepted ≤ m = was in omega (arith, at, le)) es all

pub later_held : (m n : ℕ) (xs : List Waiting) → m ≤ n → AllByRecursion (HoldsEarlier m) xs → AllByRecursion (HoldsEarlier n) xs
later_held m n xs le all = All-weaker (HoldsEarlier m) (HoldsEarlier n) (λ x h. later_entries m n x.held le h) xs all

pub later_taken : (m n : ℕ) (xs : List Waiting) → m ≤ n → AllByRecursion (λ x. x.taken ≤ m) xs → AllByRecursion (λ x. x.taken ≤ n) xs
later_taken m n xs le all = All-weaker (λ (x : Waiting). x.taken ≤ m) (λ (x : Waiting). x.taken ≤ n) (λ x h. let at : x.taken ≤ m = h in omega (arith, at, le)) xs all

pub kept_rest : (c : Config) (m k : ℕ) (path : Path) (asks : List Ask) → AllByRecursion (IsKeptAsk c m k) asks → AllByRecursion (IsKeptAsk c m k) (without_path path asks)
kept_rest c m k path asks all = All-filter (IsKeptAsk c m k) (λ b. not (same_path b.path path)) asks all

-- the list without the ask on a path, if any
pub listed_without : (closed : Option Path) (i : Inquiries) → AreListed i → AreListed (record i { asks = without_closed closed i.asks })
listed_without None i listed = listed
listed_without (Some path) i listed = listed_without_path path i.capacity i.asks listed

-- one ask less
pub kept_without : (c : Config) (e : Cache) (i i' : Inquiries) (ws : List Waiting) (ps : List ℕ) (m k : ℕ) (closed : Option Path) → IsKeptForwarder c e i ws ps m k → i' ≡ record i { asks = without_closed closed i.asks } → IsKeptForwarder c e i' ws ps m k
kept_without c e i i' ws ps m k closed kept is = subst (λ (q : Inquiries). IsKeptForwarder c e q ws ps m k) (sym is) (record {
  config = kept.config;
  cache = kept.cache;
  accepted = kept.accepted;
  capacity = kept.capacity;
  listed = listed_without closed i kept.listed;
  asks = by closed;
  few = kept.few;
  by_arrival = kept.by_arrival;
  taken = kept.taken;
  aliases = kept.aliases;
  places = kept.places;
  in_time = kept.in_time;
  counted = kept.counted;
})
  where
    by : (o : Option Path) → AllByRecursion (IsKeptAsk c m k) (without_closed o i.asks)
    by None = kept.asks
    by (Some path) = kept_rest c m k path i.asks kept.asks
