-- A forwarder's invariant holds after each change.
use Rattle.std.proofs.Common.{◌≡◌, ℕ, zero, suc, ◌+◌, ◌<◌, List, [], ◌∷◌, ◌++◌, length, false, refl, sym, ap, ◌∙◌, subst, arith, None}
use Rattle.std.specs.Prelude.{◌||◌, take, drop, map, slice_set, nat_le}
use Rattle.std.specs.List.{AllByRecursion, list_any}
use Rattle.suffix_routes.specs.Values.{Config, Route, IsConfig}
use Rattle.outstanding.specs.Values.{Ask, Inquiries}
use Rattle.step_table.specs.State.{State}
use Rattle.step_table.specs.WaitingQuestions.Values.{Waiting}
use Rattle.step_table.specs.Ticks.{deadline_of}
use Rattle.step_table.specs.Replies.{timeout_of}
use Rattle.record_cache.specs.Values.{Held, Cache}
use Rattle.answer_builder.specs.Answers.{IsEarlier}
use Rattle.step_table.specs.Progress.{IsTry, IsOnRoute, least, next_due, IsInOrder, ArePreferred}
use Rattle.step_table.specs.Row.{is_due_at}
use Rattle.step_table.proofs.CallerLemmas.{All-weaker, preferred_first}
use Rattle.client_decisions.specs.StepActions.Kept.{IsKeptAsk, IsKeptForwarder}

-- other entries are kept
pub kept_entries : (c : Config) (e e' : Cache) (entries : List Held) (i : Inquiries) (ws : List Waiting) (ps : List ℕ) (m k : ℕ) → IsKeptForwarder c e i ws ps m k → AllByRecursion (IsOnRoute c) entries → AllByRecursion (IsEarlier m) entries
    → e' ≡ record e { entries = entries } → IsKeptForwarder c e' i ws ps m k
kept_entries c e e' entries i ws ps m k kept on earlier is = subst (λ (q : Cache). IsKeptForwarder c q i ws ps m k) (sym is) (record {
  config = kept.config;
  cache = record { capacity = kept.cache.capacity; on_routes = on };
  accepted = earlier;
  capacity = kept.capacity;
  listed = kept.listed;
  asks = kept.asks;
  few = kept.few;
  by_arrival = kept.by_arrival;
  taken = kept.taken;
  aliases = kept.aliases;
  places = kept.places;
  in_time = kept.in_time;
  counted = kept.counted;
})

-- a new forwarder
pub kept_first : (c : Config) (e : Cache) (i : Inquiries) (ws : List Waiting) (ps : List ℕ) → IsConfig c → e ≡ record { capacity = c.limits.cache; entries = [] } → i ≡ record { capacity = c.limits.inquiries; asks = [] } → ws ≡ [] → ps ≡ map (λ r. 0) c.routes → IsKeptForwarder c e i ws ps 0 0
kept_first c e i ws ps config empty is none places =
    subst (λ (q : Cache). IsKeptForwarder c q i ws ps 0 0) (sym empty)
    (subst (λ (q : Inquiries). IsKeptForwarder c (record { capacity = c.limits.cache; entries = [] }) q ws ps 0 0) (sym is)
    (subst (λ (xs : List Waiting). IsKeptForwarder c (record { capacity = c.limits.cache; entries = [] }) (record { capacity = c.limits.inquiries; asks = [] }) xs ps 0 0) (sym none) (record {
      config = config;
      cache = record { capacity = refl; on_routes = tt };
      accepted = tt;
      capacity = refl;
      listed = record { few = omega arith; by_arrival = tt; in_time = tt };
      asks = tt;
      few = omega arith;
      by_arrival = tt;
      taken = tt;
      aliases = tt;
      places = subst (ArePreferred c.routes) (sym places) (preferred_first c.routes config.each);
      in_time = omega arith;
      counted = omega arith;
    })))

-- ---- nothing waits, and no ask is listed

pub none_due : (c : Config) (n : ℕ) (s : State) → s.waiting ≡ [] → s.asks ≡ [] → is_due_at c n s ≡ false
none_due c n s none no_ask = λ i. list_any (λ (x : Waiting). nat_le (deadline_of c x) n) (none i) || list_any (λ (a : Ask). nat_le (timeout_of c a) n) (no_ask i)

pub none_next : (c : Config) (s : State) → s.waiting ≡ [] → s.asks ≡ [] → next_due c s ≡ None
none_next c s none no_ask = λ i. least (map (deadline_of c) (none i) ++ map (timeout_of c) (no_ask i))

-- ---- the order of the lists

-- both lists are in order
pub kept_in_order : (c : Config) (e : Cache) (i : Inquiries) (ws : List Waiting) (ps : List ℕ) (m k : ℕ) → IsKeptForwarder c e i ws ps m k → IsInOrder c (record { cache = e; asks = i.asks; waiting = ws; preferred = ps; moment = m; tcp_asks = k })
kept_in_order c e i ws ps m k kept = record {
  cache = kept.cache;
  asks = kept.listed.by_arrival;
  tries = All-weaker (IsKeptAsk c m k) (IsTry c) (λ a h. h.tries) i.asks kept.asks;
  few_asks = let few = kept.listed.few in let room = kept.capacity in omega (arith, few, room);
  waiting = kept.by_arrival;
  few_waiting = kept.few;
}

-- ---- places

pub zeros_as : (routes : List Route) (places : List ℕ) → ArePreferred routes places → map {B = ℕ} (λ (p : ℕ). 0) places ≡ map {B = ℕ} (λ (r : Route). 0) routes
zeros_as [] [] are = refl
zeros_as [] (p ∷ places) are = absurd are
zeros_as (r ∷ routes) [] are = absurd are
zeros_as (r ∷ routes) (p ∷ places) are = ap (λ xs. 0 ∷ xs) (zeros_as routes places are.1)

zeros_more : (xs : List ℕ) (i : ℕ) → i < length xs → slice_set (map {B = ℕ} (λ (p : ℕ). 0) (take i xs) ++ drop i xs) i 0 ≡ map {B = ℕ} (λ (p : ℕ). 0) (take (suc i) xs) ++ drop (suc i) xs
zeros_more [] i lt = absurd (omega (arith, lt))
zeros_more (x ∷ xs) zero lt = refl
zeros_more (x ∷ xs) (suc i) lt = ap (λ ys. 0 ∷ ys) (zeros_more xs i (omega (arith, lt)))

pub zeros_step : (xs ys : List ℕ) (i : ℕ) → ys ≡ map {B = ℕ} (λ (p : ℕ). 0) (take i xs) ++ drop i xs → i < length xs → slice_set ys i 0 ≡ map {B = ℕ} (λ (p : ℕ). 0) (take (i + 1) xs) ++ drop (i + 1) xs
zeros_step xs ys i is lt = ap (λ (zs : List ℕ). slice_set zs i 0) is ∙ zeros_more xs i lt ∙ ap (λ (n : ℕ). map {B = ℕ} (λ (p : ℕ). 0) (take n xs) ++ drop n xs) (let next : suc i ≡ i + 1 = omega arith in next)

-- no asks, with this much room
pub room_is : (i : Inquiries) (m n : ℕ) → i ≡ record { capacity = m; asks = [] } → m ≡ n → i ≡ record { capacity = n; asks = [] }
room_is i m n is same = subst (λ (k : ℕ). i ≡ record { capacity = k; asks = [] }) same is

-- no entries, with this much room
pub cache_is : (e : Cache) (m n : ℕ) → e ≡ record { capacity = m; entries = [] } → m ≡ n → e ≡ record { capacity = n; entries = [] }
cache_is e m n is same = subst (λ (k : ℕ). e ≡ record { capacity = k; entries = [] }) same is
