-- A following ask may be listed.
use Rattle.std.proofs.Common.{◌≡◌, ℕ, ◌+◌, ◌-◌, ◌^◌, ◌<◌, ◌≤◌, List, length, Bool, true, false, refl, sym, ap, ◌∙◌, subst, arith, Option, Some, None}
use Rattle.std.specs.Prelude.{◌==◌, not}
use Rattle.std.specs.List.{AllByRecursion}
use Rattle.std.proofs.lemmas.Bool.{eqb-false, cond-true}
use Rattle.dns_message.specs.Values.{Question}
use Rattle.dns_message.specs.Questions.{same_question}
use Rattle.dns_message.proofs.CallerLemmas.{same_question_decides}
use Rattle.suffix_routes.specs.Values.{Config}
use Rattle.outstanding.specs.declared.ask.Path.{Path}
use Rattle.outstanding.specs.declared.ask.Path.TheVariants.{Udp, Tcp}
use Rattle.outstanding.specs.Draws.{udp_draw, drawn_by_tcp}
use Rattle.outstanding.specs.Lists.{on_path as ask_on, of_question, same_path, without_path, AreListed}
use Rattle.outstanding.specs.Values.{Ask, Inquiries}
use Rattle.outstanding.proofs.CallerLemmas.{next_may_begin as next_begins}
use Rattle.suffix_routes.specs.Serving.{serving_route_of}
use Rattle.record_cache.specs.Values.{Cache}
use Rattle.step_texts.specs.StepTable.State.{State, start}
use Rattle.step_texts.specs.WaitingQuestions.Values.{Waiting}
use Rattle.step_texts.specs.StepTable.Attempts.{peer_at, over_udp, over_tcp, ask_by, freed_by, plan_of, first_ask, preferred_on}
use Rattle.step_texts.specs.StepTable.Progress.{IsBelow}
use Rattle.step_texts.proofs.StepTable.CallerLemmas.{IsAskBy, ask_by-some, udp-some, tcp-some, IsFresh, drawn_fresh, free_now, free_then, none_above, IsNumbered, drawn_numbered, without_shorter, still_earlier, ask_on-is, All-weaker, All-filter}
use Rattle.retry_failover.specs.declared.Plan.{Plan}
use Rattle.retry_failover.specs.declared.Failure.{Failure}
use Rattle.retry_failover.specs.declared.Next.{Next}
use Rattle.retry_failover.specs.declared.Next.TheVariants.{AskUdp, AskTcp, GiveUp}
use Rattle.retry_failover.specs.Table.{row, after_failure}
use Rattle.step_actions.specs.Kept.{IsKeptAsk, IsKeptForwarder}
use Rattle.step_actions.specs.Decision.{tcp_count_of, CanFollow}

earlier : (c : Config) (m k : ℕ) (asks : List Ask) → AllByRecursion (IsKeptAsk c m k) asks → AllByRecursion (λ a. a.asked ≤ m) asks
earlier c m k asks all = All-weaker (IsKeptAsk c m k) (λ a. a.asked ≤ m) (λ a h. h.earlier) asks all

below : (c : Config) (m k : ℕ) (asks : List Ask) → AllByRecursion (IsKeptAsk c m k) asks → AllByRecursion (λ a. IsBelow k a.path) asks
below c m k asks all = All-weaker (IsKeptAsk c m k) (λ a. IsBelow k a.path) (λ a h. h.path) asks all

-- ---- the first ask

pub first_follows : (c : Config) (n : ℕ) (words : List ℕ) (q : Question) (route : ℕ) (s : State) (i : Inquiries) (preferred : List ℕ) (a : Ask) → IsKeptForwarder c s.cache i s.waiting preferred s.moment s.tcp_asks → i.asks ≡ s.asks
    → serving_route_of c q.name ≡ Some route → s.moment ≤ n → n ≤ 2 ^ 62 → of_question q s.asks ≡ None → length s.asks < c.limits.inquiries → Some a ≡ first_ask (start c n words s) q route → CanFollow c n s s.asks a
first_follows c n words q route s i preferred a kept asks_are on later small new room is = record {
  begins = record {
    path = ap (λ (p : Path). ask_on p s.asks) draw.1 ∙ free_now draw.0 s.asks fresh.free;
    question = ap (λ (z : Question). of_question z s.asks) facts.question ∙ new;
    later = still_earlier s.moment a.asked s.asks (let at : a.asked ≡ n = facts.asked in omega (arith, at, later)) (earlier c s.moment s.tcp_asks s.asks kept_asks);
    in_time = let at : a.asked ≡ n = facts.asked in omega (arith, at, small);
  };
  room = room;
  kept = record {
    earlier = let at : a.asked ≡ n = facts.asked in omega (arith, at);
    on_route = ap (λ (z : Question). serving_route_of c z.name) facts.question ∙ on ∙ sym (ap (λ (r : ℕ). Some r) facts.route_is);
    server = (λ j. peer_at c (facts.route_is j) (facts.server_is j)) ∙ facts.peer_is;
    tries = let used : a.used ≡ 1 = facts.used_is in let least = kept.config.limits.tries.0 in (omega (arith, used), omega (arith, used, least));
    path = subst (IsBelow (s.tcp_asks + tcp_count_of a.path)) (sym draw.1) tt;
  };
  counted = subst (λ (p : Path). s.tcp_asks + tcp_count_of p < 2 ^ 64) (sym draw.1) (let count = kept.counted in omega (arith, count));
}
  where
    kept_asks : AllByRecursion (IsKeptAsk c s.moment s.tcp_asks) s.asks
    kept_asks = subst (AllByRecursion (IsKeptAsk c s.moment s.tcp_asks)) asks_are kept.asks

    facts : IsAskBy n q route (preferred_on s route) 1 (peer_at c route (preferred_on s route)) (over_udp (udp_draw words s.asks None)) a
    facts = ask_by-some n q route (preferred_on s route) 1 (peer_at c route (preferred_on s route)) (over_udp (udp_draw words s.asks None)) a (sym is)

    draw : (port : ℕ) × (a.path ≡ Udp port) × (udp_draw words s.asks None ≡ Some (a.id, port))
    draw = udp-some (udp_draw words s.asks None) a.id a.path facts.drawn_is

    fresh : IsFresh s.asks None a.id draw.0
    fresh = drawn_fresh words s.asks None a.id draw.0 draw.2

-- ---- the next ask of an inquiry

module _ (c : Config) (n : ℕ) (words : List ℕ) (path : Path) (a : Ask) (s : State) (kept : AllByRecursion (IsKeptAsk c s.moment s.tcp_asks) s.asks) (are : AreListed (record { capacity = c.limits.inquiries; asks = s.asks })) (later : s.moment ≤ n) (small : n ≤ 2 ^ 62)
    (on : ask_on path s.asks ≡ Some a) (path_is : a.path ≡ path) (more : a.used + 1 ≤ c.limits.tries) where
  own : IsKeptAsk c s.moment s.tcp_asks a
  own = (ask_on-is (IsKeptAsk c s.moment s.tcp_asks) path s.asks a on kept).1

  same : (next : Ask) → next.question ≡ a.question → same_question a.question next.question ≡ true
  same next e = subst (λ (q : Question). same_question a.question q ≡ true) (sym e) ((same_question_decides a.question a.question).1 (record { name = refl; kind = refl; class = refl }))

  follows : (next : Ask) (server : ℕ) (draw : Option (ℕ × Path)) → IsAskBy n a.question a.route server (a.used + 1) (peer_at c a.route server) draw next → ask_on next.path (without_path path s.asks) ≡ None
      → IsBelow (s.tcp_asks + tcp_count_of next.path) next.path → s.tcp_asks + tcp_count_of next.path < 2 ^ 64 → CanFollow c n s (without_path path s.asks) next
  follows next server draw facts free new_below counted = record {
    begins = next_begins s.asks path a next are.by_arrival on (same next facts.question) free
        (still_earlier s.moment next.asked s.asks (let at : next.asked ≡ n = facts.asked in omega (arith, at, later)) (earlier c s.moment s.tcp_asks s.asks kept))
        (let at : next.asked ≡ n = facts.asked in omega (arith, at, small));
    room = let fewer = without_shorter path s.asks a on in let few = are.few in omega (arith, fewer, few);
    kept = record {
      earlier = let at : next.asked ≡ n = facts.asked in omega (arith, at);
      on_route = ap (λ (z : Question). serving_route_of c z.name) facts.question ∙ own.on_route ∙ sym (ap (λ (r : ℕ). Some r) facts.route_is);
      server = (λ j. peer_at c (facts.route_is j) (facts.server_is j)) ∙ facts.peer_is;
      tries = let used : next.used ≡ a.used + 1 = facts.used_is in (omega (arith, used), omega (arith, used, more));
      path = new_below;
    };
    counted = counted;
  }

  pub udp_follows : (count : s.tcp_asks < 2 ^ 64) (next : Ask) (server : ℕ) → ask_by n a.question a.route server (a.used + 1) (peer_at c a.route server) (over_udp (udp_draw words s.asks (freed_by a.path))) ≡ Some next → CanFollow c n s (without_path path s.asks) next
  udp_follows count next server is =
      let facts = ask_by-some n a.question a.route server (a.used + 1) (peer_at c a.route server) (over_udp (udp_draw words s.asks (freed_by a.path))) next is in
      let draw = udp-some (udp_draw words s.asks (freed_by a.path)) next.id next.path facts.drawn_is in
      let fresh = drawn_fresh words s.asks (freed_by a.path) next.id draw.0 draw.2 in
      follows next server (over_udp (udp_draw words s.asks (freed_by a.path))) facts
      (ap (λ (p : Path). ask_on p (without_path path s.asks)) draw.1 ∙ ap (λ (p : Path). ask_on (Udp draw.0) (without_path p s.asks)) (sym path_is) ∙ free_then a.path draw.0 s.asks fresh.free)
      (subst (λ (p : Path). IsBelow (s.tcp_asks + tcp_count_of p) p) (sym draw.1) tt)
      (subst (λ (p : Path). s.tcp_asks + tcp_count_of p < 2 ^ 64) (sym draw.1) (omega (arith, count)))

  pub tcp_follows : (count : s.tcp_asks < 2 ^ 64) (next : Ask) (server : ℕ) → ask_by n a.question a.route server (a.used + 1) (peer_at c a.route server) (over_tcp (drawn_by_tcp words s.tcp_asks)) ≡ Some next → CanFollow c n s (without_path path s.asks) next
  tcp_follows count next server is =
      let facts = ask_by-some n a.question a.route server (a.used + 1) (peer_at c a.route server) (over_tcp (drawn_by_tcp words s.tcp_asks)) next is in
      let draw = tcp-some (drawn_by_tcp words s.tcp_asks) next.id next.path facts.drawn_is in
      let numbered = drawn_numbered words s.tcp_asks next.id draw.0 draw.2 in
      follows next server (over_tcp (drawn_by_tcp words s.tcp_asks)) facts
      (ap (λ (p : Path). ask_on p (without_path path s.asks)) draw.1 ∙ none_above draw.0 s.tcp_asks (without_path path s.asks) (let is : draw.0 ≡ s.tcp_asks = numbered.number in omega (arith, is)) (All-filter (λ b. IsBelow s.tcp_asks b.path) (λ b. not (same_path b.path path)) s.asks (below c s.moment s.tcp_asks s.asks kept)))
      (new_below next.path draw.0 draw.1 numbered.number)
      (new_counted next.path draw.0 draw.1 (not_last draw.0 draw.2))
    where
      new_below : (p : Path) (conn : ℕ) → p ≡ Tcp conn → conn ≡ s.tcp_asks → IsBelow (s.tcp_asks + tcp_count_of p) p
      new_below p conn is number = subst (λ (z : Path). IsBelow (s.tcp_asks + tcp_count_of z) z) (sym is) (omega (arith, number))

      not_last : (conn : ℕ) → drawn_by_tcp words s.tcp_asks ≡ Some (next.id, conn) → s.tcp_asks + 1 < 2 ^ 64
      not_last conn e = by (s.tcp_asks == 2 ^ 64 - 1) refl
        where
          by : (b : Bool) → (s.tcp_asks == 2 ^ 64 - 1) ≡ b → s.tcp_asks + 1 < 2 ^ 64
          by true last = absurd (let bad : None ≡ Some (next.id, conn) = sym (cond-true (s.tcp_asks == 2 ^ 64 - 1) _ _ last) ∙ e in cc)
          by false other = let not_it = eqb-false s.tcp_asks (2 ^ 64 - 1) other in omega (arith, not_it, count)

      new_counted : (p : Path) (conn : ℕ) → p ≡ Tcp conn → s.tcp_asks + 1 < 2 ^ 64 → s.tcp_asks + tcp_count_of p < 2 ^ 64
      new_counted p conn is fits = subst (λ (z : Path). s.tcp_asks + tcp_count_of z < 2 ^ 64) (sym is) fits

-- ---- facts about the failed ask that are kept

pub kept_of : (c : Config) (m k : ℕ) (path : Path) (asks : List Ask) (a : Ask) → ask_on path asks ≡ Some a → AllByRecursion (IsKeptAsk c m k) asks → IsKeptAsk c m k a
kept_of c m k path asks a on all = (Rattle.step_texts.proofs.StepTable.CallerLemmas.ask_on-is (IsKeptAsk c m k) path asks a on all).1

pub server_within : (c : Config) (m k : ℕ) (path : Path) (asks : List Ask) (a : Ask) → ask_on path asks ≡ Some a → AllByRecursion (IsKeptAsk c m k) asks → a.server < length (Rattle.step_texts.specs.StepTable.Attempts.servers_in (Rattle.step_texts.specs.StepTable.Attempts.group_of c a.route))
server_within c m k path asks a on all = Rattle.step_texts.proofs.StepTable.CallerLemmas.peer_within c a.route a.server a.peer (kept_of c m k path asks a on all).server

-- the listed asks, with the room of the configuration
pub listed_within : (c : Config) (e : Cache) (i : Inquiries) (ws : List Waiting) (ps : List ℕ) (m k : ℕ) → IsKeptForwarder c e i ws ps m k → AreListed (record { capacity = c.limits.inquiries; asks = i.asks })
listed_within c e i ws ps m k kept = subst (λ (n : ℕ). AreListed (record { capacity = n; asks = i.asks })) kept.capacity kept.listed

-- if another ask follows, a try is left
pub left_for : (plan : Plan) (f : Failure) → (after_failure plan f ≡ GiveUp → ⊥) → plan.used ≤ plan.tries → plan.used + 1 ≤ plan.tries
left_for plan f goes_on le = by (plan.used == plan.tries) refl
  where
    by : (b : Bool) → (plan.used == plan.tries) ≡ b → plan.used + 1 ≤ plan.tries
    by true t = absurd (goes_on (ap (λ (b : Bool). row b plan.tcp f plan) t))
    by false e = let other = eqb-false plan.used plan.tries e in omega (arith, other, le)

pub udp_goes_on : (r : Next) (server : ℕ) → r ≡ AskUdp server → r ≡ GiveUp → ⊥
udp_goes_on r server e gives = let bad : GiveUp ≡ AskUdp server = sym gives ∙ e in absurd (cc)

pub tcp_goes_on : (r : Next) (server : ℕ) → r ≡ AskTcp server → r ≡ GiveUp → ⊥
tcp_goes_on r server e gives = let bad : GiveUp ≡ AskTcp server = sym gives ∙ e in absurd (cc)

-- ---- the next ask, by the kept facts

pub more_left : (c : Config) (e : Cache) (i : Inquiries) (ws : List Waiting) (ps : List ℕ) (m k : ℕ) (path : Path) (a : Ask) (f : Failure) → IsKeptForwarder c e i ws ps m k → ask_on path i.asks ≡ Some a → (after_failure (plan_of c a) f ≡ GiveUp → ⊥) → a.used + 1 ≤ c.limits.tries
more_left c e i ws ps m k path a f kept on goes_on = left_for (plan_of c a) f goes_on (kept_of c m k path i.asks a on kept.asks).tries.1

module _ (c : Config) (e : Cache) (i : Inquiries) (ws : List Waiting) (ps : List ℕ) (m k n : ℕ) (words : List ℕ) (path : Path) (a : Ask) (f : Failure) (kept : IsKeptForwarder c e i ws ps m k) (later : m ≤ n) (small : n ≤ 2 ^ 62) (on : ask_on path i.asks ≡ Some a) where
  abbrev here : State
  here = record { cache = e; asks = i.asks; waiting = ws; preferred = ps; moment = m; tcp_asks = k }

  path_is : a.path ≡ path
  path_is = (ask_on-is (IsKeptAsk c m k) path i.asks a on kept.asks).0

  pub next_by_udp : (server : ℕ) → after_failure (plan_of c a) f ≡ AskUdp server → (next : Ask) → ask_by n a.question a.route server (a.used + 1) (peer_at c a.route server) (over_udp (udp_draw words i.asks (freed_by a.path))) ≡ Some next → CanFollow c n here (without_path path i.asks) next
  next_by_udp server goes next is = udp_follows c n words path a here kept.asks (listed_within c e i ws ps m k kept) later small on path_is (more_left c e i ws ps m k path a f kept on (udp_goes_on (after_failure (plan_of c a) f) server goes)) kept.counted next server is

  pub next_by_tcp : (server : ℕ) → after_failure (plan_of c a) f ≡ AskTcp server → (next : Ask) → ask_by n a.question a.route server (a.used + 1) (peer_at c a.route server) (over_tcp (drawn_by_tcp words k)) ≡ Some next → CanFollow c n here (without_path path i.asks) next
  next_by_tcp server goes next is = tcp_follows c n words path a here kept.asks (listed_within c e i ws ps m k kept) later small on path_is (more_left c e i ws ps m k path a f kept on (tcp_goes_on (after_failure (plan_of c a) f) server goes)) kept.counted next server is
