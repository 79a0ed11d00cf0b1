-- The questions a carried piece may serve, computed: the piece is alive when the client asks, is
-- not replaced until then, and is of the name's route. Each neighbour fails in one of these fields
-- alone.
use Rattle.std.proofs.Common.{◌≡◌, ℕ, ◌+◌, ◌*◌, ◌<◌, List, [], ◌∷◌, ◌++◌, length, false, Option, Some, refl, sym, ap, subst, ◌⊎◌}
use Rattle.std.proofs.Common.{inl, inr, arith}
use Rattle.dns_message.proofs.CallerLemmas.{message_read_is_spelled}
use Rattle.suffix_routes.specs.Values.{Config, AllDiffer}
use Rattle.suffix_routes.specs.Routes.{route_of}
use Rattle.trust_rank.specs.Walks.{walk_from, servers_from}
use Rattle.record_cache.specs.Values.{Held}
use Rattle.record_cache.specs.Laws.{Among}
use Rattle.step_values.specs.Values.{from_client, ask_udp, Step}
use Rattle.cache_laws.specs.Serving.{IsServedBy}
use Rattle.cache_laws.proofs.CallerLemmas.{replaces_exactly, serves_exactly}
use Rattle.step_history.specs.History.{Look, moment_at, Carries}
use Rattle.step_history.specs.Carried.{CarriedInEra, NotReplaced, Justified}
use Rattle.step_history.proofs.CallerLemmas.{walk_accepted}
use Rattle.step_table.proofs.Played.{a, b, address, server, config}
use Rattle.worked_claims.proofs.Texts.{question_text, client, step_of}
use Rattle.worked_claims.proofs.Silent.{nothing_heard, justified_at_once}
use Rattle.worked_claims.proofs.Accepted.{asked, answered, ask, reply_text, says, reply_is_read, piece}
use Rattle.worked_claims.proofs.Accepted.{reply_matches, held, carried_now}
use Rattle.worked_claims.proofs.Carried.{one_era}
use Rattle.worked_claims.proofs.SecondReply.{c, heard_again, five_seconds, second_carries}
use Rattle.worked_claims.proofs.Whole.{history}

-- ---- a client asks at this moment, after these steps, and is answered at once

abbrev asks_at : ℕ → Step
asks_at now = step_of now [] (from_client client (question_text 7 1)) []

abbrev at_once : Config → ℕ → List Step → Look
at_once c now before = record { config = c; asked = asks_at now; before = before; now = asks_at now ∷ before }

-- a piece justified at once was carried before, not replaced, and alive
justified_before : (c : Config) (now : ℕ) (before : List Step) (os : List Held) (name : List (List ℕ)) (o : Held)
    → AllDiffer c.routes → CarriedInEra c before os → Justified (at_once c now before) name o
    → NotReplaced o os × (moment_at (asks_at now ∷ before) < o.accepted + 1000 * o.piece.lifetime)
justified_before c now before os name o differ carried j = by j.new none_since j.counts
  where
    all : CarriedInEra c (asks_at now ∷ before) os
    all = inr (inl (refl, nothing_heard c (asks_at now) before refl, carried))

    old_is : j.old ≡ os
    old_is = one_era c (asks_at now ∷ before) j.old os differ j.carried_before all

    none_since : j.new ++ j.old ≡ j.old
    none_since = one_era c (asks_at now ∷ before) (j.new ++ j.old) j.old differ j.carried_now j.carried_before

    longer : (new old : List Held) → length (new ++ old) ≡ length new + length old
    longer [] old = omega arith
    longer (x ∷ new) old = let rest = longer new old in omega (arith, rest)

    by : (new : List Held) → new ++ j.old ≡ j.old
        → (NotReplaced o j.old × (moment_at (asks_at now ∷ before) < o.accepted + 1000 * o.piece.lifetime)) ⊎ Among o new
        → NotReplaced o os × (moment_at (asks_at now ∷ before) < o.accepted + 1000 * o.piece.lifetime)
    by new same (inl (kept, alive)) = (subst (NotReplaced o) old_is kept, alive)
    by [] same (inr never) = absurd never
    by (x ∷ new) same (inr since) =
        let lengths : length (x ∷ (new ++ j.old)) ≡ length j.old = ap length same in
        let sum = longer new j.old in
        absurd (omega (arith, lengths, sum))

-- ---- alive when the client asks

-- the address came at 1020, for a minute
but_for_its_life : (now : ℕ) → moment_at (asks_at now ∷ history) < 61020
    → Justified (at_once config now history) a held
unfolding route_of
but_for_its_life now alive = justified_at_once config (asks_at now) history (held ∷ []) a held refl refl
    (carried_now 4 0) (serves_exactly.only config a 0 refl) (inl refl) alive

in_its_last_millisecond : Justified (at_once config 61019 history) a held
in_its_last_millisecond = but_for_its_life 61019 (omega arith)

at_its_end : Justified (at_once config 61020 history) a held → ⊥
at_its_end j =
    let alive = (justified_before config 61020 history (held ∷ []) a held (tt, tt) (carried_now 4 0) j).1 in
    omega (arith, alive)

-- ---- not replaced until then

-- the address came again, for five seconds
abbrev renews : Step
renews = step_of 2000 (1048592 ∷ []) (from_client client (question_text 7 1))
    (ask_udp 1040 server (question_text 16 1) ∷ [])

abbrev renewed : List Step
renewed = heard_again 2020 ∷ renews ∷ history

abbrev newer : Held
newer = record { piece = five_seconds; accepted = 2020 }

both_carried : CarriedInEra c renewed (newer ∷ held ∷ [])
both_carried = inr (inr (
  refl,
  five_seconds ∷ [],
  held ∷ [],
  second_carries 2020 2000 (renews ∷ history) refl (omega arith),
  inr (inl (refl, nothing_heard c renews history refl, carried_now 1 600)),
  refl,
))

but_for_its_place : (o : Held) → o.piece.route ≡ 0 → NotReplaced o (newer ∷ held ∷ [])
    → 3000 < o.accepted + 1000 * o.piece.lifetime → Justified (at_once c 3000 renewed) a o
unfolding route_of
but_for_its_place o route kept alive = justified_at_once c (asks_at 3000) renewed (newer ∷ held ∷ []) a o refl refl
    both_carried (subst (IsServedBy c a) (sym route) (serves_exactly.only c a 0 refl)) kept alive

the_newer_one : Justified (at_once c 3000 renewed) a newer
the_newer_one = but_for_its_place newer refl (inl refl) (omega arith)

-- the older piece would still be alive
but_for_the_newer_one : NotReplaced held (newer ∷ held ∷ []) → Justified (at_once c 3000 renewed) a held
but_for_the_newer_one kept = but_for_its_place held refl kept (omega arith)

the_older_one : Justified (at_once c 3000 renewed) a held → ⊥
the_older_one j = by (justified_before c 3000 renewed (newer ∷ held ∷ []) a held (tt, tt) both_carried j).0
  where
    by : NotReplaced held (newer ∷ held ∷ []) → ⊥
    by (inl same) = let moments : 2020 ≡ 1020 = ap (λ (o : Held). o.accepted) same in omega (arith, moments)
    by (inr behind) = behind.0 (replaces_exactly.only five_seconds held.piece refl)

-- ---- on the name's route

-- b.e has its own route
abbrev two_routes : Config
two_routes = record config {
  routes = record { suffix = []; deny = false; servers = server ∷ [] }
      ∷ record { suffix = b; deny = false; servers = server ∷ [] } ∷ [];
}

differ : AllDiffer two_routes.routes
differ = ((λ same. (let labels : 0 ≡ 2 = ap length same in omega (arith, labels)), tt), (tt, tt))

carries_still : Carries two_routes answered (asked ∷ []) (piece ∷ [])
unfolding route_of walk_from servers_from
carries_still = record {
  pieces = piece ∷ [];
  servers = [];
  accepts = walk_accepted two_routes answered (asked ∷ []) ask (address a) 0 reply_text (says 60) differ
      (reply_matches two_routes answered (asked ∷ []) (refl, refl, omega arith))
      (message_read_is_spelled reply_text (says 60) reply_is_read) refl (inl refl) refl refl;
  are = refl;
}

carried_still : CarriedInEra two_routes history (held ∷ [])
carried_still = inr (inr (
  refl,
  piece ∷ [],
  [],
  carries_still,
  inr (inl (refl, nothing_heard two_routes asked [] refl, refl)),
  refl,
))

but_for_its_route : (name : List (List ℕ)) → IsServedBy two_routes name 0
    → Justified (at_once two_routes 2000 history) name held
but_for_its_route name on = justified_at_once two_routes (asks_at 2000) history (held ∷ []) name held refl refl
    carried_still on (inl refl) (omega arith)

on_its_own_route : Justified (at_once two_routes 2000 history) a held
unfolding route_of
on_its_own_route = but_for_its_route a (serves_exactly.only two_routes a 0 refl)

on_another_route : Justified (at_once two_routes 2000 history) b held → ⊥
unfolding route_of
on_another_route j =
    let own : ◌≡◌ {A = Option ℕ} (Some 1) (Some 0) = serves_exactly.each two_routes b 0 differ j.on_route in
    let places : ◌≡◌ {A = ℕ} 1 0 = cc in
    omega (arith, places)
