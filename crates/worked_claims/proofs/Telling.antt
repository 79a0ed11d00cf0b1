-- Parts of the claims about asks and about due work, computed: a due ask is reported, asks go to
-- servers of the name's route, and a list of asks has none for a question. Each part has a
-- neighbour.
use Rattle.std.proofs.Common.{◌≡◌, ℕ, [], ◌∷◌, zero, suc, Bool, true, false, Option, Some, None, refl, sym, ap}
use Rattle.std.proofs.Common.{subst, arith}
use Rattle.std.specs.Prelude.{slice_get}
use Rattle.std.proofs.lemmas.Bool.{true≢false}
use Rattle.dns_message.specs.Names.{step as name_step, walk_in, name_within}
use Rattle.dns_message.specs.Records.{octets_end, question_at}
use Rattle.dns_message.specs.Messages.{first_question}
use Rattle.dns_message.specs.Questions.{one_question, same_question}
use Rattle.dns_message.specs.Values.{Question}
use Rattle.suffix_routes.specs.Routes.{route_of}
use Rattle.suffix_routes.specs.Values.{Route}
use Rattle.suffix_routes.specs.declared.peer.Peer.{Peer}
use Rattle.step_values.specs.Values.{tick, Step}
use Rattle.cache_laws.proofs.CallerLemmas.{serves_exactly}
use Rattle.step_history.specs.Accounting.{TellsMore}
use Rattle.step_history.specs.Asked.{IsServerFor}
use Rattle.step_history.specs.Causes.{NoneAsks}
use Rattle.step_table.proofs.Played.{a, b, address, server, other_server, config}
use Rattle.worked_claims.proofs.Accepted.{asked, ask}

-- ---- at 2500 the ask of 1000 is due

abbrev passes : ℕ → Bool → Step
passes now more = record {
  input = record { now = now; words = []; event = tick };
  outcome = record { actions = []; unkept = 0; more = more };
}

it_tells_that_an_ask_is_due : TellsMore config (passes 2500 true ∷ asked ∷ []) ([] ∷ [] ∷ [])
it_tells_that_an_ask_is_due = ((tt, refl), refl)

it_tells_nothing_of_it : TellsMore config (passes 2500 false ∷ asked ∷ []) ([] ∷ [] ∷ []) → ⊥
it_tells_nothing_of_it h = true≢false (sym h.1)

-- and not a millisecond before
it_is_not_due_yet : TellsMore config (passes 2499 false ∷ asked ∷ []) ([] ∷ [] ∷ [])
it_is_not_due_yet = ((tt, refl), refl)

it_tells_too_soon : TellsMore config (passes 2499 true ∷ asked ∷ []) ([] ∷ [] ∷ []) → ⊥
it_tells_too_soon h = true≢false h.1

-- ---- either server of the only route

either_server : IsServerFor config (address a) server × IsServerFor config (address a) other_server
unfolding route_of
either_server = (
  record { route = 0; group = _; place = 0; route_is = serves_exactly.only config a 0 refl; there = refl; server = refl },
  record { route = 0; group = _; place = 1; route_is = serves_exactly.only config a 0 refl; there = refl; server = refl },
)

-- the server's address with another port
abbrev stranger : Peer
stranger = record server { port = 5353 }

abbrev own_route : Route
own_route = record { suffix = []; deny = false; servers = server ∷ other_server ∷ [] }

abbrev port_of : Option Peer → ℕ
port_of None = 0
port_of (Some p) = p.port

no_stranger_is_a_server : IsServerFor config (address a) stranger → ⊥
no_stranger_is_a_server h = by h.route h.place h.group h.there h.server
  where
    among : (place : ℕ) → slice_get (server ∷ other_server ∷ []) place ≡ Some stranger → ⊥
    among zero is = let ports : 53 ≡ 5353 = ap port_of is in omega (arith, ports)
    among (suc zero) is = let ports : 53 ≡ 5353 = ap port_of is in omega (arith, ports)
    among (suc (suc place)) is = let ports : 0 ≡ 5353 = ap port_of is in omega (arith, ports)

    by : (route place : ℕ) (group : Route) → slice_get config.routes route ≡ Some group
        → slice_get group.servers place ≡ Some stranger → ⊥
    by zero place group there is =
        let own : own_route ≡ group = (let same : Some own_route ≡ Some group = there in cc) in
        among place (subst (λ (r : Route). slice_get r.servers place ≡ Some stranger) (sym own) is)
    by (suc route) place group there is = let none : ◌≡◌ {A = Option Route} None (Some group) = there in absurd cc

-- ---- the listed ask is for a.e alone

own_question : (own : Question) → one_question ask.octets ≡ Some own → address a ≡ own
unfolding first_question question_at octets_end name_within walk_in name_step
own_question own reads = let same : Some (address a) ≡ Some own = reads in cc

none_asks_for_b : NoneAsks (address b) (ask ∷ [])
none_asks_for_b = (λ own reads. ap (λ (q : Question). same_question q (address b)) (sym (own_question own reads)), tt)

-- letter case aside
abbrev in_capitals : Question
in_capitals = address ((65 ∷ []) ∷ (69 ∷ []) ∷ [])

one_asks_for_a : NoneAsks in_capitals (ask ∷ []) → ⊥
unfolding first_question question_at octets_end name_within walk_in name_step
one_asks_for_a h = true≢false (h.0 (address a) refl)
