-- The definitions of the laws about actions, computed: a step giving up a path, replying and
-- asking; and actions of no step.
use Rattle.std.proofs.Common.{◌≡◌, ◌≤◌, List, [], ◌∷◌, length, refl, sym, arith}
use Rattle.std.proofs.lemmas.Bool.{true≢false}
use Rattle.outstanding.specs.declared.ask.Path.TheVariants.{Udp, Tcp}
use Rattle.outstanding.specs.Values.{Ask}
use Rattle.step_values.specs.declared.action.Why.TheVariants.{Answered}
use Rattle.step_values.specs.Values.{Action, ask_udp, ask_tcp, close_udp, close_tcp, send_reply}
use Rattle.step_table.proofs.Played.{a, address, server}
use Rattle.worked_claims.specs.Laws.{asks_in, closed_in, IsListedOn}
use Rattle.worked_claims.proofs.Texts.{question_text, client}

abbrev actions : List Action
actions = close_udp 1032 ∷ send_reply client [] Answered ∷ ask_tcp 3 server (question_text 8 1) ∷ []

-- a single ask by TCP, and a single port
one_of_each : (asks_in actions ≡ record { path = Tcp 3; server = server; octets = question_text 8 1 } ∷ [])
    × (closed_in actions ≡ Udp 1032 ∷ [])
one_of_each = (refl, refl)

two_asks : length (asks_in (ask_udp 1032 server [] ∷ ask_udp 1040 server [] ∷ [])) ≤ 1 → ⊥
two_asks few = let two : 2 ≤ 1 = few in omega (arith, two)

two_paths : length (closed_in (close_udp 1032 ∷ close_tcp 1032 ∷ [])) ≤ 1 → ⊥
two_paths few = let two : 2 ≤ 1 = few in omega (arith, two)

abbrev ask : Ask
ask = record {
  question = address a;
  route = 0;
  server = 0;
  peer = server;
  used = 1;
  path = Udp 1032;
  id = 8;
  asked = 1000;
}

listed : IsListedOn (ask ∷ []) (Udp 1032)
listed = refl

on_another_port : IsListedOn (ask ∷ []) (Udp 1033) → ⊥
on_another_port h = true≢false (sym h)

on_a_connection : IsListedOn (ask ∷ []) (Tcp 1032) → ⊥
on_a_connection h = true≢false (sym h)
