-- The work that is left, computed: no code computes it.
use Rattle.std.proofs.Common.{◌≡◌, ℕ, List, [], ◌∷◌, Some, true, refl}
use Rattle.dns_message.specs.Values.{Question}
use Rattle.outstanding.specs.declared.ask.Path.TheVariants.{Udp}
use Rattle.outstanding.specs.Values.{Ask}
use Rattle.waiting_questions.specs.Values.{Waiting}
use Rattle.step_table.specs.State.{State}
use Rattle.step_table.specs.Steps.{initial}
use Rattle.step_table.specs.Progress.{left_to_do}
use Rattle.step_table.proofs.Played.{a, address, server, client, config, asked}

-- taken at this moment
abbrev question : ℕ → Waiting
question taken = record { client = client; asked = asked 1 (address a); taken = taken; held = []; wanted = address a }

-- the first of its four tries
abbrev ask : Ask
ask = record { question = address a; route = 0; server = 0; peer = server; used = 1; path = Udp 1032; id = 8; asked = 1000 }

abbrev last_ask : Ask
last_ask = record ask { used = 4 }

-- these asks, and these questions that wait
abbrev state : List Ask → List Waiting → State
state asks waiting = record (initial config) { asks = asks; waiting = waiting; moment = 1000 }

-- each question that waits, and each ask with the tries that its inquiry has left; so the last try
-- counts too
left : (left_to_do config (state (ask ∷ []) (question 1000 ∷ question 1001 ∷ [])) ≡ 6)
    × (left_to_do config (state (last_ask ∷ []) (question 1000 ∷ [])) ≡ 2)
    × (left_to_do config (state (last_ask ∷ []) []) ≡ 1) × (left_to_do config (initial config) ≡ 0)
left = (refl, refl, refl, refl)
