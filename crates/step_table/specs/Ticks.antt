-- The rows of passing time: of the oldest question and of the oldest ask.
use Rattle.std.specs.Prelude.{ℕ, ◌+◌, if◌then◌else◌, nat_le, List, [], ◌∷◌, map, Option, None}
use Rattle.std.specs.List.{list_any}
use Rattle.dns_message.specs.Values.{Question}
use Rattle.suffix_routes.specs.Values.{Config}
use Rattle.outstanding.specs.Lists.{of_question}
use Rattle.outstanding.specs.Values.{Ask}
use Rattle.retry_failover.specs.declared.Failure.TheVariants as failure
use Rattle.step_values.specs.declared.action.Why.TheVariants.{Deadline}
use Rattle.step_table.specs.State.{State, StepStart}
use Rattle.waiting_questions.specs.Values.{Waiting, waits_for}
use Rattle.step_table.specs.Steps.{Done, gets, waits, idle_step, settling_step, gives_up}
use Rattle.step_table.specs.Failures.{row_of_failure}
use Rattle.step_table.specs.Replies.{timeout_of}

-- the moment at which a question has waited too long
abbrev pub deadline_of : Config → Waiting → ℕ
deadline_of c x = x.taken + c.limits.deadline_ms

-- the item that is served first: the oldest question, with those after it, or the oldest ask
pub data Item : Type 0 where
  question : Waiting → List Waiting → Item
  attempt : Ask → Item
  nothing : Item

-- both lists are in the order of time, so the least moment is that of the oldest question or of the
-- oldest ask; at equal moments the question comes first
abbrev pub first_item : Config → List Waiting → List Ask → Item
first_item c [] [] = nothing
first_item c [] (a ∷ others) = attempt a
first_item c (x ∷ xs) [] = question x xs
first_item c (x ∷ xs) (a ∷ others) = if nat_le (deadline_of c x) (timeout_of c a) then question x xs else attempt a

-- the ask that no other question waits for
abbrev pub left_alone : Question → List Waiting → List Ask → Option Ask
left_alone q others listed = if list_any (waits_for q) others then None else of_question q listed

-- the oldest question has waited as long as it may; with the last one that waits for an ask its
-- inquiry ends
abbrev pub expiry_step : ℕ → Waiting → List Waiting → Option Ask → State → Done
expiry_step n x others alone s = settling_step n alone (gets (gives_up Deadline x) ∷ map (λ y. waits y) others) None s

-- a tick serves this item if it is due
abbrev pub row_of_item : StepStart → Item → Done
row_of_item t nothing = idle_step t.moment t.state
row_of_item t (question x others) =
    if nat_le (deadline_of t.config x) t.moment
    then expiry_step t.moment x others (left_alone x.wanted others t.state.asks) t.state
    else idle_step t.moment t.state
row_of_item t (attempt a) =
    if nat_le (timeout_of t.config a) t.moment then row_of_failure t a failure.TimedOut else idle_step t.moment t.state

-- a tick serves the item that is due first: the oldest question or the oldest ask
abbrev pub row_of_tick : StepStart → Done
row_of_tick t = row_of_item t (first_item t.config t.state.waiting t.state.asks)
