-- The question or the ask that is due first.
use Rattle.std.specs.Prelude.{◌≡◌, ℕ, ◌||◌, nat_le, List, ◌++◌, map, drop, slice_get, Some}
use Rattle.std.specs.List.{list_any}
use Rattle.suffix_routes.specs.Values.{Config}
use Rattle.outstanding.specs.Values.{Ask}
use Rattle.step_texts.specs.WaitingQuestions.Values.{Waiting}
use Rattle.step_texts.specs.StepTable.Progress.{least}
use Rattle.step_texts.specs.StepTable.Replies.{timeout_of}
use Rattle.step_texts.specs.StepTable.Ticks.{Item, question, attempt, deadline_of, first_item}
use Rattle.step_actions.specs.declared.due.Oldest.{Oldest}
use Rattle.step_actions.specs.declared.due.Oldest.TheVariants.{Question, Ask as OfAsk}
use Rattle.step_actions.specs.declared.due.Due.{Due}

-- the first of its list
abbrev pub IsOldest : {A : Type 0} → List Waiting → List Ask → Oldest A → Type 0
IsOldest xs asks (Question x) = slice_get xs 0 ≡ Some x.now
IsOldest xs asks (OfAsk a) = slice_get asks 0 ≡ Some a.now

-- the item that a tick serves, with the questions after the oldest
abbrev pub item_of : {A : Type 0} → List Waiting → Oldest A → Item
item_of others (Question x) = question x.now others
item_of others (OfAsk a) = attempt a.now

-- the moment from which the oldest question or ask is due
abbrev pub due_from : {A : Type 0} → Config → Oldest A → ℕ
due_from c (Question x) = deadline_of c x.now
due_from c (OfAsk a) = timeout_of c a.now

-- a tick serves the oldest question or ask first, and its moment is the least of all: from then on
-- something is due
pub record IsDueFirst {A : Type 0} (c : Config) (xs : List Waiting) (asks : List Ask) (d : Due A) : Type 0 where
  pub oldest : IsOldest xs asks d.oldest
  pub item : first_item c xs asks ≡ item_of (drop 1 xs) d.oldest
  pub from : d.moment ≡ due_from c d.oldest
  pub next : least (map (deadline_of c) xs ++ map (timeout_of c) asks) ≡ Some d.moment
  pub due : (n : ℕ) → (list_any (λ x. nat_le (deadline_of c x) n) xs || list_any (λ a. nat_le (timeout_of c a) n) asks)
      ≡ nat_le d.moment n
