-- Lemmas for callers.
use Rattle.std.proofs.Common.{◌≡◌, List, Option, ap, ◌∙◌}
use Rattle.std.specs.Prelude.{filter, map}
use Rattle.dns_message.specs.Values.{Question}
use Rattle.waiting_questions.specs.Values.{Waiting, waits_for}
use Rattle.waiting_questions.specs.Onward.{Onward}
use Rattle.waiting_questions.specs.Settling.{settled, settled_by}
use Rattle.waiting_questions.proofs.Settled.{settled_each}

-- if a function gives the fate of each question waiting for q, each gets this fate, and all others
-- stay
pub settled_by_function : (q : Question) (f : Waiting → Option Onward) (fates : List (Option Onward)) (xs : List Waiting) → fates ≡ map f (filter (waits_for q) xs) → settled q fates xs ≡ settled_by q f xs
settled_by_function q f fates xs are = ap (λ (fs : List (Option Onward)). settled q fs xs) are ∙ settled_each q f xs
