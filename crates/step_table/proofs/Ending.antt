-- The outcome of a reply that ends its walk.
use Rattle.std.proofs.Common.{◌≡◌, ℕ, List, true, refl, None}
use Rattle.std.proofs.lemmas.Bool.{false≢true}
use Rattle.suffix_routes.specs.Values.{Config}
use Rattle.trust_rank.specs.Values.{End, found, ends_no_data, ends_denied, elsewhere, lame, Walk}
use Rattle.trust_rank.specs.Walks.{has_last}
use Rattle.alias_chains.specs.RecordCache.Values.{Held}
use Rattle.outstanding.specs.Values.{Ask}
use Rattle.step_table.specs.State.{State, start}
use Rattle.waiting_questions.specs.Values.{Waiting}
use Rattle.step_table.specs.Steps.{Fate, closing_step}
use Rattle.step_table.specs.Replies.{ends_at, unless_many, looked_by, row_of_end}

pub looked_at_end : (c : Config) (n : ℕ) (entries : List Held) (w : Walk) (y : Waiting) (e : End) → has_last e ≡ true → looked_by c n entries w y e ≡ unless_many (ends_at n y.held y.wanted w.pieces)
looked_at_end c n entries w y found fine = refl
looked_at_end c n entries w y ends_no_data fine = refl
looked_at_end c n entries w y ends_denied fine = refl
looked_at_end c n entries w y (elsewhere name) fine = absurd (false≢true fine)
looked_at_end c n entries w y lame fine = absurd (false≢true fine)

pub closed_at_end : (c : Config) (n : ℕ) (words : List ℕ) (a : Ask) (w : Walk) (fate : Waiting → Fate) (s : State) (e : End) → has_last e ≡ true → row_of_end (start c n words s) a w fate e ≡ closing_step n a fate None s
closed_at_end c n words a w fate s found fine = refl
closed_at_end c n words a w fate s ends_no_data fine = refl
closed_at_end c n words a w fate s ends_denied fine = refl
closed_at_end c n words a w fate s (elsewhere name) fine = absurd (false≢true fine)
closed_at_end c n words a w fate s lame fine = absurd (false≢true fine)
