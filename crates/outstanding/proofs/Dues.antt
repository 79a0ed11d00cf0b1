-- The first of the listed asks is due first.
use Rattle.std.proofs.Common.{◌≡◌, ℕ, ◌+◌, ◌≤◌, List, [], ◌∷◌, refl, sym, ap, ◌∙◌, arith, Option, Some, None}
use Rattle.std.specs.Prelude.{nat_le, slice_get}
use Rattle.std.proofs.lemmas.Bool.{le-leb, cond-true}
use Rattle.std.proofs.lemmas.Option.{none-some, same_Some}
use Rattle.outstanding.specs.declared.ask.Path.{Path}
use Rattle.outstanding.specs.Values.{Ask}
use Rattle.outstanding.specs.Lists.{AreInTurn}
use Rattle.outstanding.specs.Due.{due_of, sooner, next_due}

-- a first ask asked no later than the rest is due first
no_earlier : (ask_ms : ℕ) (first : ℕ × Path) (rest : Option (ℕ × Path)) → ((later : ℕ × Path) → rest ≡ Some later → first.0 ≤ later.0) → sooner first rest ≡ Some first
no_earlier ask_ms first None all = refl
no_earlier ask_ms first (Some later) all = cond-true (nat_le first.0 later.0) _ _ (le-leb first.0 later.0 (all later refl))

pub oldest_first : (ask_ms : ℕ) (asks : List Ask) (a : Ask) → AreInTurn (a ∷ asks) → next_due ask_ms (a ∷ asks) ≡ Some (due_of ask_ms a)
oldest_first ask_ms [] a by_arrival = refl
oldest_first ask_ms (b ∷ asks) a by_arrival =
    let rest : next_due ask_ms (b ∷ asks) ≡ Some (due_of ask_ms b) = oldest_first ask_ms asks b by_arrival.1 in
    no_earlier ask_ms (due_of ask_ms a) (next_due ask_ms (b ∷ asks)) (λ later e.
    let same : due_of ask_ms b ≡ later = same_Some (due_of ask_ms b) later (sym rest ∙ e) in
    let moment : b.asked + ask_ms ≡ later.0 = ap (λ (d : ℕ × Path). d.0) same in
    omega (arith, moment, by_arrival.0.0.asked))

pub first_due : (ask_ms : ℕ) (asks : List Ask) (a : Ask) → Some a ≡ slice_get asks 0 → AreInTurn asks → Some (due_of ask_ms a) ≡ next_due ask_ms asks
first_due ask_ms [] a is by_arrival = absurd (none-some a (sym is))
first_due ask_ms (b ∷ asks) a is by_arrival = ap (λ (x : Ask). Some (due_of ask_ms x)) (same_Some a b is) ∙ sym (oldest_first ask_ms asks b by_arrival)
