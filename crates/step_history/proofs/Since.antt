-- The pieces carried up to a step of the era, and since.
use Rattle.std.proofs.Common.{◌≡◌, ℕ, List, [], ◌∷◌, ◌++◌, refl, sym, ap, ◌∙◌, subst, inl, inr}
use Rattle.std.proofs.lemmas.Bool.{true≢false}
use Rattle.suffix_routes.specs.Values.{Config}
use Rattle.step_values.specs.Values.{Step}
use Rattle.trust_rank.specs.Values.{Piece}
use Rattle.record_cache.specs.Values.{Held}
use Rattle.step_history.specs.History.{moment_at, InEra}
use Rattle.step_history.specs.Carried.{then_carried, CarriedInEra}

pub then_carried-append : (t : ℕ) (ps : List Piece) (new os : List Held) → then_carried t ps (new ++ os) ≡ then_carried t ps new ++ os
then_carried-append t [] new os = refl
then_carried-append t (p ∷ ps) new os = then_carried-append t ps (record { piece = p; accepted = t } ∷ new) os

-- the pieces carried up to a step of the era are the older part of all carried pieces
pub carried_since : (c : Config) (upto now : List Step) (all : List Held) → InEra upto now → CarriedInEra c now all → (os : List Held) × (new : List Held) × CarriedInEra c upto os × (all ≡ new ++ os)
carried_since c upto [] all era h = absurd era
carried_since c upto (s ∷ past) all (inl here) h = (all, [], subst (λ (x : List Step). CarriedInEra c x all) (sym here) h, refl)
carried_since c upto (s ∷ past) all (inr later) (inl begun) = absurd (true≢false (sym begun.0 ∙ later.0))
carried_since c upto (s ∷ past) all (inr later) (inr (inl quiet)) = carried_since c upto past all later.1 quiet.2
carried_since c upto (s ∷ past) all (inr later) (inr (inr more)) =
    let rest = carried_since c upto past more.2 later.1 more.4 in
    (rest.0, then_carried (moment_at (s ∷ past)) more.1 rest.1, rest.2, more.5 ∙ ap (then_carried (moment_at (s ∷ past)) more.1) rest.3 ∙ then_carried-append (moment_at (s ∷ past)) more.1 rest.1 rest.0)
