-- Neighbours of the history in `LookedOn`, with all else holding: a slot used by no look-up (the
-- reply's own alias), and a reply leading to no further name.
use Rattle.std.proofs.Common.{◌≡◌, ℕ, List, [], ◌∷◌, ◌++◌, Option, Some, refl, sym, ap, subst, inl, inr}
use Rattle.std.specs.Prelude.{map, flat_map}
use Rattle.std.specs.List.{AllByRecursion}
use Rattle.dns_message.specs.Questions.{asked_at}
use Rattle.dns_message.specs.Values.{Question}
use Rattle.trust_rank.specs.declared.slot.Slot.{Slot}
use Rattle.trust_rank.specs.Values.{elsewhere}
use Rattle.record_cache.specs.Values.{Held}
use Rattle.step_history.specs.Carried.{NotReplaced}
use Rattle.step_table.proofs.Played.{a, address, config}
use Rattle.theorem_use.specs.Touched.{Touched, TouchedInEra, LeadsAlong, LooksAlong, LooksOn}
use Rattle.worked_claims.proofs.Silent.{nothing_heard}
use Rattle.worked_claims.proofs.Accepted.{asked, answered, piece, held, carries, accepts}
use Rattle.worked_claims.proofs.LookedOn.{asks_b, before, leads_on, alias, LookedOn, touched_before, looks_on}
use Rattle.worked_claims.proofs.OnlyThis.{leads_nowhere}
use Rattle.worked_claims.proofs.Whole.{history}

-- ---- the slot of the alias in the reply

but_for_what_it_uses : LooksAlong (Unit {0}) 2020 touched_before (address a) (alias.piece.slot ∷ [])
    → LookedOn (alias.piece.slot ∷ [])
but_for_what_it_uses along = looks_on ((alias.piece.slot ∷ []) ∷ []) (along, tt)

touched_before_is : TouchedInEra config before ([] ∷ [] ∷ [] ∷ []) touched_before
touched_before_is = inr (
  refl,
  [],
  _,
  inl (nothing_heard config asks_b history refl, refl),
  inr (
    refl,
    held ∷ [],
    _,
    inr (piece ∷ [], carries 4 0, refl),
    inr (refl, [], [], inl (nothing_heard config asked [] refl, refl), refl, refl),
    refl,
  ),
  refl,
)

-- a look-up leads along the address alone
the_address : (h : Held) → NotReplaced h (held ∷ []) → held ≡ h
the_address h (inl is) = is
the_address h (inr (keeps, never)) = absurd never

all_the_address : (q : Question) (pieces : List Held) → LeadsAlong (Unit {0}) 2020 touched_before q pieces
    → AllByRecursion (λ (h : Held). held ≡ h) pieces
all_the_address q [] leads = tt
all_the_address q (h ∷ pieces) (living, inl (ends, none)) =
    (the_address h living.0, subst (AllByRecursion (λ (x : Held). held ≡ x)) (sym none) tt)
all_the_address q (h ∷ pieces) (living, inr (other, slot, name, leads, more)) =
    (the_address h living.0, all_the_address (asked_at q name) pieces more)

abbrev IsUsed : Slot → Type 0
IsUsed slot = held.piece.slot ≡ slot

slots_of : (pieces : List Held) → AllByRecursion (λ (h : Held). held ≡ h) pieces
    → AllByRecursion IsUsed (map (λ (h : Held). h.piece.slot) pieces)
slots_of [] all = tt
slots_of (h ∷ pieces) (is, all) = (ap (λ (x : Held). x.piece.slot) is, slots_of pieces all)

both_used : (xs ys : List Slot) → AllByRecursion IsUsed xs → AllByRecursion IsUsed ys → AllByRecursion IsUsed (xs ++ ys)
both_used [] ys left right = right
both_used (x ∷ xs) ys (is, left) right = (is, both_used xs ys left right)

all_used : (q : Question) (each : List (List Slot))
    → AllByRecursion (LooksAlong (Unit {0}) 2020 touched_before q) each
    → AllByRecursion IsUsed (flat_map (λ used. used) each)
all_used q [] along = tt
all_used q (slots ∷ each) (looks, along) =
    both_used slots _
    (subst (AllByRecursion IsUsed) (sym looks.are) (slots_of looks.pieces (all_the_address q looks.pieces looks.leads)))
    (all_used q each along)

it_uses_not_the_alias : LookedOn (alias.piece.slot ∷ []) → ⊥
it_uses_not_the_alias looked = by (looked touched_before touched_before_is)
  where
    by : LooksOn config leads_on before touched_before (alias.piece.slot ∷ []) → ⊥
    by looks =
        let all = subst (AllByRecursion IsUsed) (sym looks.are) (all_used (asked_at looks.accepts.asked looks.name) looks.each looks.along) in
        let kinds : ◌≡◌ {A = Option ℕ} (Some 1) (Some 5) = ap (λ (slot : Slot). slot.kind) all.0 in
        absurd cc

-- ---- a reply leading to no further name: all else holds, and no slot is used

abbrev LookedOnAt : Type 0
LookedOnAt = (name : List (List ℕ)) × ((accepts 4 0).end ≡ elsewhere name)

but_for_where_it_leads : (ts : List Touched) → LookedOnAt → LooksOn config answered (asked ∷ []) ts []
but_for_where_it_leads ts (name, end) = record {
  pieces = piece ∷ [];
  servers = [];
  accepts = accepts 4 0;
  name = name;
  end = end;
  each = [];
  are = refl;
  along = tt;
}

it_leads_nowhere : (ts : List Touched) (slots : List Slot) → LooksOn config answered (asked ∷ []) ts slots → ⊥
it_leads_nowhere ts slots looks = leads_nowhere looks.pieces looks.servers looks.accepts looks.name looks.end
