-- Recent pieces, and neighbours that are not.
use Rattle.std.proofs.Common.{◌≡◌, ◌∙◌, ℕ, ◌+◌, ◌*◌, ◌<◌, ◌≤◌, List, [], ◌∷◌, length, map, refl, sym, ap, subst, inl, inr, arith, Option, Some, None}
use Rattle.dns_message.specs.Data.{name_of_rdata}
use Rattle.dns_message.specs.Names.{step as name_step, walk_in, name_within}
use Rattle.suffix_routes.specs.Routes.{route_of}
use Rattle.trust_rank.specs.declared.slot.Slot.{Slot}
use Rattle.trust_rank.specs.Values.{rows, no_data}
use Rattle.record_cache.specs.Values.{Held}
use Rattle.step_history.specs.CacheLaws.Replacing.{AreOfOneSlot, Replaces}
use Rattle.step_history.proofs.CacheLaws.CallerLemmas.{keeps_place, replaces_exactly, serves_exactly}
use Rattle.step_history.specs.Carried.{NotReplaced}
use Rattle.step_table.proofs.Played.{config}
use Rattle.theorem_use.specs.Use.{IsOneOf}
use Rattle.theorem_use.specs.Touched.{Touched, IsLiving, LeadsAlong, LooksAlong}
use Rattle.theorem_use.specs.Recent.{IsBelieved, StaysBelieved, Brings, IsRecent, IsReady, LeadsNowhere}
use Rattle.theorem_use.specs.Recent.{IsReadyEnd, IsReadyAlias, IsAnsweredByRecent}
use Rattle.theorem_use.proofs.Worked.{example, a, b, host, alias, name_error, address}

-- ---- steps

-- a reply carried these, and memory was found; or for one of them it was not
abbrev carrying : List Held → Touched
carrying carried = record { carried = carried; used = []; unkept = 0 }

abbrev forgetting : List Held → Touched
forgetting carried = record { carried = carried; used = []; unkept = 1 }

-- a look-up used these slots
abbrev using_slots : List Slot → Touched
using_slots slots = record { carried = []; used = slots; unkept = 0 }

-- the addresses of a.e, b.e and e, for five minutes
abbrev of_a : Held
of_a = host a 1000 300 3

abbrev of_b : Held
of_b = host b 1010 300 3

abbrev of_e : Held
of_e = host example 1030 300 3

-- ---- slots that differ

-- the first letter of a name
abbrev label_of : List (List ℕ) → ℕ
label_of [] = 0
label_of ([] ∷ labels) = 0
label_of ((letter ∷ label) ∷ labels) = letter

differ : (s t : Slot) → (label_of s.key ≡ label_of t.key → ⊥) → s ≡ t → ⊥
differ s t other same = other (ap (λ (x : Slot). label_of x.key) same)

a_is_not_b : of_a.piece.slot ≡ of_b.piece.slot → ⊥
a_is_not_b same = differ of_a.piece.slot of_b.piece.slot (λ letters. omega (arith, letters)) same

-- two slots are more than one
one_too_few : (s t : Slot) → (s ≡ t → ⊥) → (slots : List Slot) → length slots ≤ 1 → IsOneOf s slots → IsOneOf t slots → ⊥
one_too_few s t other [] few one two = one
one_too_few s t other (x ∷ []) few (inl is) (inl was) = other (sym is ∙ was)
one_too_few s t other (x ∷ []) few (inl is) (inr never) = never
one_too_few s t other (x ∷ []) few (inr never) two = never
one_too_few s t other (x ∷ y ∷ slots) few one two = omega (arith, few)

-- ---- belief

-- next to no older piece each is believed
alone : (o : Held) → IsBelieved o []
alone o = inr (λ h none same alive. absurd none)

-- next to an address of another name, too
next_to_a : IsBelieved of_b (of_a ∷ [])
next_to_a = inr each
  where
    each : (h : Held) → NotReplaced h (of_a ∷ []) → AreOfOneSlot h.piece.slot of_b.piece.slot → 1010 < h.accepted + 1000 * h.piece.lifetime → h.piece.rank ≤ 3
    each h (inl is) one alive = subst (λ (x : Held). x.piece.rank ≤ 3) is (omega arith)
    each h (inr never) one alive = absurd never.1

-- a piece of a lower rank is not believed while an older one is alive
low_rank : IsBelieved (host a 2000 300 1) (of_a ∷ []) → ⊥
low_rank (inl none) = absurd (cc)
low_rank (inr each) = let low = each of_a (inl refl) (record { name = refl; class = refl; kind = refl }) (omega arith) in omega (arith, low)

-- once that has expired it is
low_rank_later : IsBelieved (host a 301000 300 1) (of_a ∷ [])
low_rank_later = inr each
  where
    each : (h : Held) → NotReplaced h (of_a ∷ []) → AreOfOneSlot h.piece.slot of_a.piece.slot → 301000 < h.accepted + 1000 * h.piece.lifetime → h.piece.rank ≤ 1
    each h (inl is) one alive = let over = subst (λ (x : Held). 301000 < x.accepted + 1000 * x.piece.lifetime) (sym is) alive in absurd (omega (arith, over))
    each h (inr never) one alive = absurd never.1

-- a name error is always believed
error_believed : (older : List Held) → IsBelieved (name_error a 2000 1) older
error_believed older = inl refl

-- ---- recent

-- the reply that brought it
brings_a : Brings (carrying (of_a ∷ [])) [] of_a
brings_a = record { believed = inl (refl, alone of_a); memory = refl }

just_came : IsRecent 1 (carrying (of_a ∷ []) ∷ []) of_a (of_a.piece.slot ∷ [])
just_came = (omega arith, record { carried = (inl refl, tt); used = tt }, inl brings_a)

-- not without memory
no_memory : (slots : List Slot) → IsRecent 1 (forgetting (of_a ∷ []) ∷ []) of_a slots → ⊥
no_memory slots (few, touches, inl brings) = let one : 1 ≡ 0 = brings.memory in omega (arith, one)
no_memory slots (few, touches, inr (keeps, inl (used, before, never))) = never
no_memory slots (few, touches, inr (keeps, inr never)) = never

-- a piece of another slot takes no place
keeps_a : Replaces of_b.piece of_a.piece → ⊥
keeps_a = keeps_place of_b.piece of_a.piece refl

-- with room for two slots both are recent
abbrev two_came : List Touched
two_came = carrying (of_b ∷ []) ∷ carrying (of_a ∷ []) ∷ []

older_of_two : IsRecent 2 two_came of_a (of_a.piece.slot ∷ of_b.piece.slot ∷ [])
older_of_two = (
  omega arith,
  record { carried = (inr (inl refl), tt); used = tt },
  inr ((keeps_a, tt), inr (omega arith, record { carried = (inl refl, tt); used = tt }, inl brings_a)),
)

-- with room for one the newer one alone is
newer_of_two : IsRecent 1 two_came of_b (of_b.piece.slot ∷ [])
newer_of_two = (omega arith, record { carried = (inl refl, tt); used = tt }, inl (record { believed = inl (refl, next_to_a); memory = refl }))

no_room : (slots : List Slot) → IsRecent 1 two_came of_a slots → ⊥
no_room slots (few, touches, inl brings) = by brings.believed
  where
    by : StaysBelieved of_a (of_b ∷ []) (of_a ∷ []) → ⊥
    by (inl (same, believed)) = let times : 1010 ≡ 1000 = ap (λ (h : Held). h.accepted) same in omega (arith, times)
    by (inr (keeps, never)) = never
no_room slots (few, touches, inr (keeps, inl (never, before, was))) = never
no_room slots (few, touches, inr (keeps, inr (few', touches', before))) = one_too_few of_a.piece.slot of_b.piece.slot a_is_not_b slots few touches'.carried.0 touches.carried.0

-- a use puts it in front again: with room for two it stays recent next to a third slot
abbrev used_between : List Touched
used_between = carrying (of_e ∷ []) ∷ using_slots (of_a.piece.slot ∷ []) ∷ two_came

renewed : IsRecent 2 used_between of_a (of_a.piece.slot ∷ of_e.piece.slot ∷ [])
renewed = (
  omega arith,
  record { carried = (inr (inl refl), tt); used = tt },
  inr (
    (keeps_place of_e.piece of_a.piece refl, tt),
    inr (
      omega arith,
      record { carried = tt; used = (inl refl, tt) },
      inr (tt, inl (inl refl, of_a.piece.slot ∷ of_b.piece.slot ∷ [], older_of_two)),
    ),
  ),
)

-- a use of another slot is no use of its own
other_use : (slots : List Slot) → IsRecent 1 (using_slots (of_b.piece.slot ∷ []) ∷ carrying (of_a ∷ []) ∷ []) of_a slots → ⊥
other_use slots (few, touches, inl brings) = brings.believed
other_use slots (few, touches, inr (keeps, inl (inl same, before, was))) = a_is_not_b (sym same)
other_use slots (few, touches, inr (keeps, inl (inr never, before, was))) = never
other_use slots (few, touches, inr (keeps, inr (few', touches', before))) = one_too_few of_a.piece.slot of_b.piece.slot a_is_not_b slots few touches'.carried.0 touches.used.0

-- a use that comes after it was lost brings nothing back
too_late : (slots : List Slot) → IsRecent 1 (using_slots (of_a.piece.slot ∷ []) ∷ two_came) of_a slots → ⊥
too_late slots (few, touches, inl brings) = brings.believed
too_late slots (few, touches, inr (keeps, inl (used, before, recent))) = no_room before recent
too_late slots (few, touches, inr (keeps, inr recent)) = no_room slots recent

-- a newer piece of its slot and rank takes its place
replaced : (slots : List Slot) → IsRecent 2 (carrying (host a 1500 300 3 ∷ []) ∷ carrying (of_a ∷ []) ∷ []) of_a slots → ⊥
replaced slots (few, touches, inl brings) = by brings.believed
  where
    by : StaysBelieved of_a (host a 1500 300 3 ∷ []) (of_a ∷ []) → ⊥
    by (inl (same, believed)) = let times : 1500 ≡ 1000 = ap (λ (h : Held). h.accepted) same in omega (arith, times)
    by (inr (keeps, never)) = never
replaced slots (few, touches, inr (keeps, more)) = keeps.0 (replaces_exactly.only (host a 1500 300 3).piece of_a.piece refl)

-- up to its last millisecond
ready : IsReady 1 300999 (carrying (of_a ∷ []) ∷ []) of_a
ready = record { alive = omega arith; slots = of_a.piece.slot ∷ []; recent = just_came }

expired : IsReady 1 301000 (carrying (of_a ∷ []) ∷ []) of_a → ⊥
expired h = let alive = h.alive in omega (arith, alive)

-- ---- a denial, and an alias

-- no address is there of a.e
abbrev no_address : Held
no_address = record {
  piece = record { owner = a; slot = record { key = a; class = 1; kind = Some 1 }; body = no_data None; lifetime = 300; rank = 3; route = 0 };
  accepted = 1000;
}

-- no alias leads on
leads_nowhere : LeadsNowhere 2000 (carrying (no_address ∷ []) ∷ []) (address a)
leads_nowhere = inr none
  where
    none : (h : Held) → IsLiving 2000 (carrying (no_address ∷ []) ∷ []) h → AreOfOneSlot h.piece.slot (record { key = a; class = 1; kind = Some 5 })
        → (each : List (List ℕ)) → h.piece.body ≡ rows each → ⊥
    none h (inl is, alive) of each set = let kinds : ◌≡◌ {A = Option ℕ} (Some 1) (Some 5) = ap (λ (x : Held). x.piece.slot.kind) is ∙ of.kind in absurd (cc)
    none h (inr never, alive) of each set = never.1

-- where an alias is alive, the denial of a type is no answer
alias_leads_on : LeadsNowhere 2000 (carrying (no_address ∷ alias 1000 300 ∷ []) ∷ []) (address a) → ⊥
alias_leads_on (inl five) = let same : 1 ≡ 5 = five in omega (arith, same)
alias_leads_on (inr none) = none (alias 1000 300) (inr (kept, inl refl), omega arith) (record { name = refl; class = refl; kind = refl }) _ refl
  where
    kept : Replaces no_address.piece (alias 1000 300).piece → ⊥
    kept = keeps_place no_address.piece (alias 1000 300).piece refl

-- ---- a question that recent pieces answer

-- a reply brought an alias of a.e and the address of its target
abbrev chain_came : List Touched
chain_came = carrying (of_b ∷ alias 1000 300 ∷ []) ∷ []

next_to_alias : IsBelieved of_b (alias 1000 300 ∷ [])
next_to_alias = inr each
  where
    each : (h : Held) → NotReplaced h (alias 1000 300 ∷ []) → AreOfOneSlot h.piece.slot of_b.piece.slot → 1010 < h.accepted + 1000 * h.piece.lifetime → h.piece.rank ≤ 3
    each h (inl is) one alive = let kinds : ◌≡◌ {A = Option ℕ} (Some 5) (Some 1) = ap (λ (x : Held). x.piece.slot.kind) is ∙ one.kind in absurd (cc)
    each h (inr never) one alive = absurd never.1

ready_alias : IsReadyAlias config 2000 chain_came (address a) (alias 1000 300) b
unfolding name_of_rdata name_within walk_in name_step
ready_alias = record {
  ready = record {
    alive = omega arith;
    slots = of_b.piece.slot ∷ (alias 1000 300).piece.slot ∷ [];
    recent = (
      omega arith,
      record { carried = (inl refl, (inr (inl refl), tt)); used = tt },
      inl (record { believed = inr (keeps_place of_b.piece (alias 1000 300).piece refl, inl (refl, alone (alias 1000 300))); memory = refl }),
    );
  };
  other = λ five. (let same : 1 ≡ 5 = five in omega (arith, same));
  slot = record { name = refl; class = refl; kind = refl };
  leads = record { datum = _; body = refl; leads = refl };
}

-- no question for an alias follows one
asks_for_aliases : IsReadyAlias config 2000 chain_came (record { name = a; kind = 5; class = 1 }) (alias 1000 300) b → ⊥
asks_for_aliases leads = leads.other refl

ready_end : IsReadyEnd config 2000 chain_came (address b) of_b
unfolding route_of
ready_end = record {
  ready = record {
    alive = omega arith;
    slots = of_b.piece.slot ∷ (alias 1000 300).piece.slot ∷ [];
    recent = (
      omega arith,
      record { carried = (inl refl, (inr (inl refl), tt)); used = tt },
      inl (record { believed = inl (refl, next_to_alias); memory = refl }),
    );
  };
  ends = record { name = refl; class = refl; kind = refl };
  on_route = serves_exactly.only config b 0 refl;
  alone = inl (_, refl);
}

-- the address is no end for the name of the alias
other_end : IsReadyEnd config 2000 chain_came (address a) of_b → ⊥
other_end end = let letters = ap label_of end.ends.name in omega (arith, letters)

-- one alias leads to it
answered_along : IsAnsweredByRecent config 2000 chain_came 1 (address a)
answered_along = inr (alias 1000 300, b, ready_alias, (of_b, ready_end))

-- the alias itself is no address
alias_no_end : IsReadyEnd config 2000 chain_came (address a) (alias 1000 300) → ⊥
alias_no_end end = let kinds : ◌≡◌ {A = Option ℕ} (Some 5) (Some 1) = end.ends.kind in absurd (cc)

-- so without an alias nothing leads to it
too_far : IsAnsweredByRecent config 2000 chain_came 0 (address a) → ⊥
too_far (o, end) = by end.ready.slots end.ready.recent
  where
    came : StaysBelieved o (of_b ∷ alias 1000 300 ∷ []) [] → ⊥
    came (inl (is, believed)) = other_end (subst (IsReadyEnd config 2000 chain_came (address a)) (sym is) end)
    came (inr (keeps, inl (is, believed))) = alias_no_end (subst (IsReadyEnd config 2000 chain_came (address a)) (sym is) end)
    came (inr (keeps, inr (other, never))) = never

    by : (slots : List Slot) → IsRecent 4096 chain_came o slots → ⊥
    by slots (few, touches, inl brings) = came brings.believed
    by slots (few, touches, inr (keeps, inl (never, before, was))) = never
    by slots (few, touches, inr (keeps, inr never)) = never

-- ---- the slots that a look-up used

-- along an alias to an address
along : LeadsAlong ⊥ 2000 (carrying (alias 1000 300 ∷ of_b ∷ []) ∷ []) (address a) (alias 1000 300 ∷ of_b ∷ [])
unfolding name_of_rdata name_within walk_in name_step
along = (
  (inl refl, omega arith),
  inr (
    (λ five. let same : 1 ≡ 5 = five in omega (arith, same)),
    record { name = refl; class = refl; kind = refl },
    b,
    record { datum = _; body = refl; leads = refl },
    ((inr (keeps_place (alias 1000 300).piece of_b.piece refl, inl refl), omega arith), inl (record { name = refl; class = refl; kind = refl }, refl)),
  ),
)

-- not along a piece that was not carried, nor along none where one answers
not_carried : LeadsAlong ⊥ 2000 [] (address a) (of_a ∷ []) → ⊥
not_carried leads = leads.0.0

answers_from_nothing : LeadsAlong ⊥ 2000 (carrying (of_a ∷ []) ∷ []) (address a) [] → ⊥
answers_from_nothing never = never

-- their slots are used, and no others
along_both : LooksAlong ⊥ 2000 (carrying (alias 1000 300 ∷ of_b ∷ []) ∷ []) (address a) ((alias 1000 300).piece.slot ∷ of_b.piece.slot ∷ [])
along_both = record { pieces = alias 1000 300 ∷ of_b ∷ []; leads = along; few = omega arith; are = refl }

uses_no_slot : LooksAlong ⊥ 2000 (carrying (of_a ∷ []) ∷ []) (address a) [] → ⊥
uses_no_slot looks = by looks.pieces looks.leads looks.are
  where
    by : (pieces : List Held) → LeadsAlong ⊥ 2000 (carrying (of_a ∷ []) ∷ []) (address a) pieces → ◌≡◌ {A = List Slot} [] (map (λ h. h.piece.slot) pieces) → ⊥
    by [] never are = never
    by (h ∷ pieces) leads are = absurd (cc)
