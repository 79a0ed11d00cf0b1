-- Changes that keep the result of each look-up, and the removed name errors.
use Rattle.std.proofs.Common.{◌≡◌, ℕ, Bool, true, false, if◌then◌else◌, ◌&&◌, ◌||◌, ◌==◌, not, nat_eq, nat_le, List, filter, Option, None, Some, refl, sym, ap, ◌∙◌}
use Rattle.std.specs.Prelude.{is_none}
use Rattle.std.specs.Option.{option_eq}
use Rattle.std.specs.List.{find}
use Rattle.std.specs.Cmp.Lexicographic.{pointwise}
use Rattle.dns_name.specs.Labels.{lowered, is_under, same}
use Rattle.dns_name.proofs.CallerLemmas.{same_reflexive, same_symmetric, lowered_again, lowered_is_same, is_under_respects}
use Rattle.dns_message.specs.Values.{Question}
use Rattle.suffix_routes.specs.Values.{Route}
use Rattle.suffix_routes.specs.Routes.{route_of}
use Rattle.suffix_routes.proofs.CallerLemmas.{route_of_respects_same}
use Rattle.record_cache.specs.TrustRank.Replacing.{same_kind, is_name_error}
use Rattle.record_cache.specs.Values.{Held}
use Rattle.record_cache.specs.Ageing.{is_alive}
use Rattle.record_cache.specs.Entries.{promoted, AreHeld}
use Rattle.record_cache.proofs.CallerLemmas.{promotion_keeps_entry, promoted_are_held}
use Rattle.negative_cache.specs.Values.{rows, alias, no_data, denied, miss}
use Rattle.negative_cache.specs.Entries.{is_set, is_no_data}
use Rattle.negative_cache.specs.Finding.{nearest, found_or, found}
use Rattle.negative_cache.specs.BySlot.{slots_of, found_by_slot}
use Rattle.negative_cache.specs.Laws.{PromotionKeepsFound, EqualQuestionsFindTheSame, ShownIsReplaced}
use Rattle.negative_cache.proofs.SlotBySlot.{by_slot_is_found}

-- ---- equal questions

pub equal_questions_find_the_same : EqualQuestionsFindTheSame
equal_questions_find_the_same routes moment entries kind class name other same =
    let typed : List (List ℕ) → ℕ → (Held → Bool) → Option Held = λ low of_kind P. find (λ h. (pointwise (pointwise nat_eq) low (lowered h.piece.slot.key) && (class == h.piece.slot.class) && same_kind (Some of_kind) h.piece.slot.kind) && (is_alive moment h && P h)) entries in
    let route = route_of_respects_same routes name other same in
    let under : (h : Held) → is_under name h.piece.slot.key ≡ is_under other h.piece.slot.key = λ h. is_under_respects name other h.piece.slot.key h.piece.slot.key same (same_reflexive h.piece.slot.key) in
    λ i. found_or rows (typed (same i) kind is_set)
    (found_or alias (if kind == 5 then None else typed (same i) 5 is_set)
    (found_or no_data (typed (same i) kind is_no_data)
    (found_or denied (nearest (filter (λ h. is_alive moment h && option_eq nat_eq (route_of routes h.piece.slot.key) (route i) && (is_name_error h.piece && (class == h.piece.slot.class) && under h i)) entries)) miss)))

-- ---- a promotion

as_key : (routes : List Route) (moment : ℕ) (entries : List Held) (q : Question) → found routes moment entries q ≡ found routes moment entries (record { name = lowered q.name; kind = q.kind; class = q.class })
as_key routes moment entries q = equal_questions_find_the_same routes moment entries q.kind q.class q.name (lowered q.name) (same_symmetric (lowered q.name) q.name (lowered_is_same q.name))

-- the finding, slot by slot, for the name's key
pub by_slot : (routes : List Route) (moment capacity : ℕ) (entries : List Held) (q : Question) → AreHeld (record { capacity = capacity; entries = entries })
    → found_by_slot routes moment (slots_of entries) (lowered q.name) q.class q.kind ≡ found routes moment entries q
by_slot routes moment capacity entries q held =
    by_slot_is_found routes moment entries (record { name = lowered q.name; kind = q.kind; class = q.class }) held.apart held.formed (lowered_again q.name)
    ∙ sym (as_key routes moment entries q)

pub promotion_keeps_found : PromotionKeepsFound
promotion_keeps_found routes moment capacity entries q slot held =
    sym (by_slot routes moment capacity (promoted slot entries) q (promoted_are_held capacity slot entries held))
    ∙ (λ i. found_by_slot routes moment (λ s. promotion_keeps_entry slot s entries held.apart i) (lowered q.name) q.class q.kind)
    ∙ by_slot routes moment capacity entries q held

-- ---- the removed name errors

and_false : (b : Bool) → (b && false) ≡ false
and_false true = refl
and_false false = refl

replaced : (kind other : Option ℕ) (same class under under' rank : Bool) → is_none kind ≡ false → under ≡ under'
    → (is_none other && class && under) ≡ (is_none other && (if is_none other then (same && class && same_kind kind other) || (not (is_none kind) && class && under') else (same && class && same_kind kind other) && rank))
replaced None other same class under under' rank some e = cc
replaced (Some k) None same class under under' rank some e = rw (and_false (same && class)) (ap (λ u. class && u) e)
replaced (Some k) (Some o) same class under under' rank some e = refl

pub shown_is_replaced : ShownIsReplaced
shown_is_replaced piece h formed typed =
    let key = h.piece.slot.key in
    let owner = sym (ap lowered formed.key ∙ lowered_again piece.owner) in
    replaced piece.slot.kind h.piece.slot.kind (same piece.slot.key key) (piece.slot.class == h.piece.slot.class) (is_under piece.owner key) (is_under piece.slot.key key) (nat_le h.piece.rank piece.rank)
    typed (is_under_respects piece.owner piece.slot.key key key owner (same_reflexive key))
