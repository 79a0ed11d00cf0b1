-- Look-ups of stale entries: the code's, slot by slot, and their laws.
use Rattle.std.proofs.Common.{◌≡◌, ◌≢◌, ℕ, ◌+◌, ◌*◌, Bool, true, false, if◌then◌else◌, ◌&&◌, ◌==◌, nat_eq, nat_lt, List, Option, None, Some, refl, sym, ap, ◌∙◌, arith}
use Rattle.std.specs.List.{find, AllByRecursion}
use Rattle.std.specs.Cmp.{first_so, second_so}
use Rattle.std.specs.Cmp.Lexicographic.{pointwise}
use Rattle.std.proofs.lemmas.Bool.{eq-eqb}
use Rattle.dns_name.specs.Labels.{lowered}
use Rattle.dns_name.proofs.CallerLemmas.{lowered_again, lowered_is_same}
use Rattle.dns_message.specs.Values.{Question}
use Rattle.record_cache.specs.TrustRank.Replacing.{same_kind}
use Rattle.record_cache.specs.TrustRank.Formed.{IsPiece}
use Rattle.record_cache.specs.Values.{Held}
use Rattle.record_cache.specs.Ageing.{is_alive}
use Rattle.record_cache.specs.Entries.{promoted, AreApart, AreHeld}
use Rattle.record_cache.proofs.CallerLemmas.{promotion_keeps_entry, promoted_are_held}
use Rattle.negative_cache.specs.Values.{Found, rows, alias, no_data, denied, miss}
use Rattle.negative_cache.specs.Entries.{is_set}
use Rattle.negative_cache.specs.Finding.{is_of_type, set_for, alias_for, no_data_for, denial_for, found_or}
use Rattle.negative_cache.specs.Stale.{is_within, stale_set_for, stale_alias_for, stale}
use Rattle.negative_cache.specs.BySlot.{slots_of, stale_by_slot}
use Rattle.negative_cache.specs.Laws.{IsTypedWithin, FitsWithin, StaleFits, NoWindowFindsTheLiving, NothingIsFoundOfDenied, PromotionKeepsStale, EqualQuestionsFindTheSameStale, set_or_alias}
use Rattle.negative_cache.proofs.Denying.{all_lower}
use Rattle.negative_cache.proofs.SlotBySlot.{find_same, all_are, typed_is}
use Rattle.negative_cache.proofs.Fitting.{find_some, or_holds, typed_denied, none_of_denied, nothing_found_of_denied}

-- ---- slot by slot

stale_is : (window moment : ℕ) (entries : List Held) (q : Question) → AreApart entries → AllByRecursion (λ h. IsPiece h.piece) entries → lowered q.name ≡ q.name
    → stale_by_slot window moment (slots_of entries) q.name q.class q.kind ≡ stale window moment entries q
stale_is window moment entries q apart formed low =
    let lower = all_lower entries formed in
    let set = typed_is entries q apart lower low (is_within window moment) is_set q.kind in
    let other = typed_is entries q apart lower low (is_within window moment) is_set 5 in
    λ i. found_or rows (set i) (found_or alias (if q.kind == 5 then None else other i) miss)

-- ---- equal questions

pub equal_questions_find_the_same_stale : EqualQuestionsFindTheSameStale
equal_questions_find_the_same_stale window moment entries kind class name other same =
    let typed : List (List ℕ) → ℕ → Option Held = λ low of_kind. find (λ h. (pointwise (pointwise nat_eq) low (lowered h.piece.slot.key) && (class == h.piece.slot.class) && same_kind (Some of_kind) h.piece.slot.kind) && (is_within window moment h && is_set h)) entries in
    λ i. found_or rows (typed (same i) kind) (found_or alias (if kind == 5 then None else typed (same i) 5) miss)

-- the finding, slot by slot, for the name's key
pub by_slot_within : (window moment capacity : ℕ) (entries : List Held) (q : Question) → AreHeld (record { capacity = capacity; entries = entries })
    → stale_by_slot window moment (slots_of entries) (lowered q.name) q.class q.kind ≡ stale window moment entries q
by_slot_within window moment capacity entries q held =
    stale_is window moment entries (record { name = lowered q.name; kind = q.kind; class = q.class }) held.apart held.formed (lowered_again q.name)
    ∙ equal_questions_find_the_same_stale window moment entries q.kind q.class (lowered q.name) q.name (lowered_is_same q.name)

-- ---- a promotion

pub promotion_keeps_stale : PromotionKeepsStale
promotion_keeps_stale window moment capacity entries q slot held =
    sym (by_slot_within window moment capacity (promoted slot entries) q (promoted_are_held capacity slot entries held))
    ∙ (λ i. stale_by_slot window moment (λ s. promotion_keeps_entry slot s entries held.apart i) (lowered q.name) q.class q.kind)
    ∙ by_slot_within window moment capacity entries q held

-- ---- findings that fit

typed_within : (window moment : ℕ) (entries : List Held) (q : Question) (kind : ℕ) (h : Held) → stale_set_for window moment entries q kind ≡ Some h → IsTypedWithin window moment entries q kind h
typed_within window moment entries q kind h is =
    let there = find_some (λ x. is_of_type q kind x && (is_within window moment x && is_set x)) entries h is in
    let second = second_so (is_of_type q kind h) (is_within window moment h && is_set h) there.1 in
    record {
      among = there.0;
      slot = first_so (is_of_type q kind h) (is_within window moment h && is_set h) there.1;
      within = first_so (is_within window moment h) (is_set h) second;
      set = second_so (is_within window moment h) (is_set h) second;
    }

alias_fits_within : (window moment : ℕ) (entries : List Held) (q : Question) (h : Held) (b : Bool) → (q.kind == 5) ≡ b → (if b then None else stale_set_for window moment entries q 5) ≡ Some h
    → IsTypedWithin window moment entries q 5 h × (q.kind ≢ 5)
alias_fits_within window moment entries q h true five is = cc
alias_fits_within window moment entries q h false five is = (typed_within window moment entries q 5 h is, λ same. let yes = eq-eqb q.kind 5 same in absurd cc)

pub stale_fits : StaleFits
stale_fits window moment entries q =
    let next : Found = found_or alias (stale_alias_for window moment entries q) miss in
    or_holds (FitsWithin window moment entries q) rows (stale_set_for window moment entries q q.kind) next (λ h is. typed_within window moment entries q q.kind h is)
    (or_holds (FitsWithin window moment entries q) alias (stale_alias_for window moment entries q) miss (λ h is. alias_fits_within window moment entries q h (q.kind == 5) refl is) tt)

-- ---- no window

end_is : (accepted lifetime : ℕ) → accepted + 1000 * (lifetime + 0) ≡ accepted + 1000 * lifetime
end_is accepted lifetime = omega arith

within_none : (moment : ℕ) (h : Held) → is_within 0 moment h ≡ is_alive moment h
within_none moment h = ap (nat_lt moment) (end_is h.accepted h.piece.lifetime)

set_is : (moment : ℕ) (entries : List Held) (q : Question) (kind : ℕ) → stale_set_for 0 moment entries q kind ≡ set_for moment entries q kind
set_is moment entries q kind =
    find_same (λ h. is_of_type q kind h && (is_within 0 moment h && is_set h)) (λ h. is_of_type q kind h && (is_alive moment h && is_set h)) entries
    (all_are (λ h. (is_of_type q kind h && (is_within 0 moment h && is_set h)) ≡ (is_of_type q kind h && (is_alive moment h && is_set h)))
    (λ h. ap (λ b. is_of_type q kind h && (b && is_set h)) (within_none moment h)) entries)

-- denials are left out at any place
denials_out : (set other empty error : Option Held) → found_or rows set (found_or alias other miss)
    ≡ set_or_alias (found_or rows set (found_or alias other (found_or no_data empty (found_or denied error miss))))
denials_out (Some h) other empty error = refl
denials_out None (Some h) empty error = refl
denials_out None None (Some h) error = refl
denials_out None None None (Some h) = refl
denials_out None None None None = refl

pub no_window_finds_the_living : NoWindowFindsTheLiving
no_window_finds_the_living routes moment entries q =
    (λ i. found_or rows (set_is moment entries q q.kind i) (found_or alias (if q.kind == 5 then None else set_is moment entries q 5 i) miss))
    ∙ denials_out (set_for moment entries q q.kind) (alias_for moment entries q) (no_data_for moment entries q) (denial_for routes moment entries q)

-- ---- denied names

pub nothing_is_found_of_denied : NothingIsFoundOfDenied
nothing_is_found_of_denied routes window moment entries q none is =
    let no = λ (h : Held). none_of_denied routes entries q h none is in
    let next : Found = found_or alias (stale_alias_for window moment entries q) miss in (
      nothing_found_of_denied routes moment entries q none is,
      or_holds (λ f. f ≡ miss) rows (stale_set_for window moment entries q q.kind) next
          (λ h e. let t = typed_within window moment entries q q.kind h e in absurd (no h t.among (typed_denied routes q q.kind h t.slot)))
          (or_holds (λ f. f ≡ miss) alias (stale_alias_for window moment entries q) miss
          (λ h e. let t = alias_fits_within window moment entries q h (q.kind == 5) refl e in absurd (no h t.0.among (typed_denied routes q 5 h t.0.slot))) refl),
    )
