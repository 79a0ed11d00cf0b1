-- The laws of the cache's definitions.
use Rattle.std.proofs.Common.{◌≡◌, ℕ, zero, suc, ◌+◌, ◌-◌, ◌≤◌, Bool, true, false, cond, if◌then◌else◌, ◌&&◌, ◌||◌, ◌==◌, not, nat_eq, ◌⊎◌, inl, inr, List, [], ◌∷◌, ◌++◌, length, filter, take, Option, None, Some, refl, sym, ap, subst, ◌∙◌, arith}
use Rattle.std.specs.Option.{option_to_list}
use Rattle.std.specs.Cmp.Lexicographic.{pointwise}
use Rattle.trust_rank.specs.declared.slot.Slot.{Slot}
use Rattle.trust_rank.specs.Replacing.{same_kind}
use Rattle.record_cache.specs.Values.{Held}
use Rattle.record_cache.specs.Entries.{of_slot, entry_of, has_slot, without, promoted, AreHeld}
use Rattle.record_cache.specs.Offers.{is_outranked}
use Rattle.record_cache.specs.Laws.{Among, IsLast, IsDropped, KeptIsFound, UnkeptIsNew, OfferedStay, OthersStay, PromotedStay, PromotedAreFound, OneSlotIsTheSame}
use Rattle.record_cache.specs.declared.cache.Offered.TheVariants.{Kept, Outranked, NotKept, Unkept}
use Rattle.record_cache.proofs.Lists as lists
use Rattle.record_cache.proofs.Stored.{rest, kept_is, room_left}

pub kept_is_found : KeptIsFound
kept_is_found capacity h entries some = rw (kept_is capacity h entries some, lists.own_slot h) refl

unkept : (outranked dead room has : Bool) → (if outranked then Outranked else if dead then NotKept else if room || has then Kept else Unkept) ≡ Unkept → (room ≡ false) × (has ≡ false)
unkept true dead room has same = cc
unkept false true room has same = cc
unkept false false true has same = cc
unkept false false false true same = cc
unkept false false false false same = (refl, refl)

pub unkept_is_new : UnkeptIsNew
unkept_is_new moment room piece entries same = unkept (is_outranked moment piece entries) (piece.lifetime == 0) room (has_slot piece.slot entries) same

-- ---- the entries that stay

pub among_filter : (test : Held → Bool) (es : List Held) (h : Held) → Among h es → test h ≡ true → Among h (filter test es)
among_filter test [] h among passes = among
among_filter test (e ∷ es) h (inl same) passes = (elim (test e) as (λ b. test e ≡ b → Among h (cond b (e ∷ filter test es) (filter test es))) [
  | true ↦ λ is. inl same
  | false ↦ λ is. let passed : test h ≡ false = subst (λ x. test x ≡ false) same is in absurd (cc)
]) refl
among_filter test (e ∷ es) h (inr among) passes = (elim (test e) as (λ b. Among h (cond b (e ∷ filter test es) (filter test es))) [
  | true ↦ inr (among_filter test es h among passes)
  | false ↦ among_filter test es h among passes
])

among_left : (h : Held) (xs ys : List Held) → Among h xs → Among h (xs ++ ys)
among_left h [] ys among = absurd among
among_left h (x ∷ xs) ys (inl same) = inl same
among_left h (x ∷ xs) ys (inr among) = inr (among_left h xs ys among)

among_right : (h : Held) (xs ys : List Held) → Among h ys → Among h (xs ++ ys)
among_right h [] ys among = among
among_right h (x ∷ xs) ys among = inr (among_right h xs ys among)

pub others_stay : OthersStay
others_stay slot entries h among = (elim (of_slot slot h) as (λ b. of_slot slot h ≡ b → Among h (without slot entries) ⊎ (b ≡ true)) [
  | true ↦ λ is. inr refl
  | false ↦ λ is. inl (among_filter (λ e. not (of_slot slot e)) entries h among (ap not is))
]) refl

pub promoted_stay : PromotedStay
promoted_stay slot entries h among = (elim (of_slot slot h) as (λ b. of_slot slot h ≡ b → Among h (promoted slot entries)) [
  | true ↦ λ is. among_left h (filter (of_slot slot) entries) (without slot entries) (among_filter (of_slot slot) entries h among is)
  | false ↦ λ is. among_right h (filter (of_slot slot) entries) (without slot entries) (among_filter (λ e. not (of_slot slot e)) entries h among (ap not is))
]) refl

-- an entry of at most n + 1 is among the first n, or the last
among_take : (n : ℕ) (es : List Held) (h : Held) → length es ≤ n + 1 → Among h es → Among h (take n es) ⊎ ((length es ≡ n + 1) × IsLast h es)
among_take n [] h few among = absurd among
among_take zero (e ∷ []) h few (inl same) = inr (refl, same)
among_take zero (e ∷ []) h few (inr among) = absurd among
among_take zero (e ∷ f ∷ es) h few among = absurd (omega arith)
among_take (suc n) (e ∷ es) h few (inl same) = inl (inl same)
among_take (suc n) (e ∷ []) h few (inr among) = absurd among
among_take (suc n) (e ∷ f ∷ es) h few (inr among) = elim (among_take n (f ∷ es) h (omega arith) among) [
  | inl stays ↦ inl (inr stays)
  | inr last ↦ inr (omega (arith, last.0), last.1)
]

kept_stay : (capacity : ℕ) (new : Held) (entries : List Held) (h : Held) → AreHeld (record { capacity = capacity; entries = entries }) → Among h entries
    → (o : Option Held) → entry_of new.piece.slot entries ≡ o → Among h (rest capacity new entries) ⊎ ((of_slot new.piece.slot h ≡ true) ⊎ IsDropped capacity new.piece.slot h entries)
kept_stay capacity new entries h held among None is =
    rw (lists.without_absent new.piece.slot entries is) (elim (among_take (capacity - 1) entries h (omega (arith, held.few, held.some)) among) [
      | inl stays ↦ inl stays
      | inr last ↦ inr (inr (record { new = lists.has_none new.piece.slot entries (lists.entry_none new.piece.slot entries is); full = omega (arith, last.0, held.some); last = last.1 }))
    ])
kept_stay capacity new entries h held among (Some old) is =
    rw (room_left capacity new old entries held.few is) (elim (others_stay new.piece.slot entries h among) [
      | inl stays ↦ inl stays
      | inr same ↦ inr (inl same)
    ])

pub offered_stay : OfferedStay
offered_stay capacity moment Kept piece entries h held among =
    let new : Held = record { piece = piece; accepted = moment } in
    rw (kept_is capacity new entries held.some) (elim (kept_stay capacity new entries h held among (entry_of piece.slot entries) refl) [
      | inl stays ↦ inl (inr stays)
      | inr gone ↦ inr gone
    ])
offered_stay capacity moment Outranked piece entries h held among = inl among
offered_stay capacity moment NotKept piece entries h held among = elim (others_stay piece.slot entries h among) [
  | inl stays ↦ inl stays
  | inr same ↦ inr (inl same)
]
offered_stay capacity moment Unkept piece entries h held among = inl among

-- ---- look-ups after a promotion

-- another slot's entry stays
entry_without : (slot other : Slot) (es : List Held) → (slot ≡ other → ⊥) → entry_of other (without slot es) ≡ entry_of other es
entry_without slot other [] apart = refl
entry_without slot other (e ∷ es) apart = (elim (of_slot slot e) as (λ b. of_slot slot e ≡ b → entry_of other (cond (not b) (e ∷ without slot es) (without slot es)) ≡ cond (of_slot other e) (Some e) (entry_of other es)) [
  | true ↦ λ is. (elim (of_slot other e) as (λ d. of_slot other e ≡ d → entry_of other (without slot es) ≡ cond d (Some e) (entry_of other es)) [
    | true ↦ λ also. absurd (apart (lists.slot_is slot e is ∙ sym (lists.slot_is other e also)))
    | false ↦ λ not_it. entry_without slot other es apart
  ]) refl
  | false ↦ λ is. ap (λ o. cond (of_slot other e) (Some e) o) (entry_without slot other es apart)
]) refl

found_in_front : (slot other : Slot) (es : List Held) → (o : Option Held) → entry_of slot es ≡ o → entry_of other (option_to_list o ++ without slot es) ≡ entry_of other es
found_in_front slot other es None is = ap (entry_of other) (lists.without_absent slot es is)
found_in_front slot other es (Some h) is = (elim (of_slot other h) as (λ b. of_slot other h ≡ b → cond b (Some h) (entry_of other (without slot es)) ≡ entry_of other es) [
  | true ↦ λ it. let same : slot ≡ other = lists.slot_is slot h (lists.entry_is_of slot es h is) ∙ sym (lists.slot_is other h it) in sym (subst (λ s. entry_of s es ≡ Some h) same is)
  | false ↦ λ it. entry_without slot other es (λ same. let own : of_slot other h ≡ true = subst (λ s. of_slot s h ≡ true) same (lists.entry_is_of slot es h is) in cc)
]) refl

pub promoted_are_found : PromotedAreFound
promoted_are_found slot other entries apart = rw (lists.promoted_is slot entries apart) (found_in_front slot other entries (entry_of slot entries) refl)

pub one_slot_is_the_same : OneSlotIsTheSame
one_slot_is_the_same a b low_a low_b = λ i. pointwise (pointwise nat_eq) (sym low_a i) (sym low_b i) && (a.class == b.class) && same_kind a.kind b.kind
