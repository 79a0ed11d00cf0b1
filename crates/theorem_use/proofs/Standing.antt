-- The standing pieces, member by member.
use Rattle.std.proofs.Common.{◌≡◌, ℕ, List, [], ◌∷◌, Bool, true, false, refl, sym, ap, ◌∙◌, subst, ◌⊎◌, inl, inr}
use Rattle.std.specs.Prelude.{not, ◌&&◌, ◌||◌, filter}
use Rattle.std.specs.List.{list_any}
use Rattle.std.proofs.lemmas.Bool.{and_parts, and_from, or_left, or_right, or_parts, or_from, not-true, not-false, not_from_true, not_from_false, false≢true}
use Rattle.trust_rank.specs.Replacing.{is_name_error, takes_place_of}
use Rattle.record_cache.specs.Values.{Held}
use Rattle.record_cache.specs.Ageing.{is_alive}
use Rattle.record_cache.specs.Laws.{Among}
use Rattle.record_cache.proofs.CallerLemmas.{among_filter}
use Rattle.theorem_sound.proofs.TheoremCache.CallerLemmas.{among_filtered}
use Rattle.theorem_use.specs.Standing.{ranks_above, is_believed, with_this, standing}

-- ---- a test passed by a member

-- a member passes
pub record IsFound (test : Held → Bool) (xs : List Held) : Type 0 where
  pub one : Held
  pub among : Among one xs
  pub passes : test one ≡ true

-- a passing member, if any member passes
pub one_found : (test : Held → Bool) (xs : List Held) → list_any test xs ≡ true → IsFound test xs
one_found test [] any = absurd (false≢true any)
one_found test (x ∷ xs) any = by (one_found test xs) (test x) refl any
  where
    by : (list_any test xs ≡ true → IsFound test xs) → (b : Bool) → test x ≡ b → (b || list_any test xs) ≡ true → IsFound test (x ∷ xs)
    by rest true t some = record { one = x; among = inl refl; passes = t }
    by rest false f some = let found = rest some in record { one = found.one; among = inr found.among; passes = found.passes }

-- if this member passes, some member passes
pub any_among : (test : Held → Bool) (h : Held) (xs : List Held) → Among h xs → test h ≡ true → list_any test xs ≡ true
any_among test h [] among passes = absurd among
any_among test h (x ∷ xs) (inl here) passes = or_left (test x) (list_any test xs) (ap test here ∙ passes)
any_among test h (x ∷ xs) (inr later) passes = or_right (test x) (list_any test xs) (any_among test h xs later passes)

-- ---- belief

-- a piece, not a name error, is not believed if a piece of its slot with a higher rank stood
pub not_believed : (o h : Held) (stood : List Held) → is_name_error o.piece ≡ false → Among h stood → ranks_above o h ≡ true → is_believed o stood ≡ false
not_believed o h stood set among above = or_from (is_name_error o.piece) (not (list_any (ranks_above o) stood)) set (not_from_true (list_any (ranks_above o) stood) (any_among (ranks_above o) h stood among above))

-- a piece not believed is no name error, and a piece of its slot with a higher rank stood
pub one_above : (o : Held) (stood : List Held) → is_believed o stood ≡ false → (is_name_error o.piece ≡ false) × IsFound (ranks_above o) stood
one_above o stood doubted =
    let parts = or_parts (is_name_error o.piece) (not (list_any (ranks_above o) stood)) doubted in
    (parts.0, one_found (ranks_above o) stood (not-false (list_any (ranks_above o) stood) parts.1))

-- ---- standing pieces

-- o leaves h its place
abbrev leaves_place : Held → Held → Bool
leaves_place o h = not (takes_place_of o.piece h.piece)

-- the newest piece stands if alive and believed
pub newest_stands : (m : ℕ) (o : Held) (os : List Held) → is_alive m o ≡ true → is_believed o (standing o.accepted os) ≡ true → Among o (standing m (o ∷ os))
newest_stands m o os alive believed =
    subst (λ (b : Bool). Among o (with_this b o (filter (leaves_place o) (standing m os)))) (sym (and_from (is_alive m o) (is_believed o (standing o.accepted os)) alive believed)) (inl refl)

-- a standing piece still stands if the newest doesn't take its place
pub still_stands : (m : ℕ) (o h : Held) (os : List Held) → Among h (standing m os) → takes_place_of o.piece h.piece ≡ false → Among h (standing m (o ∷ os))
still_stands m o h os among free = by (is_alive m o && is_believed o (standing o.accepted os))
  where
    behind : Among h (filter (leaves_place o) (standing m os))
    behind = among_filter (leaves_place o) (standing m os) h among (not_from_false (takes_place_of o.piece h.piece) free)

    by : (b : Bool) → Among h (with_this b o (filter (leaves_place o) (standing m os)))
    by true = inr behind
    by false = behind

-- a standing piece, not the newest, stood before the newest and kept its place
pub record StoodBefore (m : ℕ) (o h : Held) (os : List Held) : Type 0 where
  pub among : Among h (standing m os)
  pub free : takes_place_of o.piece h.piece ≡ false

-- a standing piece is the newest, alive and believed, or stood before
pub stands_so : (m : ℕ) (o h : Held) (os : List Held) → Among h (standing m (o ∷ os))
    → ((o ≡ h) × ((is_alive m o ≡ true) × (is_believed o (standing o.accepted os) ≡ true))) ⊎ StoodBefore m o h os
stands_so m o h os among = by (is_alive m o && is_believed o (standing o.accepted os)) refl among
  where
    behind : Among h (filter (leaves_place o) (standing m os)) → StoodBefore m o h os
    behind later = let part = among_filtered (leaves_place o) h (standing m os) later in record { among = part.0; free = not-true (takes_place_of o.piece h.piece) part.1 }

    by : (b : Bool) → (is_alive m o && is_believed o (standing o.accepted os)) ≡ b → Among h (with_this b o (filter (leaves_place o) (standing m os)))
        → ((o ≡ h) × ((is_alive m o ≡ true) × (is_believed o (standing o.accepted os) ≡ true))) ⊎ StoodBefore m o h os
    by true t (inl here) = inl (here, and_parts (is_alive m o) (is_believed o (standing o.accepted os)) t)
    by true t (inr later) = inr (behind later)
    by false f later = inr (behind later)

-- a standing piece is alive
pub standing_lives : (m : ℕ) (h : Held) (os : List Held) → Among h (standing m os) → is_alive m h ≡ true
standing_lives m h [] among = absurd among
standing_lives m h (o ∷ os) among = elim (stands_so m o h os among) [
  | inl newest ↦ subst (λ (x : Held). is_alive m x ≡ true) newest.0 newest.1.0
  | inr before ↦ standing_lives m h os before.among
]
