-- An optional entry, kept if it passes a test.
use Rattle.std.proofs.Common.{◌≡◌, ℕ, Bool, true, false, if◌then◌else◌, ◌&&◌, nat_eq, Option, None, Some, refl, ap, subst}
use Rattle.std.specs.Option.{option_eq}
use Rattle.std.specs.Bool.{Decides}
use Rattle.std.proofs.lemmas.Bool.Decides.{Decides-eqb}
use Rattle.record_cache.specs.Values.{Held}
use Rattle.negative_cache.specs.BySlot.{only}

-- a kept entry was there, and passes the test
pub only_some : (test : Held → Bool) (o : Option Held) (h : Held) → only test o ≡ Some h → (o ≡ Some h) × (test h ≡ true)
only_some test None h found = cc
only_some test (Some e) h found = (elim (test e) as (λ b. test e ≡ b → (if b then Some e else None) ≡ Some h → (Some e ≡ Some h) × (test h ≡ true)) [
  | true ↦ λ is same. let e_is : e ≡ h = cc in (same, subst (λ x. test x ≡ true) e_is is)
  | false ↦ λ is same. absurd cc
]) refl found

pub only_true : (test : Held → Bool) (h : Held) → test h ≡ true → only test (Some h) ≡ Some h
only_true test h is = rw is refl

pub only_false : (test : Held → Bool) (h : Held) → test h ≡ false → only test (Some h) ≡ None
only_false test h is = rw is refl

-- two tests in turn are both tests at once
pub only_both : (first second : Held → Bool) (o : Option Held) → only second (only first o) ≡ only (λ h. first h && second h) o
only_both first second None = refl
only_both first second (Some h) = (elim (first h) as (λ b. only second (if b then Some h else None) ≡ (if b && second h then Some h else None)) [
  | true ↦ refl
  | false ↦ refl
])

-- the test decides equality of optional numbers
pub option_decides : (a b : Option ℕ) → Decides (option_eq nat_eq a b) (a ≡ b)
option_decides None None = (λ h. refl, λ h. refl)
option_decides None (Some b) = (λ h. cc, λ h. cc)
option_decides (Some a) None = (λ h. cc, λ h. cc)
option_decides (Some a) (Some b) = (λ h. ap Some ((Decides-eqb a b).0 h), λ h. let e : a ≡ b = cc in (Decides-eqb a b).1 e)

pub option_differs : (a b : Option ℕ) → (a ≡ b → ⊥) → option_eq nat_eq a b ≡ false
option_differs a b differ = (elim (option_eq nat_eq a b) as (λ t. option_eq nat_eq a b ≡ t → t ≡ false) [
  | true ↦ λ is. absurd (differ ((option_decides a b).0 is))
  | false ↦ λ is. refl
]) refl
