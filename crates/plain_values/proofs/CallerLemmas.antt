-- Lemmas about octets, and about reading with the first fault, that the proofs of crates above
-- cite.
use Rattle.std.proofs.Common.{◌≡◌, ℕ, List, [], ◌∷◌, true, refl, ap, ◌∙◌, subst, Bool, false, Result, Err}
use Rattle.std.specs.Prelude.{◌==◌}
use Rattle.std.specs.Bool.{Decides}
use Rattle.std.proofs.lemmas.Bool.{and_parts, and_from, eqb-true, eq-eqb, false≢true}
use Rattle.plain_values.specs.Octets.{same_octets}
use Rattle.plain_values.specs.FirstFault.{◌>>=◌, Unless, Fails}

-- ---- octets

-- octets are the same as themselves
pub same_octets_reflexive : (xs : List ℕ) → same_octets xs xs ≡ true
same_octets_reflexive [] = refl
same_octets_reflexive (x ∷ xs) = and_from (x == x) (same_octets xs xs) (eq-eqb x x refl) (same_octets_reflexive xs)

-- octets that are the same are equal
pub same_octets_equal : (xs ys : List ℕ) → same_octets xs ys ≡ true → xs ≡ ys
same_octets_equal [] [] e = refl
same_octets_equal [] (y ∷ ys) e = absurd (false≢true e)
same_octets_equal (x ∷ xs) [] e = absurd (false≢true e)
same_octets_equal (x ∷ xs) (y ∷ ys) e =
    let parts = and_parts (x == y) (same_octets xs ys) e in
    ap (λ (z : ℕ). z ∷ xs) (eqb-true x y parts.0) ∙ ap (λ (zs : List ℕ). y ∷ zs) (same_octets_equal xs ys parts.1)

-- the test of equal octets
pub same_octets_decides : (xs ys : List ℕ) → Decides (same_octets xs ys) (xs ≡ ys)
same_octets_decides xs ys = (λ e. same_octets_equal xs ys e, λ is. subst (λ (zs : List ℕ). same_octets xs zs ≡ true) is (same_octets_reflexive xs))

-- ---- the first fault

unless_on : {P Q : Type 0} (test : Bool) → (P → Q) → Unless test P → Unless test Q
unless_on true on p = tt
unless_on false on p = on p

unless_all : {P : Type 0} (test : Bool) → P → Unless test P
unless_all true p = tt
unless_all false p = p

-- what is a fault fails with it
pub fault_fails : {E X : Type 0} (wants_memory : E → Bool) (fault : E) (answer : Result X E) → answer ≡ Err fault → Fails wants_memory fault answer
fault_fails wants_memory fault answer is = unless_all (wants_memory fault) is

-- a whole fails as its part does, where it is the fault that its part is
pub fault_of_part : {E X Y : Type 0} (wants_memory : E → Bool) (fault : E) (part : Result X E) (whole : Result Y E) → (part ≡ Err fault → whole ≡ Err fault)
    → Fails wants_memory fault part → Fails wants_memory fault whole
fault_of_part wants_memory fault part whole on fails = unless_on (wants_memory fault) on fails

-- what comes next is not looked at
pub fault_before_next : {E X Y : Type 0} (wants_memory : E → Bool) (fault : E) (first : Result X E) (next : X → Result Y E) → Fails wants_memory fault first → Fails wants_memory fault (first >>= next)
fault_before_next wants_memory fault first next fails = fault_of_part wants_memory fault first (first >>= next) (λ is. rw is refl) fails
