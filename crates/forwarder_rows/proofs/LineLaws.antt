-- The line feeds before the first octet in which two texts differ, octet by octet.
use Rattle.std.proofs.Common.{◌≡◌, ℕ, ◌+◌, List, [], ◌∷◌, length, refl, arith}
use Rattle.std.proofs.lemmas.Bool.Decides.{nat_tests}
use Rattle.forwarder_rows.specs.Lines.{line_feeds_before}

pub none-wanted : (wanted given : List ℕ) → length wanted ≡ 0 → line_feeds_before wanted given ≡ 0
none-wanted [] given e = refl
none-wanted (a ∷ wanted) given e = absurd (omega (arith, e))

pub none-given : (wanted given : List ℕ) → length given ≡ 0 → line_feeds_before wanted given ≡ 0
none-given [] given e = refl
none-given (a ∷ wanted) [] e = refl
none-given (a ∷ wanted) (b ∷ given) e = absurd (omega (arith, e))

pub differ : (wanted given : List ℕ) (a b : ℕ) (left right : List ℕ) → wanted ≡ a ∷ left → given ≡ b ∷ right → (a ≡ b → ⊥) → line_feeds_before wanted given ≡ 0
differ wanted given a b left right w g other = rw (w, g) (grind (arith, nat_tests, other))

pub feed : (wanted given : List ℕ) (a b : ℕ) (left right : List ℕ) → wanted ≡ a ∷ left → given ≡ b ∷ right → a ≡ b → a ≡ 10 → line_feeds_before wanted given ≡ line_feeds_before left right + 1
feed wanted given a b left right w g same ten = rw (w, g) (grind (arith, nat_tests, same, ten))

pub octet : (wanted given : List ℕ) (a b : ℕ) (left right : List ℕ) → wanted ≡ a ∷ left → given ≡ b ∷ right → a ≡ b → (a ≡ 10 → ⊥) → line_feeds_before wanted given ≡ line_feeds_before left right
octet wanted given a b left right w g same other = rw (w, g) (grind (arith, nat_tests, same, other))
