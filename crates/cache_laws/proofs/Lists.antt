-- The items of joined lists.
use Rattle.std.proofs.Common.{◌≡◌, ◌⊎◌, inl, inr, List, [], ◌∷◌, ◌++◌, sym}
use Rattle.cache_laws.specs.Lists.{IsOneOf, NoneTwice, IsBefore}

pub before : {X : Type 0} (x : X) (xs ys : List X) → IsOneOf x xs → IsOneOf x (xs ++ ys)
before x [] ys h = absurd h
before x (z ∷ xs) ys (inl e) = inl e
before x (z ∷ xs) ys (inr h) = inr (before x xs ys h)

pub behind : {X : Type 0} (x : X) (xs ys : List X) → IsOneOf x ys → IsOneOf x (xs ++ ys)
behind x [] ys h = h
behind x (z ∷ xs) ys h = inr (behind x xs ys h)

pub one_of_both : {X : Type 0} (x : X) (xs ys : List X) → IsOneOf x (xs ++ ys) → IsOneOf x xs ⊎ IsOneOf x ys
one_of_both x [] ys h = inr h
one_of_both x (z ∷ xs) ys (inl e) = inl (inl e)
one_of_both x (z ∷ xs) ys (inr h) = elim (one_of_both x xs ys h) [
  | inl first ↦ inl (inr first)
  | inr second ↦ inr second
]

-- the item of a list of one
pub only_one : {X : Type 0} (x y : X) → IsOneOf x (y ∷ []) → x ≡ y
only_one x y (inl e) = e
only_one x y (inr none) = absurd none

-- a new item at the end
pub once_more : {X : Type 0} (xs : List X) (y : X) → NoneTwice xs → (IsOneOf y xs → ⊥) → NoneTwice (xs ++ y ∷ [])
once_more [] y once new = (λ none. none, tt)
once_more (x ∷ xs) y once new = (
  λ there. elim (one_of_both x xs (y ∷ []) there) [
    | inl first ↦ once.0 first
    | inr second ↦ new (inl (sym (only_one x y second)))
  ],
  once_more xs y once.1 (λ there. new (inr there)),
)

-- x comes before y in a list with a new last item: both are old, or y is the last
pub before_last : {X : Type 0} (x y z : X) (xs : List X) → IsBefore x y (xs ++ z ∷ [])
    → IsBefore x y xs ⊎ (IsOneOf x xs × (y ≡ z))
before_last x y z [] (inl h) = absurd h.1
before_last x y z [] (inr h) = absurd h
before_last x y z (w ∷ xs) (inl h) = elim (one_of_both y xs (z ∷ []) h.1) [
  | inl old ↦ inl (inl (h.0, old))
  | inr last ↦ inr (inl h.0, only_one y z last)
]
before_last x y z (w ∷ xs) (inr h) = elim (before_last x y z xs h) [
  | inl old ↦ inl (inr old)
  | inr last ↦ inr (inr last.0, last.1)
]
