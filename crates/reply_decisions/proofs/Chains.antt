-- Building chains.
use Rattle.std.proofs.Common.{◌≡◌, ℕ, ◌+◌, ◌<◌, List, [], ◌∷◌, ◌++◌, length, take, get_or, sym, ap, ◌∙◌, Bor}
use Rattle.std.proofs.lemmas.List.{take_more, map-append, append_assoc}
use Rattle.plain_values.specs.Borrowed.{lent}

-- a further entry, put last
pub lent_more : {X : Type 0} (base : List X) (refs more : List (Bor X)) (r : Bor X) (xs : List X) (i : ℕ) → i < length xs → r.now ≡ get_or xs i r.now → lent refs ≡ base ++ take i xs → more ≡ refs ++ r ∷ []
    → lent more ≡ base ++ take (i + 1) xs
lent_more {X = X} base refs more r xs i lt is so_far pushed =
    ap lent pushed ∙ map-append (λ (x : Bor X). x.now) refs (r ∷ []) ∙ (λ j. so_far j ++ is j ∷ []) ∙ append_assoc base (take i xs) (get_or xs i r.now ∷ []) ∙ ap (λ (ys : List X). base ++ ys) (sym (take_more xs i r.now lt))
