-- Joined chains.
use Rattle.std.proofs.Common.{◌≡◌, ℕ, ◌+◌, ◌<◌, List, [], ◌∷◌, ◌++◌, length, take, get_or, sym, ap, ◌∙◌, Bor}
use Rattle.std.proofs.lemmas.List.{take_more, map-append, append_assoc}
use Rattle.trust_rank.specs.Values.{Piece}
use Rattle.negative_cache.specs.RecordCache.Values.{Held}
use Rattle.plain_values.specs.Borrowed.{lent}

abbrev pub held_with : Piece → ℕ → Held
held_with p n = record { piece = p; accepted = n }

-- one more borrowed item is copied
pub copied_more : {X : Type 0} (copies more : List X) (copy : X) (r : Bor X) (refs : List (Bor X)) (i : ℕ) → i < length refs → r ≡ get_or refs i r → copies ≡ lent (take i refs) → copy ≡ r.now → more ≡ copies ++ copy ∷ []
    → more ≡ lent (take (i + 1) refs)
copied_more {X = X} copies more copy r refs i lt is so_far same pushed =
    pushed ∙ (λ j. so_far j ++ same j ∷ []) ∙ ap (λ (s : Bor X). lent (take i refs) ++ s.now ∷ []) is ∙ sym (map-append (λ (x : Bor X). x.now) (take i refs) (get_or refs i r ∷ []))
    ∙ ap lent (sym (take_more refs i r lt))
