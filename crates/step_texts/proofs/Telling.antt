-- A chain as shown by the answer, piece by piece.
use Rattle.std.proofs.Common.{◌≡◌, ℕ, zero, suc, ◌+◌, ◌<◌, ◌≤◌, List, [], ◌∷◌, ◌++◌, length, map, take, drop, get_or, Bor, refl, sym, ap, subst, ◌∙◌, drop-cons, arith}
use Rattle.std.proofs.lemmas.List.{take_more, map-append, length-map}
use Rattle.std.specs.List.{AllByRecursion}
use Rattle.std.specs.Prelude.{Result, Ok, Err}
use Rattle.answer_builder.specs.declared.fault.Fault.{Fault}
use Rattle.plain_values.specs.Borrowed.{lent}
use Rattle.step_values.specs.declared.action.Why.{Why}
use Rattle.step_table.specs.WaitingQuestions.Values.{Waiting}
use Rattle.step_table.specs.Steps.{sends}
use Rattle.step_texts.specs.Spelling.{ok_text, sends_text}
use Rattle.record_cache.specs.Values.{Held}
use Rattle.answer_builder.specs.Values.{PieceWithTtl}
use Rattle.answer_builder.specs.Answers.{with_ttl, with_stale_ttl, with_stale_ttls}

-- with stale pieces from the first on, all are answered as stale
all_past : (t : ℕ) (xs : List Held) → with_stale_ttls zero t xs ≡ map (with_stale_ttl t) xs
all_past t xs = refl

past_one : (t : ℕ) (xs : List Held) (i : ℕ) (h : Held) → i < length xs → h ≡ get_or xs i h → with_stale_ttls zero t (take (i + 1) xs) ≡ with_stale_ttls zero t (take i xs) ++ with_stale_ttl t h ∷ []
past_one t xs i h lt is =
    ap (map (with_stale_ttl t)) (take_more xs i h lt) ∙ ap (λ (x : Held). map (with_stale_ttl t) (take i xs ++ x ∷ [])) (sym is) ∙ map-append (with_stale_ttl t) (take i xs) (h ∷ [])

next_is : (i : ℕ) → suc i + 1 ≡ suc (i + 1)
next_is i = omega arith

no_pieces : (k t : ℕ) → with_stale_ttls k t [] ≡ []
no_pieces zero t = refl
no_pieces (suc k) t = refl

-- one more piece, answered with the remaining lifetime
pub left_more : (stale_from t : ℕ) (xs : List Held) (i : ℕ) (h : Held) → i < length xs → h ≡ get_or xs i h → i < stale_from → with_stale_ttls stale_from t (take (i + 1) xs) ≡ with_stale_ttls stale_from t (take i xs) ++ with_ttl t h ∷ []
left_more zero t xs i h lt is below = absurd (omega (arith, below))
left_more (suc k) t [] i h lt is below = absurd (omega (arith, lt))
left_more (suc k) t (x ∷ xs) zero h lt is below = ap (λ (pieces : List PieceWithTtl). with_ttl t x ∷ pieces) (no_pieces k t) ∙ ap (λ (y : Held). with_ttl t y ∷ []) (sym is)
left_more (suc k) t (x ∷ xs) (suc i) h lt is below =
    ap (λ (n : ℕ). with_stale_ttls (suc k) t (take n (x ∷ xs))) (next_is i)
    ∙ ap (λ (pieces : List PieceWithTtl). with_ttl t x ∷ pieces) (left_more k t xs i h (omega (arith, lt)) is (omega (arith, below)))

-- one more stale piece
pub past_more : (stale_from t : ℕ) (xs : List Held) (i : ℕ) (h : Held) → i < length xs → h ≡ get_or xs i h → stale_from ≤ i → with_stale_ttls stale_from t (take (i + 1) xs) ≡ with_stale_ttls stale_from t (take i xs) ++ with_stale_ttl t h ∷ []
past_more zero t xs i h lt is above = past_one t xs i h lt is
past_more (suc k) t [] i h lt is above = absurd (omega (arith, lt))
past_more (suc k) t (x ∷ xs) zero h lt is above = absurd (omega (arith, above))
past_more (suc k) t (x ∷ xs) (suc i) h lt is above =
    ap (λ (n : ℕ). with_stale_ttls (suc k) t (take n (x ∷ xs))) (next_is i)
    ∙ ap (λ (pieces : List PieceWithTtl). with_ttl t x ∷ pieces) (past_more k t xs i h (omega (arith, lt)) is (omega (arith, above)))

-- with no stale piece, all are answered with the remaining lifetime
pub none_past : (t : ℕ) (chain : List Held) → with_stale_ttls (length chain) t chain ≡ map (with_ttl t) chain
none_past t [] = refl
none_past t (h ∷ chain) = ap (λ (pieces : List PieceWithTtl). with_ttl t h ∷ pieces) (none_past t chain)

-- ---- a borrowed chain

pub lent_at : {X : Type 0} (refs : List (Bor X)) (i : ℕ) (r : Bor X) → r ≡ get_or refs i r → r.now ≡ get_or (lent refs) i r.now
lent_at [] i r is = refl
lent_at {X = X} (x ∷ refs) zero r is = ap (λ (y : Bor X). y.now) is
lent_at (x ∷ refs) (suc i) r is = lent_at refs i r is

pub lent_length : {X : Type 0} (refs : List (Bor X)) → length (lent refs) ≡ length refs
lent_length {X = X} refs = length-map refs (λ (y : Bor X). y.now)

-- a property of all from a place on is a property of the element at the place, and of all after
pub all_from_next : {X : Type 0} (P : X → Type 0) (xs : List X) (i : ℕ) (x : X) → i < length xs → x ≡ get_or xs i x → AllByRecursion P (drop i xs) → P x × AllByRecursion P (drop (i + 1) xs)
all_from_next P xs i x lt is all =
    let rest = subst (AllByRecursion P) (drop-cons xs i x lt) all in
    let next : suc i ≡ i + 1 = omega arith in
    (subst P (sym is) rest.0, subst (λ (n : ℕ). AllByRecursion P (drop n xs)) next rest.1)

-- ---- the reply made from a text

pub sent_by : (why : Why) (x : Waiting) (r : Result (List ℕ) Fault) → sends_text why x (ok_text r) ≡ sends why x r
sent_by why x (Ok text) = refl
sent_by why x (Err fault) = refl
