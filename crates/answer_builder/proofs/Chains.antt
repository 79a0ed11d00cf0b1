-- An answer ending with the last piece of a chain.
use Rattle.std.proofs.Common.{◌≡◌, ℕ, zero, suc, ◌+◌, ◌-◌, ◌<◌, List, [], ◌∷◌, ◌++◌, length, map, take, drop, get_or, refl, sym, ap, subst, ◌∙◌, append_assoc, drop-cons, arith, Option, Some, None, Bor, MatchOption}
use Rattle.std.proofs.lemmas.List.{append-nil, take_more, map-append}
use Rattle.std.specs.List.{flat_map, slice_get, AllByRecursion}
use Rattle.std.specs.Prelude.{option_map}
use Rattle.std.specs.Option.{option_copied, IfSome}
use Rattle.dns_message.specs.Values.{Record}
use Rattle.dns_message.specs.Borrowed.{records_in}
use Rattle.record_cache.specs.Values.{Held}
use Rattle.answer_builder.specs.Values.{PieceWithTtl}
use Rattle.answer_builder.specs.Answers.{answers_of, with_ttl, with_stale_ttls, sections_with_ttls}
use Rattle.answer_builder.specs.Building.{end_of, ending, listed}
use Rattle.dns_message.specs.PlainValues.Borrowed.{lent}

ending_is : (chain : List PieceWithTtl) → ending (flat_map answers_of chain) (end_of chain) ≡ sections_with_ttls chain
ending_is [] = refl
ending_is (t ∷ chain) = refl

-- the sections of a chain's records, ending with the last piece
pub pieces_ending : (chain : List PieceWithTtl) (records : List Record) (last : Option PieceWithTtl)
    → records ≡ flat_map answers_of chain → last ≡ end_of chain → ending records last ≡ sections_with_ttls chain
pieces_ending chain records last all is = (λ i. ending (all i) (is i)) ∙ ending_is chain

-- the last piece, if any
pub last_is : (chain : List PieceWithTtl) → slice_get chain (length chain - 1) ≡ end_of chain
last_is [] = refl
last_is (t ∷ []) = refl
last_is (t ∷ other ∷ chain) =
    let one : length (t ∷ other ∷ chain) - 1 ≡ suc (length chain) = omega arith in
    let none : length chain ≡ length (other ∷ chain) - 1 = omega arith in
    ap (λ (n : ℕ). slice_get (t ∷ other ∷ chain) n) one ∙ ap (λ (n : ℕ). slice_get (other ∷ chain) n) none
    ∙ last_is (other ∷ chain)

-- a further item, after the items so far
pub told_more : {X Y : Type 0} (f : X → Y) (before items more : List Y) (y : Y) (xs : List X) (i : ℕ) (x : X)
    → i < length xs → x ≡ get_or xs i x → y ≡ f x → items ≡ before ++ map f (take i xs) → more ≡ items ++ y ∷ []
    → more ≡ before ++ map f (take (i + 1) xs)
told_more {X = X} {Y = Y} f before items more y xs i x lt is pieces so_far pushed =
    let next : map f (take i xs) ++ y ∷ [] ≡ map f (take (i + 1) xs) =
    (λ j. map f (take i xs) ++ pieces j ∷ []) ∙ sym (map-append f (take i xs) (x ∷ []))
    ∙ (λ j. map f (take i xs ++ is j ∷ [])) ∙ sym (ap (map f) (take_more xs i x lt)) in
    pushed ∙ (λ j. so_far j ++ y ∷ []) ∙ append_assoc before (map f (take i xs)) (y ∷ [])
    ∙ ap (λ (zs : List Y). before ++ zs) next

-- ---- properties of each piece

pub drop_more : {X : Type 0} (P : X → Type 0) (xs : List X) (i : ℕ) (x : X) → i < length xs
    → AllByRecursion P (drop i xs) → AllByRecursion P (drop (i + 1) xs)
drop_more P xs i x lt all =
    let rest = subst (AllByRecursion P) (drop-cons xs i x lt) all in
    let next : suc i ≡ i + 1 = omega arith in
    subst (λ (n : ℕ). AllByRecursion P (drop n xs)) next rest.1

pub of_first : {X : Type 0} (P : X → Type 0) (n : ℕ) (xs : List X) → AllByRecursion P xs → AllByRecursion P (take n xs)
of_first P zero [] all = tt
of_first P (suc n) [] all = tt
of_first P zero (x ∷ xs) all = tt
of_first P (suc n) (x ∷ xs) all = (all.0, of_first P n xs all.1)

pub of_rest : {X : Type 0} (P : X → Type 0) (n : ℕ) (xs : List X) → AllByRecursion P xs → AllByRecursion P (drop n xs)
of_rest P zero [] all = tt
of_rest P (suc n) [] all = tt
of_rest P zero (x ∷ xs) all = all
of_rest P (suc n) (x ∷ xs) all = of_rest P n xs all.1

-- no piece expired
pub none_past : (moment : ℕ) (chain : List Held) → with_stale_ttls (length chain) moment chain ≡ map (with_ttl moment) chain
none_past moment [] = refl
none_past moment (h ∷ chain) = ap (λ (pieces : List PieceWithTtl). with_ttl moment h ∷ pieces) (none_past moment chain)

-- ---- borrowed held pieces, with their seconds left

-- the last piece, if any
abbrev pub last_of_lent : List (Bor Held) → Option Held
last_of_lent refs = option_copied (slice_get refs (length refs - 1))

-- a piece before changes no last piece
one_more : (r s : Bor Held) (refs : List (Bor Held)) → last_of_lent (s ∷ refs) ≡ last_of_lent (r ∷ s ∷ refs)
one_more r s refs =
    let longer : length (r ∷ s ∷ refs) - 1 ≡ suc (length refs) = omega arith in
    let shorter : length refs ≡ length (s ∷ refs) - 1 = omega arith in
    sym (ap (λ (n : ℕ). option_copied (slice_get (s ∷ refs) n)) shorter)
    ∙ sym (ap (λ (n : ℕ). option_copied (slice_get (r ∷ s ∷ refs) n)) longer)

-- the last piece with TTL is the last piece, with its TTL
pub last_lent : (moment : ℕ) (refs : List (Bor Held))
    → end_of (map (with_ttl moment) (lent refs)) ≡ option_map (with_ttl moment) (last_of_lent refs)
last_lent moment [] = refl
last_lent moment (r ∷ []) = refl
last_lent moment (r ∷ s ∷ refs) =
    last_lent moment (s ∷ refs) ∙ ap (λ (last : Option Held). option_map (with_ttl moment) last) (one_more r s refs)

-- a property of each piece holds of the last
pub last_earlier : (P : Held → Type 0) (refs : List (Bor Held)) → AllByRecursion P (lent refs)
    → IfSome (last_of_lent refs) P
last_earlier P [] all = tt
last_earlier P (r ∷ []) all = all.0
last_earlier P (r ∷ s ∷ refs) all =
    subst (λ (last : Option Held). IfSome last P) (one_more r s refs) (last_earlier P (s ∷ refs) all.1)

-- an optional set, as a slice
pub listed_slice : (soa : Option (List Record)) (sets : List (List Record))
    → MatchOption soa (sets ≡ []) (λ x. sets ≡ x ∷ []) → records_in sets ≡ listed soa
listed_slice None sets is = ap records_in is
listed_slice (Some records) sets is = ap records_in is ∙ append-nil records
