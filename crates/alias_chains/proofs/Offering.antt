-- Consecutive offers.
use Rattle.std.proofs.Common.{◌≡◌, ℕ, ◌+◌, ◌^◌, ◌<◌, ◌≤◌, List, [], ◌∷◌, ◌++◌, take, length, Bool, true, false, cond, refl, sym, ap, ◌∙◌, subst, arith, Fits, w32}
use Rattle.std.proofs.lemmas.List.{length-map, map-append}
use mir.Val.{bool_byte}
use Rattle.std.specs.Prelude.{map}
use Rattle.std.specs.List.{AllByRecursion}
use Rattle.trust_rank.specs.Values.{Piece}
use Rattle.negative_cache.specs.RecordCache.Values.{Held, Cache}
use Rattle.negative_cache.specs.RecordCache.declared.cache.Offered.{Offered}
use Rattle.negative_cache.specs.RecordCache.declared.cache.Offered.TheVariants.{Kept, Outranked, NotKept, Unkept}
use Rattle.answer_builder.specs.Answers.{IsEarlier}
use Rattle.alias_chains.specs.Offering.{ended_so, put, count_of, put_all, unkept_of, held_at}

-- ---- pieces, held

pub same_pieces : (n : ℕ) (ps : List Piece) → map (λ h. h.piece) (map (held_at n) ps) ≡ ps
same_pieces n [] = refl
same_pieces n (p ∷ ps) = ap (λ qs. p ∷ qs) (same_pieces n ps)

pub held_now : (n : ℕ) (ps : List Piece) → AllByRecursion (IsEarlier n) (map (held_at n) ps)
held_now n [] = tt
held_now n (p ∷ ps) = (omega arith, held_now n ps)

-- ---- consecutive offers

count_small : (o : Offered) → count_of o ≤ 1
count_small Kept = omega arith
count_small Outranked = omega arith
count_small NotKept = omega arith
count_small Unkept = omega arith

-- the offers end like this for some rooms
abbrev pub AreOffered : ℕ → ℕ → List Piece → List Held → List Held → ℕ → Type 0
AreOffered capacity n ps before after count =
    (rooms : List Bool) × (length rooms ≡ length ps) × (put_all capacity n rooms ps before ≡ after) × (unkept_of capacity n rooms ps before ≡ count)

-- of all pieces these are left to offer, whatever the rooms
pub record AreLeft (capacity n : ℕ) (ps : List Piece) (before : List Held) (left : List Piece) (now : List Held) (count : ℕ) : Type 0 where
  pub few : count + length left ≤ length ps
  pub rest : (rooms : List Bool) → length rooms ≡ length left → AreOffered capacity n ps before (put_all capacity n rooms left now) (count + unkept_of capacity n rooms left now)

pub none_offered : (capacity n : ℕ) (ps : List Piece) (before : List Held) → AreLeft capacity n ps before ps before 0
none_offered capacity n ps before = record {
  few = omega arith;
  rest = λ rooms same. (rooms, same, refl, let k = unkept_of capacity n rooms ps before in let same_count : k ≡ 0 + k = omega arith in same_count);
}

pub one_offered : (capacity n : ℕ) (ps : List Piece) (before : List Held) (p : Piece) (left : List Piece) (now : List Held) (count : ℕ) → AreLeft capacity n ps before (p ∷ left) now count → (room : Bool)
    → AreLeft capacity n ps before left (put capacity n room p now) (count + count_of (ended_so n room p now))
one_offered capacity n ps before p left now count were room = record {
  few = let few = were.few in let small = count_small (ended_so n room p now) in omega (arith, few, small);
  rest = λ rooms same.
      let all = were.rest (room ∷ rooms) (ap (λ (k : ℕ). Rattle.std.proofs.Common.suc k) same) in
      (all.0, all.1, all.2, all.3 ∙ sums count (count_of (ended_so n room p now)) (unkept_of capacity n rooms left (put capacity n room p now)));
}
  where
    sums : (a b k : ℕ) → a + (b + k) ≡ a + b + k
    sums a b k = omega arith

pub all_offered : (capacity n : ℕ) (ps : List Piece) (before now : List Held) (count : ℕ) → AreLeft capacity n ps before [] now count → AreOffered capacity n ps before now count
all_offered capacity n ps before now count were = let all = were.rest [] refl in (all.0, all.1, all.2, all.3 ∙ no_more count)
  where
    no_more : (k : ℕ) → k + 0 ≡ k
    no_more k = omega arith

-- ---- a loop of offers

pub nothing_in : {X : Type 0} (xs : List X) → length xs ≡ 0 → xs ≡ []
nothing_in [] e = refl
nothing_in (x ∷ xs) e = absurd (omega (arith, e))

byte_is : (b : Bool) → bool_byte b ≡ cond b 1 0
byte_is true = refl
byte_is false = refl

byte_small : (b : Bool) → bool_byte b ≤ 1
byte_small true = omega arith
byte_small false = omega arith

-- the count with a further piece fits
pub one_more_fits : {X : Type 0} (count all : ℕ) (x : X) (left left' : List X) (b : Bool) (k : ℕ) → count + length left' ≤ all → left' ≡ x ∷ left → all < 2 ^ 32 → k ≡ bool_byte b → Fits w32 (count + k)
one_more_fits count all x left left' b k few is fits byte =
    let longer : length left' ≡ length (x ∷ left) = ap (λ ys. length ys) is in let small = byte_small b in omega (arith, few, longer, fits, byte, small)

pub next_left : (capacity n : ℕ) (ps : List Piece) (before : List Held) (p : Piece) (left left' : List Piece) (now now' : Cache) (count : ℕ) (b : Bool) (k : ℕ) → AreLeft capacity n ps before left' now.entries count → left' ≡ p ∷ left → now.capacity ≡ capacity
    → ((room : Bool) × (now' ≡ record now { entries = put now.capacity n room p now.entries }) × (cond b 1 0 ≡ count_of (ended_so n room p now.entries))) → k ≡ bool_byte b → AreLeft capacity n ps before left now'.entries (count + k)
next_left capacity n ps before p left left' now now' count b k were is same one byte =
    let room = one.0 in
    let after : put capacity n room p now.entries ≡ now'.entries = (λ i. put (sym same i) n room p now.entries) ∙ sym (ap (λ (e : Cache). e.entries) one.1) in
    let counted : count_of (ended_so n room p now.entries) ≡ k = sym one.2 ∙ sym (byte_is b) ∙ sym byte in
    subst (λ (es : List Held). AreLeft capacity n ps before left es (count + k)) after
    (subst (λ (j : ℕ). AreLeft capacity n ps before left (put capacity n room p now.entries) (count + j)) counted
    (one_offered capacity n ps before p left now.entries count (subst (λ (xs : List Piece). AreLeft capacity n ps before xs now.entries count) is were) room))

-- the outcome of a list of offers
abbrev pub WereOffered : ℕ → List Piece → Cache → Cache → ℕ → Type 0
WereOffered n ps before after count =
    (rooms : List Bool) × (length rooms ≡ length ps) × (after ≡ record before { entries = put_all before.capacity n rooms ps before.entries }) × (count ≡ unkept_of before.capacity n rooms ps before.entries)

pub loop_ended : (n : ℕ) (ps : List Piece) (before now : Cache) (left : List Piece) (count : ℕ) → AreLeft before.capacity n ps before.entries left now.entries count → left ≡ [] → now.capacity ≡ before.capacity → WereOffered n ps before now count
loop_ended n ps before now left count were none same =
    let all = all_offered before.capacity n ps before.entries now.entries count (subst (λ (xs : List Piece). AreLeft before.capacity n ps before.entries xs now.entries count) none were) in
    (all.0, all.1, (λ i. record { capacity = same i; entries = sym all.2 i }), sym all.3)

-- ---- the walk, in front of more pieces

first_of : {X : Type 0} (xs ys : List X) → take (length xs) (xs ++ ys) ≡ xs
first_of [] ys = refl
first_of (x ∷ xs) ys = ap (λ zs. x ∷ zs) (first_of xs ys)

pub walk_first : (n : ℕ) (held : List Held) (ps others : List Piece) (k : ℕ) → held ≡ map (held_at n) (ps ++ others) → k ≡ length ps → take k held ≡ map (held_at n) ps
walk_first n held ps others k are is =
    (λ i. take (is i) (are i)) ∙ (λ i. take (sym (length-map ps (held_at n)) i) (map-append (held_at n) ps others i)) ∙ first_of (map (held_at n) ps) (map (held_at n) others)
