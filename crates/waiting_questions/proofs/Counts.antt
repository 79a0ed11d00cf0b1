-- The number of passing keys before a place.
use Rattle.std.proofs.Common.{◌≡◌, ◌≢◌, ℕ, zero, suc, ◌+◌, ◌-◌, ◌<◌, ◌≤◌, List, [], ◌∷◌, length, take, drop, slice_index, Bool, true, false, cond, refl, sym, ap, ◌∙◌, subst, arith}
use Rattle.std.specs.Prelude.{filter}
use Rattle.std.specs.List.{All, AllPairs, Contains, insert, remove, between}
use Rattle.std.proofs.lemmas.List.Edits.{length-between, get_or-between}
use Rattle.std.proofs.lemmas.List.Elements.{All-contains, Contains-get_or}
use Rattle.waiting_questions.specs.Settling.{earlier}
use Rattle.waiting_questions.proofs.Lists.{pairs_head, pairs_tail, from_filter}

-- no more passing keys come before an earlier place
pub grows : (p : ℕ → Bool) (keys : List ℕ) (a b : ℕ) → a ≤ b → earlier p keys a ≤ earlier p keys b
grows p keys zero b le = omega arith
grows p [] (suc a) b le = omega arith
grows p (key ∷ keys) (suc a) zero le = absurd (omega (arith, le))
grows p (key ∷ keys) (suc a) (suc b) le = by (p key) (grows p keys a b (omega (arith, le)))
  where
    by : (c : Bool) → earlier p keys a ≤ earlier p keys b → length (cond c (key ∷ filter p (take a keys)) (filter p (take a keys))) ≤ length (cond c (key ∷ filter p (take b keys)) (filter p (take b keys)))
    by true rest = omega (arith, rest)
    by false rest = rest

-- fewer come before a passing key than before a later place
pub grows_past : (p : ℕ → Bool) (keys : List ℕ) (a b : ℕ) → a < b → a < length keys → p (slice_index keys a) ≡ true → earlier p keys a < earlier p keys b
grows_past p [] a b less within passes = absurd (omega (arith, within))
grows_past p (key ∷ keys) a zero less within passes = absurd (omega (arith, less))
grows_past p (key ∷ keys) zero (suc b) less within passes = by (p key) passes
  where
    by : (c : Bool) → c ≡ true → 0 < length (cond c (key ∷ filter p (take b keys)) (filter p (take b keys)))
    by true e = omega arith
    by false e = absurd (cc)
grows_past p (key ∷ keys) (suc a) (suc b) less within passes = by (p key) (grows_past p keys a b (omega (arith, less)) (omega (arith, within)) passes)
  where
    by : (c : Bool) → earlier p keys a < earlier p keys b → length (cond c (key ∷ filter p (take a keys)) (filter p (take a keys))) < length (cond c (key ∷ filter p (take b keys)) (filter p (take b keys)))
    by true rest = omega (arith, rest)
    by false rest = rest

-- no more than all passing keys
pub no_more : (p : ℕ → Bool) (keys : List ℕ) (a : ℕ) → earlier p keys a ≤ length (filter p keys)
no_more p keys zero = omega arith
no_more p [] (suc a) = omega arith
no_more p (key ∷ keys) (suc a) = by (p key) (no_more p keys a)
  where
    by : (c : Bool) → earlier p keys a ≤ length (filter p keys) → length (cond c (key ∷ filter p (take a keys)) (filter p (take a keys))) ≤ length (cond c (key ∷ filter p keys) (filter p keys))
    by true rest = omega (arith, rest)
    by false rest = rest

-- a key occurs once
not_again : (p : ℕ → Bool) (key : ℕ) (keys : List ℕ) → AllPairs (λ j k. j ≢ k) (key ∷ keys) → (i : ℕ) → i < length (filter p keys) → key ≡ slice_index (filter p keys) i → ⊥
not_again p key keys apart i within is =
    All-contains (λ k. key ≢ k) keys (slice_index (filter p keys) i) (pairs_head (λ j k. j ≢ k) key keys apart) (from_filter p keys (slice_index (filter p keys) i) (Contains-get_or (filter p keys) i 0 within)) is

-- a key among the passing keys passes, and as many passing keys come before it in the whole list
pub counted : (p : ℕ → Bool) (keys : List ℕ) (t i : ℕ) → AllPairs (λ j k. j ≢ k) keys → t < length keys → i < length (filter p keys) → slice_index keys t ≡ slice_index (filter p keys) i
    → (earlier p keys t ≡ i) × (p (slice_index keys t) ≡ true)
counted p [] t i apart t_in i_in is = absurd (omega (arith, t_in))
counted p (key ∷ keys) t i apart t_in i_in is = by t i (p key) refl (λ u j. counted p keys u j (pairs_tail (λ j k. j ≢ k) key keys apart)) t_in i_in is
  where
    by : (t i : ℕ) (c : Bool) → p key ≡ c
        → ((u j : ℕ) → u < length keys → j < length (filter p keys) → slice_index keys u ≡ slice_index (filter p keys) j → (earlier p keys u ≡ j) × (p (slice_index keys u) ≡ true))
        → t < length (key ∷ keys) → i < length (cond c (key ∷ filter p keys) (filter p keys)) → slice_index (key ∷ keys) t ≡ slice_index (cond c (key ∷ filter p keys) (filter p keys)) i
        → (earlier p (key ∷ keys) t ≡ i) × (p (slice_index (key ∷ keys) t) ≡ true)
    by zero zero true e rest t_in i_in is = (refl, e)
    by zero (suc i) true e rest t_in i_in is = absurd (not_again p key keys apart i (omega (arith, i_in)) is)
    by (suc t) zero true e rest t_in i_in is = absurd (pairs_head (λ j k. j ≢ k) key keys apart t 0 (omega (arith, t_in)) (sym is))
    by (suc t) (suc i) true e rest t_in i_in is =
        let both = rest t i (omega (arith, t_in)) (omega (arith, i_in)) is in
        (ap (λ (c : Bool). length (cond c (key ∷ filter p (take t keys)) (filter p (take t keys)))) e ∙ ap suc both.0, both.1)
    by zero i false e rest t_in i_in is = absurd (not_again p key keys apart i i_in is)
    by (suc t) i false e rest t_in i_in is =
        let both = rest t i (omega (arith, t_in)) i_in is in
        (ap (λ (c : Bool). length (cond c (key ∷ filter p (take t keys)) (filter p (take t keys)))) e ∙ both.0, both.1)

-- ---- a binary search among the passing keys

module _ (p : ℕ → Bool) (arrivals keys : List ℕ) (start end : ℕ) (low : start ≤ end) (high : end ≤ length keys) (apart : AllPairs (λ j k. j ≢ k) arrivals) (are : filter p arrivals ≡ between start end keys) where
  pub total : length (filter p arrivals) ≡ end - start
  total = ap (λ (ks : List ℕ). length ks) are ∙ length-between keys start end high

  -- the number of keys before a key between start and end
  pub stands_at : (middle arrival_rank : ℕ) → start ≤ middle → middle < end → arrival_rank < length arrivals → slice_index arrivals arrival_rank ≡ slice_index keys middle → (start + earlier p arrivals arrival_rank ≡ middle) × (p (slice_index arrivals arrival_rank) ≡ true)
  stands_at middle arrival_rank from less within is =
      let back : start + (middle - start) ≡ middle = omega (arith, from) in
      let here : slice_index (filter p arrivals) (middle - start) ≡ slice_index keys middle =
      ap (λ (ks : List ℕ). slice_index ks (middle - start)) are ∙ get_or-between keys start end (middle - start) 0 (omega (arith, from, less)) ∙ ap (slice_index keys) back in
      let both = counted p arrivals arrival_rank (middle - start) apart within (omega (arith, total, from, less)) (is ∙ sym here) in
      (omega (arith, both.0, back), both.1)

  pub before_rank : (middle place arrival_rank : ℕ) → start ≤ middle → middle < end → place < length arrivals → slice_index arrivals place ≡ slice_index keys middle → place < arrival_rank → middle + 1 ≤ start + earlier p arrivals arrival_rank
  before_rank middle place arrival_rank from less within is first =
      let at = stands_at middle place from less within is in
      omega (arith, at.0, grows_past p arrivals place arrival_rank first within at.1)

  pub after_rank : (middle place arrival_rank : ℕ) → start ≤ middle → middle < end → place < length arrivals → slice_index arrivals place ≡ slice_index keys middle → arrival_rank ≤ place → start + earlier p arrivals arrival_rank ≤ middle
  after_rank middle place arrival_rank from less within is first =
      let at = stands_at middle place from less within is in
      omega (arith, at.0, grows p arrivals arrival_rank place first)

-- the keys between start and end are in the order of taking
pub listed_at : (arrivals keys : List ℕ) (start end middle key : ℕ) → end ≤ length keys → All (Contains arrivals) (between start end keys) → start ≤ middle → middle < end → key ≡ slice_index keys middle → Contains arrivals key
listed_at arrivals keys start end middle key high listed from less is =
    let back : start + (middle - start) ≡ middle = omega (arith, from) in
    let here : slice_index (between start end keys) (middle - start) ≡ slice_index keys middle =
    get_or-between keys start end (middle - start) 0 (omega (arith, from, less)) ∙ ap (slice_index keys) back in
    subst (Contains arrivals) (here ∙ sym is) (listed (middle - start) 0 (omega (arith, length-between keys start end high, from, less)))

-- ---- one more key

-- a passing key comes after the passing keys before it
pub filter_insert_at : (p : ℕ → Bool) (keys : List ℕ) (i key : ℕ) → p key ≡ true → filter p (insert keys i key) ≡ insert (filter p keys) (earlier p keys i) key
filter_insert_at p keys zero key passes = ap (λ (c : Bool). cond c (key ∷ filter p keys) (filter p keys)) passes
filter_insert_at p [] (suc i) key passes = ap (λ (c : Bool). cond c (key ∷ []) []) passes
filter_insert_at p (k ∷ keys) (suc i) key passes = by (p k) (filter_insert_at p keys i key passes)
  where
    by : (c : Bool) → filter p (insert keys i key) ≡ insert (filter p keys) (earlier p keys i) key
        → cond c (k ∷ filter p (insert keys i key)) (filter p (insert keys i key)) ≡ insert (cond c (k ∷ filter p keys) (filter p keys)) (length (cond c (k ∷ filter p (take i keys)) (filter p (take i keys)))) key
    by true rest = ap (λ (ks : List ℕ). k ∷ ks) rest
    by false rest = rest

-- a key, put back at its place
pub put_back : (keys : List ℕ) (t key : ℕ) → t < length keys → slice_index keys t ≡ key → insert (remove keys t) t key ≡ keys
put_back [] t key within is = absurd (omega (arith, within))
put_back (k ∷ keys) zero key within is = ap (λ (n : ℕ). n ∷ keys) (sym is)
put_back (k ∷ keys) (suc t) key within is = ap (λ (ks : List ℕ). k ∷ ks) (put_back keys t key (omega (arith, within)) is)

-- the keys before a removed key stay
pub front_stays : {X : Type 0} (keys : List X) (t : ℕ) → take t (remove keys t) ≡ take t keys
front_stays [] zero = refl
front_stays [] (suc t) = refl
front_stays (k ∷ keys) zero = refl
front_stays {X} (k ∷ keys) (suc t) = ap (λ (ks : List X). k ∷ ks) (front_stays keys t)

pub back_stays : {X : Type 0} (keys : List X) (t : ℕ) → drop t (remove keys t) ≡ drop (suc t) keys
back_stays [] zero = refl
back_stays [] (suc t) = refl
back_stays (k ∷ keys) zero = refl
back_stays (k ∷ keys) (suc t) = back_stays keys t
