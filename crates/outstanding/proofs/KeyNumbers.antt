-- Keys with numbers: the keys alone after an edit, and the numbers that stay.
use Rattle.std.proofs.Common.{◌≡◌, ℕ, suc, ◌<◌, ◌≤◌, List, ◌∷◌, ◌++◌, length, take, drop, Some, None, IsSome, sym, ap, ap₂, ◌∙◌, subst, arith}
use Rattle.std.specs.Prelude.{slice_index, slice_index_or}
use Rattle.std.specs.List.{insert, remove}
use Rattle.std.proofs.lemmas.Option.{same_Some}
use Rattle.std.proofs.lemmas.List.{length-map, map-append, take-map, drop-map, get_or-map}
use Rattle.std.proofs.lemmas.List.Elements.{All-append, All-cons, All-take, All-drop}
use Rattle.slab.specs.Slab.{Slab, get, Updates}
use Rattle.outstanding.specs.declared.numbered.NumberedKey.{NumberedKey}
use Rattle.outstanding.specs.Values.{Ask}
use Rattle.outstanding.specs.Tables.{Covers, keys_of, HasNumber, AreNumbered}
use Rattle.outstanding.proofs.KeyEdits.{same_value, same_left}

-- as many keys, each at its place
keys_count : (keys : List NumberedKey) → length (keys_of keys) ≡ length keys
keys_count keys = length-map keys (λ k. k.key)

key_at : (keys : List NumberedKey) (i : ℕ) (d : NumberedKey) → i < length keys → slice_index (keys_of keys) i ≡ (slice_index_or keys i d).key
key_at keys i d within = get_or-map (λ k. k.key) keys i d 0 within

-- the key read at a place
pub read_at : (keys : List NumberedKey) (i key : ℕ) (k : NumberedKey) → i < length (keys_of keys) → k ≡ slice_index_or keys i k → key ≡ k.key → slice_index (keys_of keys) i ≡ key
read_at keys i key k within read is = key_at keys i k (omega (arith, keys_count keys)) ∙ ap (λ k. k.key) (sym read) ∙ sym is

-- the read key has an ask
pub present_at : (s : Slab Ask) (keys : List NumberedKey) (i key : ℕ) (k : NumberedKey) → Covers s (keys_of keys) → i < length (keys_of keys) → k ≡ slice_index_or keys i k → key ≡ k.key → IsSome (get s key)
present_at s keys i key k covers within read is = subst (λ (j : ℕ). IsSome (get s j)) (read_at keys i key k within read is) (covers.present i within)

-- numbered keys stay numbered over a slab with equal asks under the keys
same_numbers : (number : Ask → ℕ) (s s' : Slab Ask) (keys : List NumberedKey) → ((i : ℕ) → i < length (keys_of keys) → get s' (slice_index (keys_of keys) i) ≡ get s (slice_index (keys_of keys) i))
    → AreNumbered number s keys → AreNumbered number s' keys
same_numbers number s s' keys same numbered i d within a e =
    let stays : get s' (slice_index_or keys i d).key ≡ get s (slice_index_or keys i d).key =
    subst (λ (k : ℕ). get s' k ≡ get s k) (key_at keys i d within) (same i (omega (arith, keys_count keys))) in
    numbered i d within a (sym stays ∙ e)

-- ---- one more key

module _ (keys keys' : List NumberedKey) (i n key : ℕ) (k : NumberedKey) (are : keys' ≡ insert keys i k) (is : k ≡ record { number = n; key = key }) where
  key_is : k.key ≡ key
  key_is = ap (λ k. k.key) is

  pub keys_put : keys_of keys' ≡ insert (keys_of keys) i key
  keys_put =
      ap keys_of are
      ∙ map-append (λ k. k.key) (take i keys) (k ∷ drop i keys)
      ∙ ap₂ (λ (xs ys : List ℕ). xs ++ k.key ∷ ys) (sym (take-map (λ k. k.key) i keys)) (sym (drop-map (λ k. k.key) i keys))
      ∙ ap (insert (keys_of keys) i) key_is

  pub numbered_put : (number : Ask → ℕ) (s s' : Slab Ask) (a : Ask) → Covers s (keys_of keys) → i ≤ length (keys_of keys) → get s key ≡ None → Updates s s' key (Some a) → n ≡ number a
      → AreNumbered number s keys → AreNumbered number s' keys'
  numbered_put number s s' a covers in_range was updates tells numbered =
      let P : NumberedKey → Type 0 = HasNumber number s' in
      let old : AreNumbered number s' keys = same_numbers number s s' keys (same_value (keys_of keys) i key in_range s s' (Some a) covers was updates) numbered in
      let new : HasNumber number s' k = λ b e. ap (λ k. k.number) is ∙ tells ∙ ap number (same_Some a b (sym updates.changed ∙ ap (get s') (sym key_is) ∙ e)) in
      subst (AreNumbered number s') (sym are) (All-append P (take i keys) (k ∷ drop i keys) (All-take P i keys old) (All-cons P k (drop i keys) new (All-drop P i keys old)))

-- ---- one key less

module _ (keys keys' : List NumberedKey) (i : ℕ) (are : keys' ≡ remove keys i) where
  pub keys_left : keys_of keys' ≡ remove (keys_of keys) i
  keys_left =
      ap keys_of are
      ∙ map-append (λ k. k.key) (take i keys) (drop (suc i) keys)
      ∙ ap₂ (λ (xs ys : List ℕ). xs ++ ys) (sym (take-map (λ k. k.key) i keys)) (sym (drop-map (λ k. k.key) (suc i) keys))

  pub numbered_left : (number : Ask → ℕ) (s s' : Slab Ask) (key : ℕ) → Covers s (keys_of keys) → i < length (keys_of keys) → slice_index (keys_of keys) i ≡ key → Updates s s' key None
      → AreNumbered number s keys → AreNumbered number s' keys'
  numbered_left number s s' key covers in_range is updates numbered =
      let P : NumberedKey → Type 0 = HasNumber number s in
      same_numbers number s s' keys'
      (subst (λ (ks : List ℕ). (j : ℕ) → j < length ks → get s' (slice_index ks j) ≡ get s (slice_index ks j)) (sym keys_left) (same_left (keys_of keys) i key in_range is s s' covers updates))
      (subst (AreNumbered number s) (sym are) (All-append P (take i keys) (drop (suc i) keys) (All-take P i keys numbered) (All-drop P (suc i) keys numbered)))
