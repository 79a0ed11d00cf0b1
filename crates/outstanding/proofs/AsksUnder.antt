-- Asks under keys.
use Rattle.std.proofs.Common.{◌≡◌, ◌≢◌, ◌⊎◌, ℕ, zero, suc, ◌<◌, List, [], ◌∷◌, ◌++◌, length, Bool, true, false, not, Option, Some, None, IsSome, refl, sym, ap, ◌∙◌, inl, inr, arith}
use Rattle.std.specs.Prelude.{slice_index, filter}
use Rattle.std.specs.List.{find, remove, cons_option}
use Rattle.std.proofs.lemmas.Bool.{cond-true, cond-false, cases_eq, false_from_ne_true}
use Rattle.std.proofs.lemmas.Option.{same_Some}
use Rattle.std.proofs.lemmas.List.Elements.{filter_map-append}
use Rattle.slab.specs.Slab.{Slab, get}
use Rattle.outstanding.specs.Values.{Ask}
use Rattle.outstanding.specs.Tables.{asks_under}
use Rattle.outstanding.proofs.Searches.{value_of}

-- slabs with equal values under these keys have equal asks under them
pub same_under : (s s' : Slab Ask) (keys : List ℕ) → ((i : ℕ) → i < length keys → get s' (slice_index keys i) ≡ get s (slice_index keys i)) → asks_under s' keys ≡ asks_under s keys
same_under s s' [] same = refl
same_under s s' (k ∷ keys) same =
    let here : get s' k ≡ get s k = same 0 (omega arith) in
    ap (λ o. cons_option o (asks_under s' keys)) here ∙ ap (cons_option (get s k)) (same_under s s' keys (λ i within. same (suc i) (omega arith)))

-- a further ask, last
pub put_under : (s s' : Slab Ask) (keys : List ℕ) (key : ℕ) (a : Ask) → asks_under s' keys ≡ asks_under s keys → get s' key ≡ Some a → asks_under s' (keys ++ key ∷ []) ≡ asks_under s keys ++ a ∷ []
put_under s s' keys key a same e = filter_map-append (get s') keys (key ∷ []) ∙ ap (λ xs. xs ++ asks_under s' (key ∷ [])) same ∙ ap (λ o. asks_under s keys ++ cons_option o []) e

-- as many asks as keys
pub length_under : (s : Slab Ask) (keys : List ℕ) → ((i : ℕ) → i < length keys → IsSome (get s (slice_index keys i))) → length (asks_under s keys) ≡ length keys
length_under s [] present = refl
length_under s (k ∷ keys) present =
    let a = value_of (get s k) (present 0 (omega arith)) in
    ap (λ o. length (cons_option o (asks_under s keys))) a.1 ∙ ap suc (length_under s keys (λ i within. present (suc i) (omega arith)))

-- no ask passes a test
pub unfound : (p : Ask → Bool) (s : Slab Ask) (keys : List ℕ) → ((key : ℕ) (b : Ask) → get s key ≡ Some b → p b ≡ true → ⊥) → find p (asks_under s keys) ≡ None
unfound p s [] none = refl
unfound p s (k ∷ keys) none = by (get s k) refl (unfound p s keys none)
  where
    by : (o : Option Ask) → get s k ≡ o → find p (asks_under s keys) ≡ None → find p (cons_option o (asks_under s keys)) ≡ None
    by None e rest = rest
    by (Some a) e rest = cond-false (p a) (Some a) (find p (asks_under s keys)) (false_from_ne_true (p a) (none k a e)) ∙ rest

-- only the ask under a single key passes a test
module _ (p : Ask → Bool) (s : Slab Ask) (key : ℕ) (a : Ask) (here : get s key ≡ Some a) (passes : p a ≡ true) (only : (j : ℕ) (b : Ask) → get s j ≡ Some b → p b ≡ true → j ≡ key) where
  fails : (j : ℕ) (b : Ask) → get s j ≡ Some b → j ≢ key → p b ≡ false
  fails j b e other = false_from_ne_true (p b) (λ yes. other (only j b e yes))

  pub found : (keys : List ℕ) (i : ℕ) → i < length keys → slice_index keys i ≡ key → find p (asks_under s keys) ≡ Some a
  found [] i within is = absurd (omega arith)
  found (k ∷ keys) zero within is = ap (λ o. find p (cons_option o (asks_under s keys))) (ap (get s) is ∙ here) ∙ cond-true (p a) (Some a) (find p (asks_under s keys)) passes
  found (k ∷ keys) (suc i) within is = by (cases_eq k key) (get s k) refl (found keys i (omega arith) is)
    where
      by : (k ≡ key) ⊎ (k ≡ key → ⊥) → (o : Option Ask) → get s k ≡ o → find p (asks_under s keys) ≡ Some a → find p (cons_option o (asks_under s keys)) ≡ Some a
      by at None e rest = rest
      by (inl same) (Some b) e rest =
          let one : a ≡ b = same_Some a b (sym here ∙ ap (get s) (sym same) ∙ e) in
          cond-true (p b) (Some b) (find p (asks_under s keys)) (ap p (sym one) ∙ passes) ∙ ap Some (sym one)
      by (inr other) (Some b) e rest = cond-false (p b) (Some b) (find p (asks_under s keys)) (fails k b e other) ∙ rest

  abbrev pub others : List Ask → List Ask
  others asks = filter (λ b. not (p b)) asks

  stays : (j : ℕ) (b : Ask) (xs : List Ask) → get s j ≡ Some b → j ≢ key → others (b ∷ xs) ≡ b ∷ others xs
  stays j b xs e other = cond-true (not (p b)) (b ∷ others xs) (others xs) (ap not (fails j b e other))

  kept : (keys : List ℕ) → ((i : ℕ) → i < length keys → slice_index keys i ≢ key) → asks_under s keys ≡ others (asks_under s keys)
  kept [] differ = refl
  kept (k ∷ keys) differ = by (get s k) refl (kept keys (λ i within. differ (suc i) (omega arith)))
    where
      by : (o : Option Ask) → get s k ≡ o → asks_under s keys ≡ others (asks_under s keys) → cons_option o (asks_under s keys) ≡ others (cons_option o (asks_under s keys))
      by None e rest = rest
      by (Some b) e rest = ap (λ xs. b ∷ xs) rest ∙ sym (stays k b (asks_under s keys) e (differ 0 (omega arith)))

  pub without : (keys : List ℕ) (i : ℕ) → i < length keys → slice_index keys i ≡ key → ((i j : ℕ) → i < j → j < length keys → slice_index keys i ≢ slice_index keys j)
      → asks_under s (remove keys i) ≡ others (asks_under s keys)
  without [] i within is apart = absurd (omega arith)
  without (k ∷ keys) zero within is apart =
      let rest = kept keys (λ j more same. apart 0 (suc j) (omega arith) (omega arith) (is ∙ sym same)) in
      let first : get s k ≡ Some a = ap (get s) is ∙ here in
      rest ∙ sym (ap (λ o. others (cons_option o (asks_under s keys))) first ∙ cond-false (not (p a)) (a ∷ others (asks_under s keys)) (others (asks_under s keys)) (ap not passes))
  without (k ∷ keys) (suc i) within is apart = by (get s k) refl (without keys i (omega arith) is (λ i j less more. apart (suc i) (suc j) (omega arith) (omega arith)))
    where
      by : (o : Option Ask) → get s k ≡ o → asks_under s (remove keys i) ≡ others (asks_under s keys) → cons_option o (asks_under s (remove keys i)) ≡ others (cons_option o (asks_under s keys))
      by None e rest = rest
      by (Some b) e rest = ap (λ xs. b ∷ xs) rest ∙ sym (stays k b (asks_under s keys) e (λ same. apart 0 (suc i) (omega arith) within (same ∙ sym is)))
