-- A question sent on is sorted by its new question, and keeps its turn.
use Rattle.std.proofs.Common.{◌≡◌, ◌≢◌, ℕ, zero, suc, ◌+◌, ◌-◌, ◌<◌, ◌≤◌, List, [], ◌∷◌, ◌++◌, length, take, drop, slice_get, slice_index, slice_index_or, Bool, true, false, Option, Some, None, IsSome, Ordering, Less, Equal, Greater, is_eq, refl, sym, ap, ◌∙◌, subst, arith, get_or-take, get_or-drop, length-take, length-drop}
use Rattle.std.specs.Prelude.{filter}
use Rattle.std.specs.List.{All, AllPairs, Contains, insert, remove, between, cons_option}
use Rattle.std.proofs.lemmas.Bool.{false≢true}
use Rattle.std.proofs.lemmas.Cmp.{alike_right}
use Rattle.std.proofs.lemmas.Option.{none-some}
use Rattle.std.proofs.lemmas.List.Edits.{length-between, length-remove}
use Rattle.std.proofs.lemmas.List.Elements.{All-head, All-tail, All-take, All-filter, All-contains_itself, All-from_get_or}
use Rattle.slab.specs.Slab.{Slab, get, Updates}
use Rattle.dns_message.specs.Values.{Question}
use Rattle.outstanding.specs.Orders.{key_cmp, question_key}
use Rattle.outstanding.proofs.CallerLemmas.{question_keys_are_ordered}
use Rattle.waiting_questions.specs.Values.{Waiting, waits_for}
use Rattle.waiting_questions.specs.Indexes.{waiting_under, passes, to_question, IsByQuestion, IsByTaken, AreKeys, AreIndexed, IsRange}
use Rattle.waiting_questions.specs.Settling.{earlier, with_at}
use Rattle.waiting_questions.proofs.Lists.{filter_alike, filter_between, filter_insert, filter_remove, pairs_head, pairs_tail}
use Rattle.waiting_questions.proofs.Counts.{no_more, filter_insert_at, put_back, front_stays, back_stays}
use Rattle.waiting_questions.proofs.Keys.{value_of, ArePresent, same_under, stay, keys_put}
use Rattle.waiting_questions.proofs.Ranges.{waits_at, waits_by_key, waits_among, waits_not_before, goes_behind, goes_before_those}
use Rattle.waiting_questions.proofs.Indexed.{in_range, take_indexed}

eq_from : (o : Ordering) → is_eq o ≡ true → o ≡ Equal
eq_from Less t = absurd (false≢true t)
eq_from Equal t = refl
eq_from Greater t = absurd (false≢true t)

-- if y waits for q, waiting for q is waiting for y's question
same_waits : (q : Question) (y : Waiting) → waits_for q y ≡ true → (o : Option Waiting) → passes (waits_for q) o ≡ passes (waits_for y.wanted) o
same_waits q y waits None = refl
same_waits q y waits (Some a) =
    let same : key_cmp (question_key y.wanted) (question_key q) ≡ Equal = eq_from (key_cmp (question_key y.wanted) (question_key q)) (sym (waits_by_key q y) ∙ waits) in
    waits_by_key q a ∙ ap is_eq (sym (alike_right question_keys_are_ordered (question_key y.wanted) (question_key q) (question_key a.wanted) same)) ∙ sym (waits_by_key y.wanted a)

-- ---- one more question, in its own turn

module _ (s s' : Slab Waiting) (p t : List ℕ) (indexed : AreIndexed s p t) (key : ℕ) (y : Waiting) (was : get s key ≡ None) (updates : Updates s s' key (Some y)) (i j : ℕ) (range : IsRange (to_question (question_key y.wanted)) s p i j) (arrival_rank at : ℕ) (arrival_rank_in : arrival_rank ≤ length t)
    (at_is : at ≡ i + earlier (waits_at s y.wanted) t arrival_rank) where
  pub at_in : at ≤ j
  at_in =
      let count : length (filter (waits_at s y.wanted) t) ≡ j - i = ap (λ (ks : List ℕ). length ks) (in_range s p t indexed y.wanted i j range) ∙ length-between p i j range.high in
      omega (arith, at_is, no_more (waits_at s y.wanted) t arrival_rank, count, range.low)

  at_within : at ≤ length p
  at_within = omega (arith, at_in, range.high)

  -- the number of earlier keys of its question
  before_it : earlier (waits_at s y.wanted) p at ≡ earlier (waits_at s y.wanted) t arrival_rank
  before_it =
      let long : length (take at p) ≡ at = omega (arith, length-take at p, at_within) in
      let low : i ≤ at = omega (arith, at_is) in
      let those : filter (waits_at s y.wanted) (take at p) ≡ between i at (take at p) =
      filter_between (waits_at s y.wanted) (take at p) i at 0 low (omega (arith, long))
      (λ k less. ap (waits_at s y.wanted) (get_or-take at p k 0 (omega (arith, less, low))) ∙ waits_not_before s p indexed.questions.present y.wanted i j range k less)
      (λ k from less. ap (waits_at s y.wanted) (get_or-take at p k 0 less) ∙ waits_among s p indexed.questions.present y.wanted i j range k from (omega (arith, less, at_in)))
      (λ k from within. absurd (omega (arith, from, within, long))) in
      omega (arith, ap (λ (ks : List ℕ). length ks) those, length-between (take at p) i at (omega (arith, long)), at_is)

  placed_questions : AreKeys IsByQuestion s' (insert p at key)
  placed_questions =
      keys_put IsByQuestion s s' p indexed.questions key y was updates at at_within
      (All-from_get_or (λ n. (a : Waiting) → get s n ≡ Some a → IsByQuestion a y) (take at p) 0 (λ k within a e.
      let less : k < at = omega (arith, within, length-take at p) in
      goes_behind s p indexed.questions.present y i j range k a (omega (arith, less, at_in)) (sym (ap (get s) (get_or-take at p k 0 less)) ∙ e)))
      (All-from_get_or (λ n. (a : Waiting) → get s n ≡ Some a → IsByQuestion y a) (drop at p) 0 (λ k within a e.
      goes_before_those s p indexed.questions.present y i j range (at + k) a (omega (arith, at_is)) (omega (arith, within, length-drop at p)) (sym (ap (get s) (get_or-drop at p k 0)) ∙ e)))

  placed_same : (q : Question) → filter (waits_at s' q) (insert p at key) ≡ filter (waits_at s' q) (insert t arrival_rank key)
  placed_same q =
      let p_stay = stay IsByQuestion s s' p indexed.questions key y was updates in
      let t_stay = stay IsByTaken s s' t indexed.arrivals key y was updates in
      let alike : (keys : List ℕ) → All (λ n. get s' n ≡ get s n) keys → filter (waits_at s' q) keys ≡ filter (waits_at s q) keys =
      λ keys stays. filter_alike (waits_at s' q) (waits_at s q) keys (λ k d less. ap (passes (waits_for q)) (stays k d less)) in
      let all : filter (waits_at s' q) p ≡ filter (waits_at s' q) t = alike p p_stay ∙ indexed.same q ∙ sym (alike t t_stay) in
      by (waits_for q y) refl p_stay t_stay all
    where
      by : (b : Bool) → waits_for q y ≡ b → All (λ n. get s' n ≡ get s n) p → All (λ n. get s' n ≡ get s n) t → filter (waits_at s' q) p ≡ filter (waits_at s' q) t
          → filter (waits_at s' q) (insert p at key) ≡ filter (waits_at s' q) (insert t arrival_rank key)
      by false e p_stay t_stay all =
          let fails : waits_at s' q key ≡ false = ap (passes (waits_for q)) updates.changed ∙ e in
          filter_insert (waits_at s' q) p at key at_within (λ passed. absurd (false≢true (sym fails ∙ passed)))
          ∙ ap (λ (ks : List ℕ). ks ++ filter (waits_at s' q) (key ∷ [])) all
          ∙ sym (filter_insert (waits_at s' q) t arrival_rank key arrival_rank_in (λ passed. absurd (false≢true (sym fails ∙ passed))))
      by true e p_stay t_stay all =
          let passed : waits_at s' q key ≡ true = ap (passes (waits_for q)) updates.changed ∙ e in
          let own : (keys : List ℕ) (n : ℕ) → All (λ m. get s' m ≡ get s m) keys → earlier (waits_at s' q) keys n ≡ earlier (waits_at s y.wanted) keys n =
          λ keys n stays.
          ap (λ (ks : List ℕ). length ks)
          (filter_alike (waits_at s' q) (waits_at s y.wanted) (take n keys) (All-take (λ m. waits_at s' q m ≡ waits_at s y.wanted m) n keys (λ k d less. ap (passes (waits_for q)) (stays k d less) ∙ same_waits q y e (get s (slice_index_or keys k d))))) in
          filter_insert_at (waits_at s' q) p at key passed
          ∙ (λ n. insert (all n) ((own p at p_stay ∙ before_it ∙ sym (own t arrival_rank t_stay)) n) key)
          ∙ sym (filter_insert_at (waits_at s' q) t arrival_rank key passed)

  pub placed_indexed : All (λ n. (a : Waiting) → get s n ≡ Some a → a.taken ≤ y.taken) (take arrival_rank t) → All (λ n. (a : Waiting) → get s n ≡ Some a → y.taken ≤ a.taken) (drop arrival_rank t) → AreIndexed s' (insert p at key) (insert t arrival_rank key)
  placed_indexed before later = record {
    questions = placed_questions;
    arrivals = keys_put IsByTaken s s' t indexed.arrivals key y was updates arrival_rank arrival_rank_in before later;
    same = placed_same;
  }

-- ---- removed, and put back

got : (keys : List ℕ) (i : ℕ) → i < length keys → slice_get keys i ≡ Some (slice_index keys i)
got [] i within = absurd (omega (arith, within))
got (k ∷ keys) zero within = refl
got (k ∷ keys) (suc i) within = got keys i (omega (arith, within))

-- the question under a key changes
changed_under : (s s' : Slab Waiting) (key : ℕ) (y : Waiting) (keys : List ℕ) (arrival_rank : ℕ) → ArePresent s keys → AllPairs (λ j k. j ≢ k) keys → arrival_rank < length keys → slice_index keys arrival_rank ≡ key → get s' key ≡ Some y → ((n : ℕ) → n ≢ key → get s' n ≡ get s n)
    → waiting_under s' keys ≡ with_at (waiting_under s keys) arrival_rank (Some y)
changed_under s s' key y [] arrival_rank present apart within is now stays = absurd (omega (arith, within))
changed_under s s' key y (k ∷ keys) zero present apart within is now stays =
    let a = value_of (get s k) (All-head (λ j. IsSome (get s j)) k keys present) in
    ap (λ o. cons_option o (waiting_under s' keys)) (ap (get s') is ∙ now)
    ∙ ap (λ (xs : List Waiting). y ∷ xs) (same_under s s' keys (λ m d less. stays _ (λ same. pairs_head (λ j k. j ≢ k) k keys apart m d less (is ∙ sym same))))
    ∙ sym (ap (λ o. with_at (cons_option o (waiting_under s keys)) 0 (Some y)) a.1)
changed_under s s' key y (k ∷ keys) (suc arrival_rank) present apart within is now stays =
    let a = value_of (get s k) (All-head (λ j. IsSome (get s j)) k keys present) in
    let other : k ≢ key = λ same. pairs_head (λ j k. j ≢ k) k keys apart arrival_rank 0 (omega (arith, within)) (same ∙ sym is) in
    ap (λ o. cons_option o (waiting_under s' keys)) (stays k other ∙ a.1)
    ∙ ap (λ (xs : List Waiting). a.0 ∷ xs) (changed_under s s' key y keys arrival_rank (All-tail (λ j. IsSome (get s j)) k keys present) (pairs_tail (λ j k. j ≢ k) k keys apart) (omega (arith, within)) is now stays)
    ∙ sym (ap (λ o. with_at (cons_option o (waiting_under s keys)) (suc arrival_rank) (Some y)) a.1)

module _ (s s1 : Slab Waiting) (p t : List ℕ) (indexed : AreIndexed s p t) (key : ℕ) (x y : Waiting) (place arrival_rank : ℕ) (p_in : place < length p) (t_in : arrival_rank < length t) (p_is : slice_index p place ≡ key) (t_is : slice_index t arrival_rank ≡ key)
    (here : get s key ≡ Some x) (gone : Updates s s1 key None) where
  taken_out : AreIndexed s1 (remove p place) (remove t arrival_rank)
  taken_out = take_indexed s p t indexed s1 key gone place arrival_rank p_in t_in p_is t_is

  pub out_questions : AreKeys IsByQuestion s1 (remove p place)
  out_questions = taken_out.questions

  module _ (i j : ℕ) (range : IsRange (to_question (question_key y.wanted)) s1 (remove p place) i j) where
    -- the keys of its new question, in turn
    pub in_turns : filter (waits_at s1 y.wanted) t ≡ between i j (remove p place)
    in_turns =
        sym (filter_remove (waits_at s1 y.wanted) t arrival_rank key t_in (got t arrival_rank t_in ∙ ap (λ (n : ℕ). Some n) t_is) (ap (passes (waits_for y.wanted)) gone.changed))
        ∙ in_range s1 (remove p place) (remove t arrival_rank) taken_out y.wanted i j range

    pub all_listed : All (Contains t) (between i j (remove p place))
    all_listed = subst (All (Contains t)) in_turns (All-filter (waits_at s1 y.wanted) (Contains t) t (All-contains_itself t))

    module _ (s' : Slab Waiting) (put : Updates s1 s' key (Some y)) (taken : y.taken ≡ x.taken) (at : ℕ) (at_is : at ≡ i + earlier (waits_at s1 y.wanted) t arrival_rank) where
      was_there : (n : ℕ) (a : Waiting) → get s1 n ≡ Some a → get s n ≡ Some a
      was_there n a e = sym (gone.others n (λ same. none-some a (sym gone.changed ∙ ap (get s1) (sym same) ∙ e))) ∙ e

      its_own : get s (slice_index t arrival_rank) ≡ Some x
      its_own = ap (get s) t_is ∙ here

      before : All (λ n. (a : Waiting) → get s1 n ≡ Some a → a.taken ≤ y.taken) (take arrival_rank t)
      before = All-from_get_or (λ n. (a : Waiting) → get s1 n ≡ Some a → a.taken ≤ y.taken) (take arrival_rank t) 0 (λ k within a e.
          let less : k < arrival_rank = omega (arith, within, length-take arrival_rank t) in
          let old : a.taken ≤ x.taken = indexed.arrivals.in_order k arrival_rank 0 less t_in a x (was_there (slice_index t k) a (sym (ap (get s1) (get_or-take arrival_rank t k 0 less)) ∙ e)) its_own in
          omega (arith, old, taken))

      later : All (λ n. (a : Waiting) → get s1 n ≡ Some a → y.taken ≤ a.taken) (drop (suc arrival_rank) t)
      later = All-from_get_or (λ n. (a : Waiting) → get s1 n ≡ Some a → y.taken ≤ a.taken) (drop (suc arrival_rank) t) 0 (λ k within a e.
          let inside : suc arrival_rank + k < length t = omega (arith, within, length-drop (suc arrival_rank) t) in
          let old : x.taken ≤ a.taken = indexed.arrivals.in_order arrival_rank (suc arrival_rank + k) 0 (omega arith) inside x a its_own (was_there (slice_index t (suc arrival_rank + k)) a (sym (ap (get s1) (get_or-drop (suc arrival_rank) t k 0)) ∙ e)) in
          omega (arith, old, taken))

      its_place : at ≡ i + earlier (waits_at s1 y.wanted) (remove t arrival_rank) arrival_rank
      its_place = at_is ∙ ap (λ (ks : List ℕ). i + length (filter (waits_at s1 y.wanted) ks)) (sym (front_stays t arrival_rank))

      arrival_rank_in : arrival_rank ≤ length (remove t arrival_rank)
      arrival_rank_in = omega (arith, t_in, length-remove t arrival_rank t_in)

      pub at_low : at ≤ length (remove p place)
      at_low = omega (arith, at_in s1 s' (remove p place) (remove t arrival_rank) taken_out key y gone.changed put i j range arrival_rank at arrival_rank_in its_place, range.high)

      pub sent_indexed : AreIndexed s' (insert (remove p place) at key) t
      sent_indexed =
          subst (λ (ts : List ℕ). AreIndexed s' (insert (remove p place) at key) ts) (put_back t arrival_rank key t_in t_is)
          (placed_indexed s1 s' (remove p place) (remove t arrival_rank) taken_out key y gone.changed put i j range arrival_rank at arrival_rank_in its_place
          (subst (All (λ n. (a : Waiting) → get s1 n ≡ Some a → a.taken ≤ y.taken)) (sym (front_stays t arrival_rank)) before)
          (subst (All (λ n. (a : Waiting) → get s1 n ≡ Some a → y.taken ≤ a.taken)) (sym (back_stays t arrival_rank)) later))

      pub sent_items : waiting_under s' t ≡ with_at (waiting_under s t) arrival_rank (Some y)
      sent_items = changed_under s s' key y t arrival_rank indexed.arrivals.present indexed.arrivals.apart t_in t_is put.changed (λ n other. put.others n other ∙ gone.others n other)
