-- Searches of indexed questions, and the indexes with one question more or less.
use Rattle.std.proofs.Common.{◌≡◌, ℕ, zero, suc, ◌+◌, ◌-◌, ◌<◌, ◌≤◌, List, [], ◌∷◌, ◌++◌, length, take, drop, slice_get, slice_index, slice_index_or, Bool, true, false, cond, not, nat_lt, Option, Some, None, IsSome, refl, sym, ap, ◌∙◌, subst, subst₂, arith, get_or-take, get_or-drop, length-take, length-drop, lt-ltb, ◌==◌}
use Rattle.std.specs.Prelude.{filter}
use Rattle.std.specs.List.{All, AllByRecursion, Contains, insert, remove, remove_range, between, list_any, cons_option}
use Rattle.std.proofs.lemmas.List.{get_or_default}
use Rattle.std.proofs.lemmas.Bool.{cond-true}
use mir.Val.{bool_byte}
use Rattle.std.proofs.lemmas.Option.{none-some, same_Some}
use Rattle.std.proofs.lemmas.List.Edits.{insert_end, between_none, length-between, get_or-between}
use Rattle.std.proofs.lemmas.List.Elements.{All-from_get_or, All-filter, All-cons, All-take, Contains-get_or, filter-append}
use Rattle.slab.specs.Slab.{Slab, get, Updates}
use Rattle.dns_message.specs.Values.{Question}
use Rattle.outstanding.specs.declared.keyed.QuestionKey.{QuestionKey}
use Rattle.outstanding.specs.Orders.{question_key}
use Rattle.waiting_questions.specs.Values.{Waiting, waits_for}
use Rattle.waiting_questions.specs.declared.table.Table.{Table}
use Rattle.waiting_questions.specs.Indexes.{waiting_under, keys_of, passes, to_question, IsByQuestion, IsByTaken, AreKeys, AreIndexed, IsIndexed, IsRange}
use Rattle.waiting_questions.proofs.Lists.{filter_alike, filter_filter, filter_insert, filter_remove, filter_fails, any_counts, in_filter, from_filter, others, removed, range_grows, before_range}
use Rattle.waiting_questions.proofs.Keys.{value_of, ArePresent, length_under, at_under, same_under, filter_under, put_under, remove_under, stay, keys_put, stay_others, keys_left, no_keys}
use Rattle.waiting_questions.proofs.Numbered.{room_numbered}
use Rattle.waiting_questions.proofs.Ranges.{waits_at, waits_itself, waits_among, passes_between, goes_behind, goes_before, none_behind, range_left}

-- a property of all waiting questions holds of the question under each key
under_all : (P : Waiting → Type 0) (s : Slab Waiting) (keys : List ℕ) → AllByRecursion P (waiting_under s keys) → All (λ key. (a : Waiting) → get s key ≡ Some a → P a) keys
under_all P s [] all = λ k d less. absurd (omega arith)
under_all P s (key ∷ keys) all = by (get s key) refl all (under_all P s keys)
  where
    by : (o : Option Waiting) → get s key ≡ o → AllByRecursion P (cons_option o (waiting_under s keys)) → (AllByRecursion P (waiting_under s keys) → All (λ j. (a : Waiting) → get s j ≡ Some a → P a) keys)
        → All (λ j. (a : Waiting) → get s j ≡ Some a → P a) (key ∷ keys)
    by None e rest under = All-cons (λ j. (a : Waiting) → get s j ≡ Some a → P a) key keys (λ a f. absurd (none-some a (sym e ∙ f))) (under rest)
    by (Some b) e rest under = All-cons (λ j. (a : Waiting) → get s j ≡ Some a → P a) key keys (λ a f. subst P (same_Some b a (sym e ∙ f)) rest.0) (under rest.1)

-- ---- none

pub none_indexed : (s : Slab Waiting) (by_question by_arrival : List ℕ) → by_question ≡ [] → by_arrival ≡ [] → AreIndexed s by_question by_arrival
none_indexed s by_question by_arrival questions arrivals =
    subst₂ (AreIndexed s) (sym questions) (sym arrivals) (record { questions = no_keys IsByQuestion s; arrivals = no_keys IsByTaken s; same = λ q. refl })

-- more room changes nothing
room_indexed : (s s' : Slab Waiting) (p t p' t' : List ℕ) → s' ≡ record s { capacity = s'.capacity } → p' ≡ p → t' ≡ t → AreIndexed s p t → AreIndexed s' p' t'
room_indexed s s' p t p' t' slab questions arrivals indexed =
    let roomy : Slab Waiting = record s { capacity = s'.capacity } in
    let more : AreIndexed roomy p t = record {
      questions = record { present = indexed.questions.present; apart = indexed.questions.apart; in_order = indexed.questions.in_order };
      arrivals = record { present = indexed.arrivals.present; apart = indexed.arrivals.apart; in_order = indexed.arrivals.in_order };
      same = indexed.same;
    } in
    subst (λ (z : Slab Waiting). AreIndexed z p' t') (sym slab) (subst₂ (AreIndexed roomy) (sym questions) (sym arrivals) more)

pub table_room : {A : Type 0} (t t' : Table A) → t'.waiting ≡ record t.waiting { capacity = t'.waiting.capacity } → t'.by_question.items ≡ t.by_question.items → t'.by_arrival.keys ≡ t.by_arrival.keys → IsIndexed t → IsIndexed t'
table_room t t' slab questions arrivals indexed = record {
  lists = room_indexed t.waiting t'.waiting _ _ _ _ slab (ap keys_of questions) arrivals indexed.lists;
  numbers = room_numbered t.waiting t'.waiting _ _ slab questions indexed.numbers;
}

module _ (s : Slab Waiting) (by_question by_arrival : List ℕ) (indexed : AreIndexed s by_question by_arrival) where
  -- ---- the questions waiting for a question

  module _ (q : Question) (i j : ℕ) (range : IsRange (to_question (question_key q)) s by_question i j) where
    pub in_range : filter (waits_at s q) by_arrival ≡ between i j by_question
    in_range = sym (indexed.same q) ∙ passes_between s by_question indexed.questions.present q i j range

    pub those_wait : waiting_under s (between i j by_question) ≡ filter (waits_for q) (waiting_under s by_arrival)
    those_wait = ap (waiting_under s) (sym in_range) ∙ sym (filter_under (waits_for q) s by_arrival)

    pub those_present : ArePresent s (between i j by_question)
    those_present = subst (ArePresent s) in_range (All-filter (waits_at s q) (λ key. IsSome (get s key)) by_arrival indexed.arrivals.present)

    pub how_many : j - i ≡ length (filter (waits_for q) (waiting_under s by_arrival))
    how_many = sym (length-between by_question i j range.high) ∙ sym (length_under s (between i j by_question) those_present) ∙ ap length those_wait

    -- the first of all comes first among the questions waiting for an equal question
    pub first_stands : (x : Waiting) → 0 < length by_arrival → get s (slice_index by_arrival 0) ≡ Some x → waits_for q x ≡ true → (i < length by_question) × (slice_index by_question i ≡ slice_index by_arrival 0)
    first_stands x some e waits = by by_arrival some e in_range
      where
        by : (keys : List ℕ) → 0 < length keys → get s (slice_index keys 0) ≡ Some x → filter (waits_at s q) keys ≡ between i j by_question → (i < length by_question) × (slice_index by_question i ≡ slice_index keys 0)
        by [] some e is = absurd (omega arith)
        by (key ∷ keys) some e is =
            let front : key ∷ filter (waits_at s q) keys ≡ between i j by_question =
            sym (cond-true (waits_at s q key) (key ∷ filter (waits_at s q) keys) (filter (waits_at s q) keys) (ap (passes (waits_for q)) e ∙ waits)) ∙ is in
            let long : suc (length (filter (waits_at s q) keys)) ≡ j - i = ap length front ∙ length-between by_question i j range.high in
            let less : i + 0 < j = omega (arith, long) in
            let here : i + 0 ≡ i = omega arith in (
              omega (arith, less, range.high),
              ap (slice_index by_question) (sym here) ∙ sym (get_or-between by_question i j 0 0 less) ∙ sym (ap (λ ks. slice_index ks 0) front),
            )

  -- a key in the order of questions is in the order of taking
  pub key_in_turn : (place : ℕ) → place < length by_question → Contains by_arrival (slice_index by_question place)
  key_in_turn place within =
      let a = value_of (get s (slice_index by_question place)) (indexed.questions.present place 0 within) in
      let q = a.0.wanted in
      from_filter (waits_at s q) by_arrival (slice_index by_question place)
      (subst (λ ks. Contains ks (slice_index by_question place)) (indexed.same q)
      (in_filter (waits_at s q) by_question (slice_index by_question place) (Contains-get_or by_question place 0 within) (ap (passes (waits_for q)) a.1 ∙ waits_itself a.0)))

  -- no question waits for the question
  pub none_wait : (q : Question) (i : ℕ) → IsRange (to_question (question_key q)) s by_question i i → filter (λ x. not (waits_for q x)) (waiting_under s by_arrival) ≡ waiting_under s by_arrival
  none_wait q i range = filter_fails (waits_for q) (waiting_under s by_arrival) (sym (those_wait q i i range) ∙ ap (waiting_under s) (between_none by_question i))

  -- ---- one more question

  module _ (s' : Slab Waiting) (key : ℕ) (x : Waiting) (was : get s key ≡ None) (updates : Updates s s' key (Some x)) where
    pub put_items : waiting_under s' (by_arrival ++ key ∷ []) ≡ waiting_under s by_arrival ++ x ∷ []
    put_items = put_under s s' by_arrival key x (same_under s s' by_arrival (stay IsByTaken s s' by_arrival indexed.arrivals key x was updates)) updates.changed

    module _ (i j : ℕ) (range : IsRange (to_question (question_key x.wanted)) s by_question i j) (later : AllByRecursion (λ y. y.taken ≤ x.taken) (waiting_under s by_arrival)) where
      put_questions : AreKeys IsByQuestion s' (insert by_question j key)
      put_questions =
          keys_put IsByQuestion s s' by_question indexed.questions key x was updates j range.high
          (All-from_get_or (λ n. (a : Waiting) → get s n ≡ Some a → IsByQuestion a x) (take j by_question) 0 (λ k within a e.
          let less : k < j = omega (arith, length-take j by_question) in
          goes_behind s by_question indexed.questions.present x i j range k a less (sym (ap (get s) (get_or-take j by_question k 0 less)) ∙ e)))
          (All-from_get_or (λ n. (a : Waiting) → get s n ≡ Some a → IsByQuestion x a) (drop j by_question) 0 (λ k within a e.
          goes_before s by_question indexed.questions.present x i j range (j + k) a (omega arith) (omega (arith, length-drop j by_question)) (sym (ap (get s) (get_or-drop j by_question k 0)) ∙ e)))

      put_turns : AreKeys IsByTaken s' (by_arrival ++ key ∷ [])
      put_turns =
          subst (AreKeys IsByTaken s') (insert_end by_arrival key)
          (keys_put IsByTaken s s' by_arrival indexed.arrivals key x was updates (length by_arrival) (omega arith)
          (All-take (λ n. (a : Waiting) → get s n ≡ Some a → a.taken ≤ x.taken) (length by_arrival) by_arrival (under_all (λ y. y.taken ≤ x.taken) s by_arrival later))
          (λ k d within. absurd (omega (arith, length-drop (length by_arrival) by_arrival))))

      put_same : (q : Question) → filter (waits_at s' q) (insert by_question j key) ≡ filter (waits_at s' q) (by_arrival ++ key ∷ [])
      put_same q =
          let alike : (keys : List ℕ) → All (λ n. get s' n ≡ get s n) keys → filter (waits_at s' q) keys ≡ filter (waits_at s q) keys =
          λ keys stays. filter_alike (waits_at s' q) (waits_at s q) keys (λ k d less. ap (passes (waits_for q)) (stays k d less)) in
          let stays = stay IsByQuestion s s' by_question indexed.questions key x was updates in
          filter_insert (waits_at s' q) by_question j key range.high (λ waits.
          All-from_get_or (λ n. waits_at s' q n ≡ false) (drop j by_question) 0 (λ k within.
          let inside : j + k < length by_question = omega (arith, length-drop j by_question) in
          ap (waits_at s' q) (get_or-drop j by_question k 0) ∙ ap (passes (waits_for q)) (stays (j + k) 0 inside)
          ∙ none_behind s by_question indexed.questions.present x i j range q (sym (ap (passes (waits_for q)) updates.changed) ∙ waits) (j + k) (omega arith) inside))
          ∙ ap (λ ks. ks ++ filter (waits_at s' q) (key ∷ [])) (alike by_question stays ∙ indexed.same q ∙ sym (alike by_arrival (stay IsByTaken s s' by_arrival indexed.arrivals key x was updates)))
          ∙ sym (filter-append (waits_at s' q) by_arrival (key ∷ []))

      pub put_indexed : AreIndexed s' (insert by_question j key) (by_arrival ++ key ∷ [])
      put_indexed = record { questions = put_questions; arrivals = put_turns; same = put_same }

  -- ---- one question less

  module _ (s' : Slab Waiting) (key : ℕ) (updates : Updates s s' key None) where
    left_same : (q : Question) → filter (waits_at s' q) (others key by_question) ≡ filter (waits_at s' q) (others key by_arrival)
    left_same q =
        let alike : (keys : List ℕ) → All (λ n. get s' n ≡ get s n) keys → filter (waits_at s' q) keys ≡ filter (waits_at s q) keys =
        λ keys stays. filter_alike (waits_at s' q) (waits_at s q) keys (λ k d less. ap (passes (waits_for q)) (stays k d less)) in
        alike (others key by_question) (stay_others IsByQuestion s s' by_question indexed.questions key updates)
        ∙ filter_filter (waits_at s q) (λ n. not (n == key)) by_question
        ∙ ap (others key) (indexed.same q)
        ∙ sym (filter_filter (waits_at s q) (λ n. not (n == key)) by_arrival)
        ∙ sym (alike (others key by_arrival) (stay_others IsByTaken s s' by_arrival indexed.arrivals key updates))

    left_indexed : AreIndexed s' (others key by_question) (others key by_arrival)
    left_indexed = record {
      questions = keys_left IsByQuestion s s' by_question indexed.questions key updates;
      arrivals = keys_left IsByTaken s s' by_arrival indexed.arrivals key updates;
      same = left_same;
    }

    module _ (place arrival_rank : ℕ) (p_in : place < length by_question) (t_in : arrival_rank < length by_arrival) (p_is : slice_index by_question place ≡ key) (t_is : slice_index by_arrival arrival_rank ≡ key) where
      pub take_indexed : AreIndexed s' (remove by_question place) (remove by_arrival arrival_rank)
      take_indexed = subst₂ (AreIndexed s') (sym (removed by_question place key p_in p_is indexed.questions.apart)) (sym (removed by_arrival arrival_rank key t_in t_is indexed.arrivals.apart)) left_indexed

      pub take_items : waiting_under s' (remove by_arrival arrival_rank) ≡ remove (waiting_under s by_arrival) arrival_rank
      take_items =
          same_under s s' (remove by_arrival arrival_rank) (subst (λ ks. All (λ n. get s' n ≡ get s n) ks) (sym (removed by_arrival arrival_rank key t_in t_is indexed.arrivals.apart)) (stay_others IsByTaken s s' by_arrival indexed.arrivals key updates))
          ∙ remove_under s by_arrival arrival_rank indexed.arrivals.present t_in

  -- without a question waiting for q, the questions not waiting for q stay
  pub others_stay : (q : Question) (i p arrival_rank : ℕ) → IsRange (to_question (question_key q)) s by_question i (suc p) → i ≤ p → arrival_rank < length by_arrival → slice_index by_question p ≡ slice_index by_arrival arrival_rank
      → filter (λ x. not (waits_for q x)) (remove (waiting_under s by_arrival) arrival_rank) ≡ filter (λ x. not (waits_for q x)) (waiting_under s by_arrival)
  others_stay q i p arrival_rank range le t_in one =
      let a = value_of (get s (slice_index by_arrival arrival_rank)) (indexed.arrivals.present arrival_rank 0 t_in) in
      let waits : waits_for q a.0 ≡ true =
      sym (ap (passes (waits_for q)) a.1) ∙ ap (waits_at s q) (sym one) ∙ waits_among s by_question indexed.questions.present q i (suc p) range p le (omega arith) in
      filter_remove (λ x. not (waits_for q x)) (waiting_under s by_arrival) arrival_rank a.0 (omega (arith, length_under s by_arrival indexed.arrivals.present))
      (at_under s by_arrival arrival_rank indexed.arrivals.present t_in ∙ a.1) (ap not waits)

one_more : (n : ℕ) → nat_lt 0 n ≡ nat_lt 1 (suc n)
one_more zero = refl
one_more (suc n) = lt-ltb 0 (suc n) (omega arith) ∙ sym (lt-ltb 1 (suc (suc n)) (omega arith))

-- the octet of a boolean
pub byte_is : (b : Bool) → bool_byte b ≡ cond b 1 0
byte_is true = refl
byte_is false = refl

-- whether any but the first passes, by the number that pass
pub any_but_first : (p : Waiting → Bool) (x : Waiting) (xs : List Waiting) (count : ℕ) → count ≡ length (filter p (x ∷ xs)) → list_any p xs ≡ nat_lt (cond (p x) 1 0) count
any_but_first p x xs count is = by (p x) is
  where
    by : (b : Bool) → count ≡ length (cond b (x ∷ filter p xs) (filter p xs)) → list_any p xs ≡ nat_lt (cond b 1 0) count
    by true e = any_counts p xs ∙ one_more (length (filter p xs)) ∙ ap (λ n. nat_lt 1 n) (sym e)
    by false e = any_counts p xs ∙ ap (λ n. nat_lt 0 n) (sym e)

-- ---- by the functions

module _ (s : Slab Waiting) (by_question by_arrival : List ℕ) (indexed : AreIndexed s by_question by_arrival) where
  -- the first of all, by its question's key
  pub first_stands_at : (x : Waiting) → slice_get (waiting_under s by_arrival) 0 ≡ Some x → (key : QuestionKey) → key ≡ question_key x.wanted → (i j : ℕ) → IsRange (to_question key) s by_question i j
      → (i < length by_question) × (slice_index by_question i ≡ slice_index by_arrival 0)
  first_stands_at x first key is i j range =
      let some : 0 < length by_arrival = by by_arrival first in
      first_stands s by_question by_arrival indexed x.wanted i j (subst (λ (k : QuestionKey). IsRange (to_question k) s by_question i j) is range) x some
      (sym (at_under s by_arrival 0 indexed.arrivals.present some) ∙ first) (waits_itself x)
    where
      by : (keys : List ℕ) → slice_get (waiting_under s keys) 0 ≡ Some x → 0 < length keys
      by [] e = absurd (none-some x e)
      by (key ∷ keys) e = omega arith

  -- the questions waiting for q, by the key of q
  pub those_at : (q : Question) (key : QuestionKey) → key ≡ question_key q → (i j : ℕ) → IsRange (to_question key) s by_question i j
      → ArePresent s (between i j by_question) × (waiting_under s (between i j by_question) ≡ filter (waits_for q) (waiting_under s by_arrival))
  those_at q key is i j range =
      let own = subst (λ (k : QuestionKey). IsRange (to_question k) s by_question i j) is range in
      (those_present s by_question by_arrival indexed q i j own, those_wait s by_question by_arrival indexed q i j own)

  pub any_other : (q : Question) (key : QuestionKey) → key ≡ question_key q → (i j : ℕ) → IsRange (to_question key) s by_question i j → (items : List Waiting) → waiting_under s by_arrival ≡ items
      → (x : Waiting) → slice_get items 0 ≡ Some x → nat_lt (cond (waits_for q x) 1 0) (j - i) ≡ list_any (waits_for q) (drop 1 items)
  any_other q key is i j range items are x first =
      by items (how_many s by_question by_arrival indexed q i j (subst (λ (k : QuestionKey). IsRange (to_question k) s by_question i j) is range) ∙ ap (λ xs. length (filter (waits_for q) xs)) are) first
    where
      by : (xs : List Waiting) → j - i ≡ length (filter (waits_for q) xs) → slice_get xs 0 ≡ Some x → nat_lt (cond (waits_for q x) 1 0) (j - i) ≡ list_any (waits_for q) (drop 1 xs)
      by [] count e = absurd (none-some x e)
      by (y ∷ xs) count e = ap (λ z. nat_lt (cond (waits_for q z) 1 0) (j - i)) (sym (same_Some y x e)) ∙ sym (any_but_first (waits_for q) y xs (j - i) count)

-- ---- the questions waiting for q go

-- The questions from `place` up to `end` have gone, with their keys still in the order of
-- questions. The questions left and waiting for q come before them, from place i on.
pub record IsEnding (q : Question) (left : List Waiting) (s : Slab Waiting) (by_question by_arrival : List ℕ) (i place end : ℕ) : Type 0 where
  pub indexed : AreIndexed s (remove_range by_question place end) by_arrival
  pub waiting : filter (λ x. not (waits_for q x)) (waiting_under s by_arrival) ≡ left
  pub range : IsRange (to_question (question_key q)) s (remove_range by_question place end) i place
  pub low : place ≤ end
  pub high : end ≤ length by_question

module _ (q : Question) (left : List Waiting) (s : Slab Waiting) (by_question by_arrival : List ℕ) (i place end : ℕ) (ending : IsEnding q left s by_question by_arrival i place end) where
  -- the newest question left
  module _ (key : ℕ) (some : i < place) (read : key ≡ slice_index_or by_question (place - 1) key) where
    abbrev keys : List ℕ
    keys = remove_range by_question place end

    stands : slice_index keys (place - 1) ≡ key
    stands =
        before_range by_question place end (place - 1) 0 (omega (arith, some)) (omega (arith, ending.low, ending.high))
        ∙ sym (read ∙ get_or_default by_question (place - 1) key 0 (omega (arith, some, ending.low, ending.high)))

    within : place - 1 < length keys
    within = omega (arith, some, ending.range.high)

    pub newest_in_turn : Contains by_arrival key
    newest_in_turn = subst (Contains by_arrival) stands (key_in_turn s keys by_arrival ending.indexed (place - 1) within)

    pub newest_ends : (s' : Slab Waiting) → Updates s s' key None → (arrival_rank : ℕ) → arrival_rank < length by_arrival → slice_index by_arrival arrival_rank ≡ key → (arrivals : List ℕ) → arrivals ≡ remove by_arrival arrival_rank → IsEnding q left s' by_question arrivals i (place - 1) end
    newest_ends s' updates arrival_rank t_in t_is arrivals are =
        let last : place ≡ suc (place - 1) = omega (arith, some) in
        let le : i ≤ place - 1 = omega (arith, some) in
        let range : IsRange (to_question (question_key q)) s keys i (suc (place - 1)) = subst (λ (n : ℕ). IsRange (to_question (question_key q)) s keys i n) last ending.range in
        let shorter : remove keys (place - 1) ≡ remove_range by_question (place - 1) end =
        ap (λ (n : ℕ). remove (remove_range by_question n end) (place - 1)) last ∙ range_grows by_question (place - 1) end (omega (arith, some, ending.low, ending.high)) in
        let gone : Updates s s' (slice_index keys (place - 1)) None = subst (λ (k : ℕ). Updates s s' k None) (sym stands) updates in
        record {
          indexed = subst₂ (AreIndexed s') shorter (sym are) (take_indexed s keys by_arrival ending.indexed s' key updates (place - 1) arrival_rank within t_in stands t_is);
          waiting = ap (λ (ks : List ℕ). filter (λ x. not (waits_for q x)) (waiting_under s' ks)) are
              ∙ ap (filter (λ x. not (waits_for q x))) (take_items s keys by_arrival ending.indexed s' key updates (place - 1) arrival_rank within t_in stands t_is)
              ∙ others_stay s keys by_arrival ending.indexed q i (place - 1) arrival_rank range le t_in (stands ∙ sym t_is) ∙ ending.waiting;
          range = subst (λ (ks : List ℕ). IsRange (to_question (question_key q)) s' ks i (place - 1)) shorter (range_left IsByQuestion s s' keys (to_question (question_key q)) i (place - 1) ending.indexed.questions le range gone);
          low = omega (arith, ending.low);
          high = ending.high;
        }

  -- no question is left
  module _ (none : place ≤ i) (rest : List ℕ) (are : rest ≡ remove_range by_question i end) where
    at_start : place ≡ i
    at_start = omega (arith, none, ending.range.low)

    pub ended_indexed : AreIndexed s rest by_arrival
    ended_indexed = subst (λ (ks : List ℕ). AreIndexed s ks by_arrival) (ap (λ (n : ℕ). remove_range by_question n end) at_start ∙ sym are) ending.indexed

    pub ended_items : waiting_under s by_arrival ≡ left
    ended_items =
        let range : IsRange (to_question (question_key q)) s (remove_range by_question place end) i i = subst (λ (n : ℕ). IsRange (to_question (question_key q)) s (remove_range by_question place end) i n) at_start ending.range in
        sym (none_wait s (remove_range by_question place end) by_arrival ending.indexed q i range) ∙ ending.waiting
