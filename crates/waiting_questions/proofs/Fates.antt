-- The last question waiting for a question gets the last fate.
use Rattle.std.proofs.Common.{◌≡◌, ℕ, zero, suc, ◌+◌, ◌<◌, ◌≤◌, List, [], ◌∷◌, ◌++◌, length, take, drop, slice_get, slice_index, true, Option, Some, IsSome, sym, ap, ◌∙◌, refl, subst, arith, length-append}
use Rattle.std.specs.Prelude.{filter}
use Rattle.std.specs.List.{Contains, cons_option}
use Rattle.std.proofs.lemmas.List.Elements.{All-head, All-tail, All-take, All-filter, filter-append}
use Rattle.slab.specs.Slab.{Slab, get}
use Rattle.dns_message.specs.Values.{Question}
use Rattle.outstanding.specs.Orders.{question_key}
use Rattle.waiting_questions.specs.Values.{Waiting, waits_for}
use Rattle.waiting_questions.specs.Onward.{Onward}
use Rattle.waiting_questions.specs.Indexes.{waiting_under, passes, to_question, AreIndexed, IsRange}
use Rattle.waiting_questions.specs.Settling.{earlier, left_by, settled, with_at}
use Rattle.waiting_questions.proofs.Counts.{stands_at}
use Rattle.waiting_questions.proofs.Keys.{value_of, ArePresent, length_under, at_under, filter_under}
use Rattle.waiting_questions.proofs.Ranges.{waits_at}
use Rattle.waiting_questions.proofs.Indexed.{in_range, how_many, key_in_turn}
use Rattle.waiting_questions.proofs.Settled.{all_stay, last_fate}

-- no fate is left
pub none_left : (q : Question) (fates : List (Option Onward)) (xs : List Waiting) → length fates ≡ 0 → settled q fates xs ≡ xs
none_left q [] xs none = all_stay q xs
none_left q (fate ∷ fates) xs none = absurd (omega (arith, none))

-- the first n waiting questions, under the first n keys
taken_under : (s : Slab Waiting) (keys : List ℕ) (n : ℕ) → ArePresent s keys → take n (waiting_under s keys) ≡ waiting_under s (take n keys)
taken_under s keys zero present = refl
taken_under s [] (suc n) present = refl
taken_under s (k ∷ keys) (suc n) present =
    let a = value_of (get s k) (All-head (λ j. IsSome (get s j)) k keys present) in
    ap (λ o. take (suc n) (cons_option o (waiting_under s keys))) a.1
    ∙ ap (λ (xs : List Waiting). a.0 ∷ xs) (taken_under s keys n (All-tail (λ j. IsSome (get s j)) k keys present))
    ∙ sym (ap (λ o. cons_option o (waiting_under s (take n keys))) a.1)

module _ (q : Question) (s : Slab Waiting) (p t : List ℕ) (indexed : AreIndexed s p t) (i j : ℕ) (range : IsRange (to_question (question_key q)) s p i j) (fates left : List (Option Onward)) (fate : Option Onward) (n : ℕ) (are : fates ≡ left ++ fate ∷ []) (long : n ≡ length left)
    (enough : length fates ≤ length (filter (waits_for q) (waiting_under s t))) where
  pub before_end : i + n < j
  before_end =
      let count = how_many s p t indexed q i j range in
      omega (arith, count, enough, long, ap (λ (fs : List (Option Onward)). length fs) are, length-append left (fate ∷ []), range.low)

  pub within : i + n < length p
  within = omega (arith, before_end, range.high)

  pub its_key : (key : ℕ) → slice_index p (i + n) ≡ key → Contains t key
  its_key key read = subst (Contains t) read (key_in_turn s p t indexed (i + n) within)

  module _ (arrival_rank : ℕ) (t_in : arrival_rank < length t) (one : slice_index p (i + n) ≡ slice_index t arrival_rank) where
    stands : (i + earlier (waits_at s q) t arrival_rank ≡ i + n) × (waits_at s q (slice_index t arrival_rank) ≡ true)
    stands = stands_at (waits_at s q) t p i j range.low range.high indexed.arrivals.apart (in_range s p t indexed q i j range) (i + n) arrival_rank (omega arith) before_end t_in (sym one)

    its : (x : Waiting) × (get s (slice_index t arrival_rank) ≡ Some x)
    its = value_of (get s (slice_index t arrival_rank)) (indexed.arrivals.present arrival_rank 0 t_in)

    is_there : slice_get (waiting_under s t) arrival_rank ≡ Some its.0
    is_there = at_under s t arrival_rank indexed.arrivals.present t_in ∙ its.1

    waits : waits_for q its.0 ≡ true
    waits = sym (ap (passes (waits_for q)) its.1) ∙ stands.1

    as_many : length (filter (waits_for q) (take arrival_rank (waiting_under s t))) ≡ length left
    as_many =
        let present = All-filter (waits_at s q) (λ key. IsSome (get s key)) (take arrival_rank t) (All-take (λ key. IsSome (get s key)) arrival_rank t indexed.arrivals.present) in
        let count : length (filter (waits_for q) (take arrival_rank (waiting_under s t))) ≡ earlier (waits_at s q) t arrival_rank =
        ap (λ (xs : List Waiting). length (filter (waits_for q) xs)) (taken_under s t arrival_rank indexed.arrivals.present)
        ∙ ap (λ (xs : List Waiting). length xs) (filter_under (waits_for q) s (take arrival_rank t))
        ∙ length_under s (filter (waits_at s q) (take arrival_rank t)) present in
        omega (arith, count, stands.0, long)

    module _ (after : List Waiting) (changed : (x : Waiting) → slice_get (waiting_under s t) arrival_rank ≡ Some x → after ≡ with_at (waiting_under s t) arrival_rank (left_by fate x)) where
      pub next_settled : settled q left after ≡ settled q fates (waiting_under s t)
      next_settled =
          ap (settled q left) (changed its.0 is_there)
          ∙ sym (last_fate q left fate (waiting_under s t) arrival_rank its.0 is_there waits as_many)
          ∙ ap (λ (fs : List (Option Onward)). settled q fs (waiting_under s t)) (sym are)

      pub next_enough : length left ≤ length (filter (waits_for q) after)
      next_enough =
          let xs = waiting_under s t in
          let rest : List Waiting = cons_option (left_by fate its.0) (drop (suc arrival_rank) xs) in
          omega (
            arith,
            as_many,
            ap (λ (ys : List Waiting). length (filter (waits_for q) ys)) (changed its.0 is_there),
            ap (λ (ys : List Waiting). length ys) (filter-append (waits_for q) (take arrival_rank xs) rest),
            length-append (filter (waits_for q) (take arrival_rank xs)) (filter (waits_for q) rest),
          )
