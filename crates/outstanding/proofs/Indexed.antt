-- Searches of indexed asks, and the indexes with one ask more or less.
use Rattle.std.proofs.Common.{◌≡◌, ℕ, ◌+◌, ◌<◌, List, [], ◌∷◌, ◌++◌, length, get_or, Bool, true, not, Option, Some, None, is_eq, Ordering, refl, sym, ap, ◌∙◌, subst, arith}
use Rattle.std.specs.Prelude.{slice_index, filter}
use Rattle.std.specs.List.{find, insert, remove}
use Rattle.std.specs.Cmp.{IsTotalOrder}
use Rattle.std.proofs.lemmas.Option.{none-some}
use Rattle.std.proofs.lemmas.Cmp.{tied_itself}
use Rattle.std.proofs.lemmas.List.Edits.{insert_end, length-remove}
use Rattle.slab.specs.Slab.{Slab, get, Updates}
use Rattle.dns_message.specs.Values.{Question}
use Rattle.dns_message.specs.Questions.{same_question}
use Rattle.outstanding.specs.declared.ask.Path.{Path}
use Rattle.outstanding.specs.Values.{Ask}
use Rattle.outstanding.specs.Lists.{on_path, of_question, without_path, same_path}
use Rattle.outstanding.specs.Orders.{path_cmp, key_cmp, question_key}
use Rattle.outstanding.specs.Tables.{Covers, Rises, IsAt, IsGap, AreIndexed, asks_under, to_path, to_question}
use Rattle.outstanding.proofs.Searches.{value_of, is_some_of, one_at, none_at}
use Rattle.outstanding.proofs.KeyEdits.{same_value, covers_put, rises_put, same_left, covers_left, rises_left, no_keys, rises_none}
use Rattle.outstanding.proofs.AsksUnder.{same_under, put_under, length_under, found, unfound, without}
use Rattle.outstanding.proofs.SameOrders.{path_total, key_total, equal_from, same_path_is, same_question_is}

-- a test that only the sought asks pass
module _ {K : Type 0} (R : K → K → Ordering) (total : IsTotalOrder R) (read : Ask → K) (x : K) (p : Ask → Bool) (tests : (a : Ask) → p a ≡ is_eq (R (read a) x))
    (s : Slab Ask) (keys arrivals : List ℕ) (covers : Covers s keys) (rises : Rises R read s keys) (by_arrival : Covers s arrivals) where
  module _ (i : ℕ) (at : IsAt (λ a. R (read a) x) s keys i) (a : Ask) (here : get s (slice_index keys i) ≡ Some a) where
    passes : p a ≡ true
    passes = tests a ∙ ap is_eq (at.equal a here)

    only : (j : ℕ) (b : Ask) → get s j ≡ Some b → p b ≡ true → j ≡ slice_index keys i
    only j b e passed = one_at R total read s keys covers rises x i at j b e (equal_from (R (read b) x) (sym (tests b) ∙ passed))

    pub found_in : find p (asks_under s arrivals) ≡ Some a
    found_in =
        let v = by_arrival.complete (slice_index keys i) (is_some_of (get s (slice_index keys i)) a here) in
        found p s (slice_index keys i) a here passes only arrivals v.0 v.1 v.2

    pub without_in : (t : ℕ) → t < length arrivals → slice_index arrivals t ≡ slice_index keys i → asks_under s (remove arrivals t) ≡ filter (λ b. not (p b)) (asks_under s arrivals)
    without_in t within is = without p s (slice_index keys i) a here passes only arrivals t within is by_arrival.apart

  pub absent_in : (i : ℕ) → IsGap (λ a. R (read a) x) s keys i → find p (asks_under s arrivals) ≡ None
  absent_in i gap = unfound p s arrivals (λ key b e passed. none_at (λ a. R (read a) x) s keys covers i gap key b e (equal_from (R (read b) x) (sym (tests b) ∙ passed)))

-- ---- by path and by question

module _ (s : Slab Ask) (by_path by_question by_arrival : List ℕ) (indexed : AreIndexed s by_path by_question by_arrival) where
  pub path_found : (path : Path) (i : ℕ) → IsAt (to_path path) s by_path i → (a : Ask) → get s (slice_index by_path i) ≡ Some a → on_path path (asks_under s by_arrival) ≡ Some a
  path_found path = found_in path_cmp path_total (λ a. a.path) path (λ a. same_path a.path path) (λ a. same_path_is a.path path) s by_path by_arrival indexed.paths indexed.paths_rise indexed.arrivals

  pub path_absent : (path : Path) (i : ℕ) → IsGap (to_path path) s by_path i → on_path path (asks_under s by_arrival) ≡ None
  path_absent path = absent_in path_cmp path_total (λ a. a.path) path (λ a. same_path a.path path) (λ a. same_path_is a.path path) s by_path by_arrival indexed.paths indexed.paths_rise indexed.arrivals

  pub question_found : (q : Question) (i : ℕ) → IsAt (to_question (question_key q)) s by_question i → (a : Ask) → get s (slice_index by_question i) ≡ Some a → of_question q (asks_under s by_arrival) ≡ Some a
  question_found q = found_in key_cmp key_total (λ a. question_key a.question) (question_key q) (λ a. same_question a.question q) (λ a. same_question_is a.question q) s by_question by_arrival indexed.questions indexed.questions_rise indexed.arrivals

  pub question_absent : (q : Question) (i : ℕ) → IsGap (to_question (question_key q)) s by_question i → of_question q (asks_under s by_arrival) ≡ None
  question_absent q = absent_in key_cmp key_total (λ a. question_key a.question) (question_key q) (λ a. same_question a.question q) (λ a. same_question_is a.question q) s by_question by_arrival indexed.questions indexed.questions_rise indexed.arrivals

-- ---- none

pub none_indexed : (s : Slab Ask) (by_path by_question by_arrival : List ℕ) → s.slots ≡ [] → by_path ≡ [] → by_question ≡ [] → by_arrival ≡ [] → AreIndexed s by_path by_question by_arrival
none_indexed s by_path by_question by_arrival slots paths questions arrivals =
    let none : (key : ℕ) → get s key ≡ None = λ key. ap (λ (xs : List (Option Ask)). get_or xs key None) slots in
    let covers : (keys : List ℕ) → keys ≡ [] → Covers s keys = λ keys empty. subst (Covers s) (sym empty) (no_keys s none) in
    record {
      paths = covers by_path paths;
      paths_rise = subst (Rises path_cmp (λ a. a.path) s) (sym paths) (rises_none path_cmp (λ a. a.path) s);
      questions = covers by_question questions;
      questions_rise = subst (Rises key_cmp (λ a. question_key a.question) s) (sym questions) (rises_none key_cmp (λ a. question_key a.question) s);
      arrivals = covers by_arrival arrivals;
    }

-- ---- one more ask

module _ (s s' : Slab Ask) (by_path by_question by_arrival : List ℕ) (indexed : AreIndexed s by_path by_question by_arrival) (key : ℕ) (a : Ask) (was : get s key ≡ None) (updates : Updates s s' key (Some a)) where
  pub put_indexed : (i j : ℕ) → IsGap (to_path a.path) s by_path i → IsGap (to_question (question_key a.question)) s by_question j
      → AreIndexed s' (insert by_path i key) (insert by_question j key) (by_arrival ++ key ∷ [])
  put_indexed i j path question = record {
    paths = covers_put by_path i key path.in_range s s' (Some a) indexed.paths was updates refl;
    paths_rise = rises_put path_cmp path_total (λ a. a.path) s s' by_path i key a indexed.paths indexed.paths_rise was updates path;
    questions = covers_put by_question j key question.in_range s s' (Some a) indexed.questions was updates refl;
    questions_rise = rises_put key_cmp key_total (λ a. question_key a.question) s s' by_question j key a indexed.questions indexed.questions_rise was updates question;
    arrivals = subst (Covers s') (insert_end by_arrival key) (covers_put by_arrival (length by_arrival) key (omega arith) s s' (Some a) indexed.arrivals was updates refl);
  }

  pub put_asks : asks_under s' (by_arrival ++ key ∷ []) ≡ asks_under s by_arrival ++ a ∷ []
  put_asks = put_under s s' by_arrival key a (same_under s s' by_arrival (same_value by_arrival (length by_arrival) key (omega arith) s s' (Some a) indexed.arrivals was updates)) updates.changed

-- ---- one ask less

-- the places of an ask's key
pub record Placed (s : Slab Ask) (by_path by_question by_arrival : List ℕ) (path : Path) (key i j t : ℕ) (a : Ask) : Type 0 where
  pub here : get s key ≡ Some a
  pub at_path : IsAt (to_path path) s by_path i
  pub path_is : slice_index by_path i ≡ key
  pub at_question : IsAt (to_question (question_key a.question)) s by_question j
  pub arrival_rank_in : t < length by_arrival
  pub arrival_rank_is : slice_index by_arrival t ≡ key

module _ (s : Slab Ask) (by_path by_question by_arrival : List ℕ) (indexed : AreIndexed s by_path by_question by_arrival) where
  pub has_question : (key : ℕ) (a : Ask) → get s key ≡ Some a → (j : ℕ) → IsGap (to_question (question_key a.question)) s by_question j → ⊥
  has_question key a here j gap = none_at (to_question (question_key a.question)) s by_question indexed.questions j gap key a here (tied_itself key_total (question_key a.question))

  module _ (path : Path) (key i j t : ℕ) (a : Ask) (placed : Placed s by_path by_question by_arrival path key i j t a) where
    first : get s (slice_index by_path i) ≡ Some a
    first = ap (get s) placed.path_is ∙ placed.here

    pub question_place : slice_index by_question j ≡ key
    question_place = sym (one_at key_cmp key_total (λ a. question_key a.question) s by_question indexed.questions indexed.questions_rise (question_key a.question) j placed.at_question key a placed.here (tied_itself key_total (question_key a.question)))

    pub take_ended : on_path path (asks_under s by_arrival) ≡ Some a
    take_ended = path_found s by_path by_question by_arrival indexed path i placed.at_path a first

    module _ (s' : Slab Ask) (updates : Updates s s' key None) where
      pub take_indexed : AreIndexed s' (remove by_path i) (remove by_question j) (remove by_arrival t)
      take_indexed = record {
        paths = covers_left by_path i key placed.at_path.in_range placed.path_is s s' indexed.paths updates;
        paths_rise = rises_left by_path i key placed.at_path.in_range placed.path_is s s' indexed.paths updates path_cmp (λ a. a.path) indexed.paths_rise;
        questions = covers_left by_question j key placed.at_question.in_range question_place s s' indexed.questions updates;
        questions_rise = rises_left by_question j key placed.at_question.in_range question_place s s' indexed.questions updates key_cmp (λ a. question_key a.question) indexed.questions_rise;
        arrivals = covers_left by_arrival t key placed.arrival_rank_in placed.arrival_rank_is s s' indexed.arrivals updates;
      }

      pub take_asks : asks_under s' (remove by_arrival t) ≡ without_path path (asks_under s by_arrival)
      take_asks =
          same_under s s' (remove by_arrival t) (same_left by_arrival t key placed.arrival_rank_in placed.arrival_rank_is s s' indexed.arrivals updates)
          ∙ without_in path_cmp path_total (λ a. a.path) path (λ a. same_path a.path path) (λ a. same_path_is a.path path) s by_path by_arrival indexed.paths indexed.paths_rise indexed.arrivals
          i placed.at_path a first t placed.arrival_rank_in (placed.arrival_rank_is ∙ sym placed.path_is)

      pub take_len : length (asks_under s' (remove by_arrival t)) + 1 ≡ length (asks_under s by_arrival)
      take_len = omega (arith, length_under s' (remove by_arrival t) take_indexed.arrivals.present, length_under s by_arrival indexed.arrivals.present, length-remove by_arrival t placed.arrival_rank_in)

-- ---- by lists of keys

pub indexed_same : (s : Slab Ask) (p q t p' q' t' : List ℕ) → p' ≡ p → q' ≡ q → t' ≡ t → AreIndexed s p q t → AreIndexed s p' q' t'
indexed_same s p q t p' q' t' paths questions arrivals indexed =
    subst (λ (ks : List ℕ). AreIndexed s ks q' t') (sym paths) (subst (λ (ks : List ℕ). AreIndexed s p ks t') (sym questions) (subst (λ (ks : List ℕ). AreIndexed s p q ks) (sym arrivals) indexed))

-- the sought ask is listed
module _ (s : Slab Ask) (by_path by_question by_arrival : List ℕ) (indexed : AreIndexed s by_path by_question by_arrival) where
  pub path_listed : (path : Path) (i : ℕ) → IsAt (to_path path) s by_path i → on_path path (asks_under s by_arrival) ≡ None → ⊥
  path_listed path i at none =
      let a = value_of (get s (slice_index by_path i)) (indexed.paths.present i at.in_range) in
      none-some a.0 (sym none ∙ path_found s by_path by_question by_arrival indexed path i at a.0 a.1)

  pub question_listed : (q : Question) (i : ℕ) → IsAt (to_question (question_key q)) s by_question i → of_question q (asks_under s by_arrival) ≡ None → ⊥
  question_listed q i at none =
      let a = value_of (get s (slice_index by_question i)) (indexed.questions.present i at.in_range) in
      none-some a.0 (sym none ∙ question_found s by_path by_question by_arrival indexed q i at a.0 a.1)
