-- The item served by a tick.
use Rattle.std.proofs.Common.{◌≡◌, ℕ, ◌≤◌, ◌<◌, List, [], true, false, sym, ap, ◌∙◌, subst, Option, Some, None}
use Rattle.std.specs.Prelude.{nat_le, slice_get, drop}
use Rattle.std.specs.List.{list_any}
use Rattle.std.proofs.lemmas.Bool.{cond-true, cond-false, le-leb, lt-leb, false≢true}
use denote.Ref.{Bor}
use Rattle.suffix_routes.specs.Values.{Config}
use Rattle.outstanding.specs.Values.{Ask}
use Rattle.dns_message.specs.Values.{Question as QuestionValue}
use Rattle.outstanding.specs.Lists.{on_path as ask_on, of_question, same_path}
use Rattle.outstanding.proofs.CallerLemmas.{same_path_reflexive}
use Rattle.retry_failover.specs.declared.Failure.TheVariants.{TimedOut}
use Rattle.step_table.specs.State.{State, start}
use Rattle.waiting_questions.specs.Values.{Waiting, waits_for}
use Rattle.step_table.specs.Failures.{row_of_failure}
use Rattle.step_table.specs.Steps.{idle_step}
use Rattle.step_actions.specs.Decision.{closed_path}
use Rattle.step_actions.specs.declared.due.Oldest.{Oldest}
use Rattle.step_actions.specs.declared.due.Oldest.TheVariants.{Question, Ask as OfAsk}
use Rattle.step_actions.specs.declared.due.Due.{Due}
use Rattle.step_actions.specs.Due.{due_from, item_of, IsDueFirst, IsOldest}
use Rattle.step_actions.proofs.CallerLemmas.{rest_is}
use Rattle.step_table.specs.Row.{is_due_at}
use Rattle.step_table.specs.Ticks.{expiry_step, left_alone, first_item, row_of_item, row_of_tick}

pub tick_idle : (c : Config) (n : ℕ) (words : List ℕ) (s : State) → s.waiting ≡ [] → s.asks ≡ [] → idle_step n s ≡ row_of_tick (start c n words s)
tick_idle c n words s none no_ask = λ i. row_of_item (start c n words s) (first_item c (sym none i) (sym no_ask i))

module _ {A : Type 0} (c : Config) (n : ℕ) (words : List ℕ) (s : State) (d : Due A) where
  -- before the item's moment nothing is done
  idle_at : (o : Oldest A) → n < due_from c o → idle_step n s ≡ row_of_item (start c n words s) (item_of (drop 1 s.waiting) o)
  idle_at (Question x) early = sym (cond-false (nat_le (due_from {A = A} c (Question x)) n) _ _ (lt-leb (due_from {A = A} c (Question x)) n early))
  idle_at (OfAsk a) early = sym (cond-false (nat_le (due_from {A = A} c (OfAsk a)) n) _ _ (lt-leb (due_from {A = A} c (OfAsk a)) n early))

  pub idle_until : IsDueFirst c s.waiting s.asks d → n < d.moment → idle_step n s ≡ row_of_tick (start c n words s)
  idle_until first early = idle_at d.oldest (subst (λ (m : ℕ). n < m) first.from early) ∙ sym (ap (row_of_item (start c n words s)) first.item)

  -- from the oldest question's moment on the question is served
  pub question_due : (x : Bor Waiting) → IsDueFirst c s.waiting s.asks d → d.oldest ≡ Question x → d.moment ≤ n
      → expiry_step n x.now (drop 1 s.waiting) (left_alone x.now.wanted (drop 1 s.waiting) s.asks) s ≡ row_of_tick (start c n words s)
  question_due x first is late =
      sym (cond-true (nat_le (due_from {A = A} c (Question x)) n) _ _ (le-leb (due_from {A = A} c (Question x)) n
      (subst (λ (m : ℕ). m ≤ n) (first.from ∙ ap (due_from c) is) late)))
      ∙ sym (ap (row_of_item (start c n words s)) (first.item ∙ ap (item_of (drop 1 s.waiting)) is))

  -- and the oldest ask from the ask's moment on
  pub ask_due : (a : Bor Ask) → IsDueFirst c s.waiting s.asks d → d.oldest ≡ OfAsk a → d.moment ≤ n
      → row_of_failure (start c n words s) a.now TimedOut ≡ row_of_tick (start c n words s)
  ask_due a first is late =
      sym (cond-true (nat_le (due_from {A = A} c (OfAsk a)) n) _ _ (le-leb (due_from {A = A} c (OfAsk a)) n
      (subst (λ (m : ℕ). m ≤ n) (first.from ∙ ap (due_from c) is) late)))
      ∙ sym (ap (row_of_item (start c n words s)) (first.item ∙ ap (item_of (drop 1 s.waiting)) is))

module _ {A : Type 0} (c : Config) (s : State) (d : Due A) where
  pub question_there : (x : Bor Waiting) → IsDueFirst c s.waiting s.asks d → d.oldest ≡ Question x → slice_get s.waiting 0 ≡ Some x.now
  question_there x first is = subst (IsOldest s.waiting s.asks) is first.oldest

  -- the oldest ask is the ask on its path
  pub oldest_on : (a : Bor Ask) → IsDueFirst c s.waiting s.asks d → d.oldest ≡ OfAsk a → ask_on a.now.path s.asks ≡ Some a.now
  oldest_on a first is =
      ap (ask_on a.now.path) (rest_is s.asks a.now (subst (IsOldest s.waiting s.asks) is first.oldest))
      ∙ cond-true (same_path a.now.path a.now.path) _ _ (same_path_reflexive a.now.path)

-- if nothing is due, the first due moment has not come
pub not_early : {A : Type 0} {P : Type 0} (c : Config) (n : ℕ) (s : State) (d : Due A) → IsDueFirst c s.waiting s.asks d → d.moment ≤ n → is_due_at c n s ≡ false → P
not_early c n s d first late none = absurd (false≢true (sym none ∙ first.due n ∙ le-leb d.moment n late))

-- the ask of a question that no other question waits for
pub alone_is : (q : QuestionValue) (others : List Waiting) (listed : List Ask) (o : Option Ask) → list_any (waits_for q) others ≡ false → of_question q listed ≡ o → closed_path o ≡ closed_path (left_alone q others listed)
alone_is q others listed o none is = sym (ap closed_path (cond-false (list_any (waits_for q) others) None (of_question q listed) none ∙ is))
