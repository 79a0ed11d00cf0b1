-- A tick with nothing due and the failure of a path without an ask do nothing.
use Rattle.std.proofs.Common.{◌≡◌, ◌∙◌, refl, ap, ℕ, List, [], ◌∷◌, Bool, true, false, cond, Option, None}
use Rattle.std.specs.Prelude.{nat_le, ◌||◌}
use Rattle.std.specs.List.{list_any}
use Rattle.std.proofs.lemmas.Bool.{cond_both}
use Rattle.suffix_routes.specs.Values.{Config}
use Rattle.outstanding.specs.declared.ask.Path.{Path}
use Rattle.outstanding.specs.Values.{Ask}
use Rattle.outstanding.specs.Lists.{on_path as ask_on}
use Rattle.step_values.specs.Values.{path_failed, tick, Outcome}
use Rattle.forwarder_core.specs.StepTable.State.{State, start}
use Rattle.forwarder_core.specs.WaitingQuestions.Values.{Waiting}
use Rattle.forwarder_core.specs.StepTable.Steps.{Done, idle_step, at_moment}
use Rattle.forwarder_core.specs.StepTable.Row.{Row, is_due_at, effective}
use Rattle.forwarder_core.specs.StepTable.Ticks.{question, attempt, deadline_of, first_item, row_of_item}
use Rattle.forwarder_core.specs.StepTable.Replies.{timeout_of}
use Rattle.forwarder_core.specs.StepTable.Failures.{row_of_failed_path}

-- nothing is done, and only the moment is new
pub record IsIdle (n : ℕ) (s : State) (o : Outcome) (s' : State) : Type 0 where
  pub actions : o.actions ≡ []
  pub state : s' ≡ at_moment n s

is_idle : (n : ℕ) (s : State) (o : Outcome) (s' : State) → record { actions = o.actions; unkept = o.unkept; state = s' } ≡ idle_step n s → IsIdle n s o s'
is_idle n s o s' done = record { actions = ap (λ (d : Done). d.actions) done; state = ap (λ (d : Done). d.state) done }

neither : (a b : Bool) → (a || b) ≡ false → (a ≡ false) × (b ≡ false)
neither true b e = absurd (cc)
neither false b e = (refl, e)

off : (b : Bool) (x y : Done) → b ≡ false → cond b x y ≡ y
off b x y is = ap (λ (v : Bool). cond v x y) is

module _ (c : Config) (n : ℕ) (words : List ℕ) (s : State) where
  idle_question : (x : Waiting) (others : List Waiting) → nat_le (deadline_of c x) n ≡ false → row_of_item (start c n words s) (question x others) ≡ idle_step n s
  idle_question x others early = off (nat_le (deadline_of c x) n) _ _ early

  idle_attempt : (a : Ask) → nat_le (timeout_of c a) n ≡ false → row_of_item (start c n words s) (attempt a) ≡ idle_step n s
  idle_attempt a early = off (nat_le (timeout_of c a) n) _ _ early

  idle_item : (xs : List Waiting) (asks : List Ask) → list_any (λ (x : Waiting). nat_le (deadline_of c x) n) xs ≡ false → list_any (λ (a : Ask). nat_le (timeout_of c a) n) asks ≡ false → row_of_item (start c n words s) (first_item c xs asks) ≡ idle_step n s
  idle_item [] [] none early = refl
  idle_item [] (a ∷ asks) none early = idle_attempt a (neither _ _ early).0
  idle_item (x ∷ xs) [] none early = idle_question x xs (neither _ _ none).0
  idle_item (x ∷ xs) (a ∷ asks) none early = cond_both (nat_le (deadline_of c x) (timeout_of c a)) (question x xs) (attempt a) (λ i. row_of_item (start c n words s) i ≡ idle_step n s) (λ _. idle_question x xs (neither _ _ none).0) (λ _. idle_attempt a (neither _ _ early).0)

pub quiet_tick : (c : Config) (s s' : State) (now : ℕ) (words : List ℕ) (o : Outcome) → Row c s (record { now = now; words = words; event = tick }) o s' → is_due_at c (effective now s) s ≡ false → IsIdle (effective now s) s o s' × (o.more ≡ false)
quiet_tick c s s' now words o row none =
    let n = effective now s in
    let both = neither (list_any (λ (x : Waiting). nat_le (deadline_of c x) n) s.waiting) (list_any (λ (a : Ask). nat_le (timeout_of c a) n) s.asks) none in
    let idle = is_idle n s o s' (row.happens ∙ idle_item c n words s s.waiting s.asks both.0 both.1) in
    (idle, row.more ∙ ap (λ (t : State). is_due_at c t.moment t) idle.state ∙ none)

pub quiet_path : (c : Config) (s s' : State) (now : ℕ) (words : List ℕ) (path : Path) (o : Outcome) → Row c s (record { now = now; words = words; event = path_failed path }) o s' → ask_on path s.asks ≡ None → IsIdle (effective now s) s o s'
quiet_path c s s' now words path o row none = is_idle (effective now s) s o s' (row.happens ∙ ap (λ (a : Option Ask). row_of_failed_path (start c (effective now s) words s) a) none)
