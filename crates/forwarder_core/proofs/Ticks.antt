-- A tick with nothing due.
use Rattle.std.proofs.Common.{◌≡◌, ℕ, List, [], ◌∷◌, Bool, true, false, refl, sym, ap, subst, ◌∙◌}
use Rattle.std.specs.Prelude.{nat_le, if◌then◌else◌}
use Rattle.std.specs.List.{list_any}
use Rattle.std.proofs.lemmas.Bool.{cond-false, or_parts}
use Rattle.suffix_routes.specs.Values.{Config}
use Rattle.outstanding.specs.Values.{Ask}
use Rattle.step_table.specs.State.{State, start}
use Rattle.step_table.specs.WaitingQuestions.Values.{Waiting}
use Rattle.step_table.specs.Steps.{idle_step}
use Rattle.step_table.specs.Row.{is_due_at, effective, Happens, HandsOctets, Row}
use Rattle.step_table.specs.Ticks.{question, attempt, deadline_of, first_item, row_of_item, row_of_tick}
use Rattle.step_table.specs.Replies.{timeout_of}
use Rattle.step_values.specs.Values.{Event, Outcome, tick}

idle_item : (c : Config) (n : ℕ) (words : List ℕ) (s : State) (xs : List Waiting) (listed : List Ask) → list_any (λ (x : Waiting). nat_le (deadline_of c x) n) xs ≡ false → list_any (λ (a : Ask). nat_le (timeout_of c a) n) listed ≡ false
    → row_of_item (start c n words s) (first_item c xs listed) ≡ idle_step n s
idle_item c n words s [] [] early in_time = refl
idle_item c n words s [] (a ∷ listed) early in_time = cond-false (nat_le (timeout_of c a) n) _ _ (or_parts (nat_le (timeout_of c a) n) (list_any (λ (b : Ask). nat_le (timeout_of c b) n) listed) in_time).0
idle_item c n words s (x ∷ xs) [] early in_time = cond-false (nat_le (deadline_of c x) n) _ _ (or_parts (nat_le (deadline_of c x) n) (list_any (λ (y : Waiting). nat_le (deadline_of c y) n) xs) early).0
idle_item c n words s (x ∷ xs) (a ∷ listed) early in_time = by (nat_le (deadline_of c x) (timeout_of c a))
  where
    by : (b : Bool) → row_of_item (start c n words s) (if b then question x xs else attempt a) ≡ idle_step n s
    by true = cond-false (nat_le (deadline_of c x) n) _ _ (or_parts (nat_le (deadline_of c x) n) (list_any (λ (y : Waiting). nat_le (deadline_of c y) n) xs) early).0
    by false = cond-false (nat_le (timeout_of c a) n) _ _ (or_parts (nat_le (timeout_of c a) n) (list_any (λ (b : Ask). nat_le (timeout_of c b) n) listed) in_time).0

-- nothing is done, and the moment passes
pub idle_tick : (c : Config) (n : ℕ) (words : List ℕ) (s : State) → is_due_at c n s ≡ false → row_of_tick (start c n words s) ≡ idle_step n s
idle_tick c n words s none =
    idle_item c n words s s.waiting s.asks (or_parts (list_any (λ (x : Waiting). nat_le (deadline_of c x) n) s.waiting) (list_any (λ (a : Ask). nat_le (timeout_of c a) n) s.asks) none).0
    (or_parts (list_any (λ (x : Waiting). nat_le (deadline_of c x) n) s.waiting) (list_any (λ (a : Ask). nat_le (timeout_of c a) n) s.asks) none).1

pub idle_row : (c : Config) (s t : State) (now n : ℕ) (words : List ℕ) (e : Event) (o : Outcome) → n ≡ effective now s → e ≡ tick → is_due_at c n s ≡ false → o ≡ record { actions = []; unkept = 0; more = false } → t ≡ record s { moment = n }
    → Row c s (record { now = now; words = words; event = e }) o t
idle_row c s t now n words e o moment is none nothing after = record {
  octets = subst HandsOctets (sym is) tt;
  happens = subst (λ (e : Event). Happens (start c (effective now s) words s) e (record { actions = o.actions; unkept = o.unkept; state = t })) (sym is)
      ((λ i. record { actions = (nothing i).actions; unkept = (nothing i).unkept; state = after i }) ∙ sym (idle_tick c n words s none) ∙ ap (λ (m : ℕ). row_of_tick (start c m words s)) moment);
  more = ap (λ (p : Outcome). p.more) nothing ∙ sym none ∙ sym (ap (λ (u : State). is_due_at c u.moment u) after);
}
