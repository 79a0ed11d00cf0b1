-- The state and the history agree on whether more is due.
use Rattle.std.proofs.Common.{◌≡◌, ℕ, suc, ◌+◌, ◌≤◌, List, [], ◌∷◌, length, refl, sym, ap, ◌∙◌, inl, inr, arith}
use Rattle.std.specs.Prelude.{map, nat_le, ◌||◌, ◌==◌}
use Rattle.std.specs.List.{list_any, AllByRecursion}
use Rattle.std.proofs.lemmas.Bool.{cond-true, cond-false, eq-eqb, ne_eqb}
use Rattle.suffix_routes.specs.Values.{Config}
use Rattle.outstanding.specs.Values.{Ask}
use Rattle.step_values.specs.Values.{Step}
use Rattle.step_history.specs.History.{ShownAsk, InEra, moment_at, listed}
use Rattle.step_history.specs.Sound.{unanswered}
use Rattle.step_history.specs.Accounting.{moment_of, is_due}
use Rattle.step_table.specs.State.{State}
use Rattle.waiting_questions.specs.Values.{Waiting}
use Rattle.step_table.specs.Row.{is_due_at}
use Rattle.theorem_sound.specs.Explains.{shown, Waits}

era_length : (upto now : List Step) → InEra upto now → length upto ≤ length now
era_length upto [] era = absurd era
era_length upto (s ∷ past) (inl here) = let same : length upto ≡ length (s ∷ past) = ap length here in omega (arith, same)
era_length upto (s ∷ past) (inr later) = let less = era_length upto past later.1 in omega (arith, less)

-- the moment of an era's step is the moment of the step's number
pub moment_of-era : (asked : Step) (before now : List Step) → InEra (asked ∷ before) now → moment_of now (length before) ≡ moment_at (asked ∷ before)
moment_of-era asked before [] era = absurd era
moment_of-era asked before (s ∷ past) (inl here) =
    let same : suc (length before) ≡ suc (length past) = ap length here in
    cond-true (length before == length past) _ _ (eq-eqb (length before) (length past) (omega (arith, same))) ∙ ap moment_at (sym here)
moment_of-era asked before (s ∷ past) (inr later) =
    let less = era_length (asked ∷ before) past later.1 in
    cond-false (length before == length past) _ _ (ne_eqb (length before) (length past) (λ e. omega (arith, less, e))) ∙ moment_of-era asked before past later.1

waits_due : (c : Config) (now : List Step) (d t : ℕ) (zs : List (Waiting × ℕ)) → AllByRecursion (λ z. Waits c now z.0 z.1) zs
    → list_any (λ (x : Waiting). nat_le (x.taken + d) t) (map (λ (z : Waiting × ℕ). z.0) zs) ≡ list_any (λ (i : ℕ). nat_le (moment_of now i + d) t) (map (λ (z : Waiting × ℕ). z.1) zs)
waits_due c now d t [] all = refl
waits_due c now d t (z ∷ zs) all =
    let w : Waits c now z.0 z.1 = all.0 in
    let is : z.0.taken ≡ moment_of now z.1 = w.moment ∙ sym (moment_of-era w.comes.asked w.comes.before now w.comes.in_era) ∙ ap (moment_of now) (sym w.comes.number) in
    (λ i. nat_le (is i + d) t || waits_due c now d t zs all.1 i)

asks_due : (d t : ℕ) (asks : List Ask) → list_any (λ (a : Ask). nat_le (a.asked + d) t) asks ≡ list_any (λ (a : ShownAsk). nat_le (a.moment + d) t) (map shown asks)
asks_due d t [] = refl
asks_due d t (a ∷ asks) = ap (λ b. nat_le (a.asked + d) t || b) (asks_due d t asks)

pub due_is : (c : Config) (now : List Step) (owners : List ℕ) (s : State) (zs : List (Waiting × ℕ)) → s.moment ≡ moment_at now → map shown s.asks ≡ listed now
    → map (λ (z : Waiting × ℕ). z.0) zs ≡ s.waiting → map (λ (z : Waiting × ℕ). z.1) zs ≡ unanswered now owners → AllByRecursion (λ z. Waits c now z.0 z.1) zs
    → is_due_at c s.moment s ≡ is_due c now owners
due_is c now owners s zs moment asks waiting numbers waits =
    (λ i. list_any (λ (x : Waiting). nat_le (x.taken + c.limits.deadline_ms) s.moment) (sym waiting i) || asks_due c.limits.ask_ms s.moment s.asks i)
    ∙ (λ i. waits_due c now c.limits.deadline_ms s.moment zs waits i || list_any (λ (a : ShownAsk). nat_le (a.moment + c.limits.ask_ms) s.moment) (asks i))
    ∙ (λ i. list_any (λ (j : ℕ). nat_le (moment_of now j + c.limits.deadline_ms) (moment i)) (numbers i) || list_any (λ (a : ShownAsk). nat_le (a.moment + c.limits.ask_ms) (moment i)) (listed now))
