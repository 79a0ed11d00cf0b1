-- Effective moments.
use Rattle.std.proofs.Common.{◌≡◌, ℕ, ◌^◌, ◌≤◌, List, [], ◌∷◌, Bool, true, false, refl, sym, subst, arith}
use Rattle.std.specs.Prelude.{min, max}
use Rattle.std.proofs.lemmas.Bool.{cond-false, cond-true}
use Rattle.step_values.specs.Values.{Step}
use Rattle.step_history.specs.History.{is_restart, moment_at}

max_right : (a b : ℕ) → b ≤ max a b
max_right a b = omega arith

pub moment_small : (past : List Step) → moment_at past ≤ 2 ^ 62
moment_small [] = omega arith
moment_small (s ∷ past) = by (is_restart s) refl (moment_small past)
  where
    by : (b : Bool) → is_restart s ≡ b → moment_at past ≤ 2 ^ 62 → moment_at (s ∷ past) ≤ 2 ^ 62
    by true restarts rest = subst (λ (n : ℕ). n ≤ 2 ^ 62) (sym (cond-true (is_restart s) _ _ restarts)) (omega arith)
    by false runs rest = subst (λ (n : ℕ). n ≤ 2 ^ 62) (sym (cond-false (is_restart s) _ _ runs)) (omega (arith, rest))

pub moment_later : (s : Step) (past : List Step) → is_restart s ≡ false → moment_at past ≤ moment_at (s ∷ past)
moment_later s past runs = subst (λ (n : ℕ). moment_at past ≤ n) (sym (cond-false (is_restart s) _ _ runs)) (max_right (min s.input.now (2 ^ 62)) (moment_at past))
