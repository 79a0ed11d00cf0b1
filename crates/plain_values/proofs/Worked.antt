-- Worked readings: a value is reported as it is seen, a fault is the answer, and out of memory says
-- nothing.
use Rattle.std.proofs.Common.{◌≡◌, ℕ, ◌+◌, refl}
use Rattle.std.specs.Prelude.{◌==◌, Result, Ok, Err}
use Rattle.plain_values.specs.FirstFault.{◌>>=◌, Gives}

a_value : Gives {E = ℕ} {X = ℕ} {Y = ℕ} (λ e. e == 9) (λ x. x + 1) (Ok 2) (Ok 3)
a_value = refl

a_fault : Gives {E = ℕ} {X = ℕ} {Y = ℕ} (λ e. e == 9) (λ x. x + 1) (Err 4) (Err 4)
a_fault = refl

want_of_memory : Gives {E = ℕ} {X = ℕ} {Y = ℕ} (λ e. e == 9) (λ x. x + 1) (Err 9) (Ok 3)
want_of_memory = tt

first_of_two : ◌≡◌ {A = Result ℕ ℕ} (Err 1 >>= (λ (x : ℕ). Err 2)) (Err 1)
first_of_two = refl
