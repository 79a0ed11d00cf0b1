-- Reading from the front, with the first fault. Some faults of a type mean out of memory; nothing
-- follows from a call with such a fault.
use Rattle.std.specs.Prelude.{◌≡◌, ℕ, Bool, true, false, Result, Ok, Err}

infixl 10 ◌>>=◌
-- the first fault, otherwise the result for the value
abbrev pub ◌>>=◌ : {E A B : Type 0} → Result A E → (A → Result B E) → Result B E
(Ok x) >>= f = f x
(Err e) >>= f = Err e

-- nothing if the test holds, otherwise the fact
abbrev pub Unless : Bool → Type 0 → Type 0
Unless true fact = Unit {0}
Unless false fact = fact

-- The failure of a call is the answer, unless memory ran out.
abbrev pub Fails : {E Y : Type 0} → (E → Bool) → E → Result Y E → Type 0
Fails wants_memory fault answer = Unless (wants_memory fault) (answer ≡ Err fault)

-- The value of a call, seen by view, is the answer, unless memory ran out.
abbrev pub Gives : {E X Y : Type 0} → (E → Bool) → (X → Y) → Result X E → Result Y E → Type 0
Gives wants_memory view (Ok x) answer = answer ≡ Ok (view x)
Gives wants_memory view (Err fault) answer = Fails wants_memory fault answer

-- the place after the part read
abbrev pub end_read : {E X : Type 0} → Result (X × ℕ) E → Result ℕ E
end_read (Ok x) = Ok x.1
end_read (Err fault) = Err fault
