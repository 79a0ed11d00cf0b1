-- Listed asks with one ask more or less.
use Rattle.std.proofs.Common.{◌≡◌, ℕ, ◌<◌, ◌≤◌, List, [], ◌∷◌, ◌++◌, length, Bool, true, false, cond, refl, sym, ap, subst, arith, length-append, Some, None}
use Rattle.std.specs.Prelude.{not, filter}
use Rattle.std.specs.List.{find, AllByRecursion}
use Rattle.std.proofs.lemmas.Bool.{eqb-true, eq-eqb, false≢true}
use Rattle.std.proofs.lemmas.Option.{none-some}
use Rattle.outstanding.specs.declared.ask.Path.{Path}
use Rattle.outstanding.specs.declared.ask.Path.TheVariants.{Udp, Tcp}
use Rattle.outstanding.specs.Values.{Ask}
use Rattle.outstanding.specs.Lists.{same_path, on_path, of_question, without_path, IsInTime, Follows, AreInTurn, AreListed, MayBegin}

pub same_path-true : (a b : Path) → same_path a b ≡ true → a ≡ b
same_path-true (Udp a) (Udp b) e = ap Udp (eqb-true a b e)
same_path-true (Tcp a) (Tcp b) e = ap Tcp (eqb-true a b e)
same_path-true (Udp a) (Tcp b) e = absurd (false≢true e)
same_path-true (Tcp a) (Udp b) e = absurd (false≢true e)

pub same_path-refl : (a : Path) → same_path a a ≡ true
same_path-refl (Udp a) = eq-eqb a a refl
same_path-refl (Tcp a) = eq-eqb a a refl

-- ---- one more ask

all_put : {X : Type 0} (P : X → Type 0) (xs : List X) (y : X) → AllByRecursion P xs → P y → AllByRecursion P (xs ++ y ∷ [])
all_put P [] y all last = (last, tt)
all_put P (x ∷ xs) y all last = (all.0, all_put P xs y all.1 last)

in_turn_put : (asks : List Ask) (b : Ask) → AreInTurn asks → AllByRecursion (λ a. Follows a b) asks → AreInTurn (asks ++ b ∷ [])
in_turn_put [] b by_arrival all = (tt, tt)
in_turn_put (a ∷ asks) b by_arrival all = (all_put (Follows a) asks b by_arrival.0 all.0, in_turn_put asks b by_arrival.1 all.1)

pub missed : {X : Type 0} (p : X → Bool) (x : X) (xs : List X) → find p (x ∷ xs) ≡ None → (p x ≡ false) × (find p xs ≡ None)
missed {X} p x xs none = by (p x) none
  where
    by : (b : Bool) → cond b (Some x) (find p xs) ≡ None → (b ≡ false) × (find p xs ≡ None)
    by true e = absurd (none-some x (sym e))
    by false e = (refl, e)

followed : (asks : List Ask) (b : Ask) → on_path b.path asks ≡ None → of_question b.question asks ≡ None → AllByRecursion (λ a. a.asked ≤ b.asked) asks → AllByRecursion (λ a. Follows a b) asks
followed [] b path question later = tt
followed (a ∷ asks) b path question later =
    let paths = missed _ a asks path in
    let questions = missed _ a asks question in
    (record { path = paths.0; question = questions.0; asked = later.0 }, followed asks b paths.1 questions.1 later.1)

pub put : (capacity : ℕ) (asks : List Ask) (ask : Ask) → AreInTurn asks → AllByRecursion IsInTime asks → MayBegin ask asks → length asks < capacity
    → AreListed (record { capacity = capacity; asks = asks ++ ask ∷ [] })
put capacity asks ask by_arrival in_time may room = record {
  few = omega (arith, length-append asks (ask ∷ []));
  by_arrival = in_turn_put asks ask by_arrival (followed asks ask may.path may.question may.later);
  in_time = all_put IsInTime asks ask in_time may.in_time;
}

-- ---- one ask less

all_kept : {X : Type 0} (P : X → Type 0) (q : X → Bool) (xs : List X) → AllByRecursion P xs → AllByRecursion P (filter q xs)
all_kept P q [] all = tt
all_kept {X} P q (x ∷ xs) all = by (q x) (all_kept P q xs all.1)
  where
    by : (b : Bool) → AllByRecursion P (filter q xs) → AllByRecursion P (cond b (x ∷ filter q xs) (filter q xs))
    by true rest = (all.0, rest)
    by false rest = rest

in_turn_kept : (q : Ask → Bool) (asks : List Ask) → AreInTurn asks → AreInTurn (filter q asks)
in_turn_kept q [] by_arrival = tt
in_turn_kept q (a ∷ asks) by_arrival = by (q a) (in_turn_kept q asks by_arrival.1)
  where
    by : (b : Bool) → AreInTurn (filter q asks) → AreInTurn (cond b (a ∷ filter q asks) (filter q asks))
    by true rest = (all_kept (Follows a) q asks by_arrival.0, rest)
    by false rest = rest

fewer : {X : Type 0} (q : X → Bool) (xs : List X) → length (filter q xs) ≤ length xs
fewer q [] = omega arith
fewer {X} q (x ∷ xs) = by (q x) (fewer q xs)
  where
    by : (b : Bool) → length (filter q xs) ≤ length xs → length (cond b (x ∷ filter q xs) (filter q xs)) ≤ length (x ∷ xs)
    by true rest = omega arith
    by false rest = omega arith

pub left : (path : Path) (capacity : ℕ) (asks : List Ask) → AreListed (record { capacity = capacity; asks = asks }) → AreListed (record { capacity = capacity; asks = without_path path asks })
left path capacity asks listed = record {
  few = omega (arith, listed.few, fewer (λ (a : Ask). not (same_path a.path path)) asks);
  by_arrival = in_turn_kept (λ a. not (same_path a.path path)) asks listed.by_arrival;
  in_time = all_kept IsInTime (λ a. not (same_path a.path path)) asks listed.in_time;
}

-- an ask in place of another
pub replaced : (path : Path) (capacity : ℕ) (asks after : List Ask) (ask : Ask) → after ≡ without_path path asks ++ ask ∷ [] → length after ≡ length asks
    → AreListed (record { capacity = capacity; asks = asks }) → MayBegin ask (without_path path asks)
    → AreListed (record { capacity = capacity; asks = after })
replaced path capacity asks after ask is long listed may =
    let rest = left path capacity asks listed in
    let size : length after ≡ length (without_path path asks ++ ask ∷ []) = ap length is in
    subst (λ (xs : List Ask). AreListed (record { capacity = capacity; asks = xs })) (sym is)
    (put capacity (without_path path asks) ask rest.by_arrival rest.in_time may (omega (arith, long, size, listed.few, length-append (without_path path asks) (ask ∷ []))))

-- without an ask on the path, nothing is left out
pub none_left_out : (path : Path) (asks : List Ask) → find (λ (a : Ask). same_path a.path path) asks ≡ None → asks ≡ without_path path asks
none_left_out path [] none = refl
none_left_out path (a ∷ asks) none = by (same_path a.path path) none (none_left_out path asks)
  where
    by : (b : Bool) → cond b (Some a) (find (λ (x : Ask). same_path x.path path) asks) ≡ None
        → (find (λ (x : Ask). same_path x.path path) asks ≡ None → asks ≡ without_path path asks) → a ∷ asks ≡ cond (not b) (a ∷ without_path path asks) (without_path path asks)
    by true e rest = absurd (none-some a (sym e))
    by false e rest = ap (λ xs. a ∷ xs) (rest e)
