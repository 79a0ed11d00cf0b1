-- A wire in memory stores a further item of the report.
use Rattle.std.proofs.Common.{◌≡◌, ◌∙◌, refl, sym, subst, ap, ℕ, ◌+◌, ◌-◌, ◌^◌, ◌<◌, ◌≤◌, inl, inr, arith, List, ◌++◌, Option, Some, None, Bool, true, false}
use Rattle.std.specs.Prelude.{IfSome, [], ◌∷◌, map, slice_get, nat_lt, cond}
use Rattle.std.proofs.lemmas.Bool.{ltb-false}
use Rattle.script_wire.specs.declared.script_wire.ScriptTurn.{ScriptTurn}
use Rattle.wires.specs.Wire.{Arrival, Put, Report, ◌then◌, report_then, journal, ReportsMore}
use Rattle.script_wire.specs.Scripts.{stored, Script, standing, no_turn, turn_of, begun, calls_once, faults_once, refuses, Stores}

report_before : (o : Option Report) (more now : Report) → report_then o more ≡ Some now → (before : Report) × (o ≡ Some before) × (now ≡ before then more)
report_before None more now is = absurd (cc)
report_before (Some before) more now is = (before, refl, some_is _ _ is)
  where
    some_is : (s t : Report) → Some s ≡ Some t → t ≡ s
    some_is s t e = cc

-- A call with a stored report reports exactly this, with or without a counted fault.
pub reports_stored : (o new : Option Report) (more : Report) (f f' : ℕ) → f ≤ f' → new ≡ report_then o more → ReportsMore (journal o f) more (journal new f')
reports_stored o new more f f' counts is = record {
  reports = λ now now_is. report_before o more now (sym is ∙ now_is);
  counts = counts;
  stays = λ same below. is;
}

-- A call may fall silent if a fault is counted, or the count is at the last value.
pub reports_by_none : (o new : Option Report) (more : Report) (f f' : ℕ) → f ≤ f' → (f' ≡ f → f < 2 ^ 64 - 1 → ⊥) → new ≡ None → ReportsMore (journal o f) more (journal new f')
reports_by_none o new more f f' counts risen silent = record {
  reports = λ now is. absurd (cc);
  counts = counts;
  stays = λ same below. absurd (risen same below);
}

never_falls : (b : Bool) (f : ℕ) → f ≤ cond b (f + 1) f
never_falls true f = omega arith
never_falls false f = omega arith

never_same : (b : Bool) (f : ℕ) → cond b (f + 1) f ≡ f → nat_lt f (2 ^ 64 - 1) ≡ b → f < 2 ^ 64 - 1 → ⊥
never_same true f same is below = omega (arith, same)
never_same false f same is below = let least = ltb-false f (2 ^ 64 - 1) is in omega (arith, least, below)

-- A call reports exactly this, if the report is stored or a lack of memory counted.
pub reports_if_stores : (old new : Script) (more : Report) → Stores old more new → ReportsMore (journal old.report old.faults) more (journal new.report new.faults)
reports_if_stores old new more (inl is) =
    let same = ap (λ (s : Script). s.faults) is in
    reports_stored old.report new.report more old.faults new.faults (omega (arith, same)) (ap (λ (s : Script). s.report) is)
reports_if_stores old new more (inr is) =
    let rises = ap (λ (s : Script). s.faults) is in
    reports_by_none old.report new.report more old.faults new.faults (subst (λ (f : ℕ). old.faults ≤ f) (sym rises) (never_falls (nat_lt old.faults (2 ^ 64 - 1)) old.faults))
    (λ same below. never_same (nat_lt old.faults (2 ^ 64 - 1)) old.faults (sym rises ∙ same) refl below) (ap (λ (s : Script). s.report) is)

-- the stored puts are the report's
pub shows : (reports : Bool) (a : List (Option Arrival)) (p : List Put) (m : List ℕ) (w : List (List ℕ)) (xs : List Put) (o : Option Report) → stored reports a p m w ≡ o → xs ≡ p → IfSome o (λ (report : Report). xs ≡ report.puts)
shows true a p m w xs o is same = subst (λ (v : Option Report). IfSome v (λ (report : Report). xs ≡ report.puts)) is same
shows false a p m w xs o is same = subst (λ (v : Option Report). IfSome v (λ (report : Report). xs ≡ report.puts)) is tt

-- the turn of a wire before the first turn begins
pub standing_some : {A : Type 0} (turns : List (ScriptTurn A)) (turn : ScriptTurn A) → slice_get turns 0 ≡ Some turn → standing (map turn_of turns) ≡ turn_of turn
standing_some [] turn is = absurd (cc)
standing_some (first ∷ later) turn is = ap turn_of (some_is first turn is)
  where
    some_is : {X : Type 0} (s t : X) → Some s ≡ Some t → s ≡ t
    some_is s t e = cc

pub standing_none : {A : Type 0} (turns : List (ScriptTurn A)) → slice_get turns 0 ≡ None → standing (map turn_of turns) ≡ no_turn
standing_none [] none = refl
standing_none (first ∷ later) none = absurd (cc)

-- a refused call changes only the counts and the report
pub counted_so : (value begun_one script : Script) (report : Option Report) → value ≡ calls_once begun_one → begun_one ≡ begun script
    → record { report = report; faults = value.faults + 1; to_come = value.to_come; moment = value.moment; words = value.words; refuse = value.refuse; calls = value.calls } ≡ record (faults_once (calls_once (begun script))) { report = report }
counted_so value begun_one script report counts begins = rw (counts, begins) refl

pub refused_so : (begun_one script : Script) → refuses begun_one ≡ true → begun_one ≡ begun script → refuses script ≡ false → ⊥
refused_so begun_one script refused begins not_so = both (sym (ap (λ (s : Script). refuses s) begins) ∙ refused) not_so
  where
    both : {b : Bool} → b ≡ true → b ≡ false → ⊥
    both is is_not = absurd (cc)
