-- A decision yields a row, also if the row is written in another form.
use Rattle.std.proofs.Common.{◌≡◌, ◌∙◌, List, Bool}
use Rattle.std.specs.Prelude.{Result, IfOk}
use Rattle.std.specs.declared.alloc.AllocError.{AllocError}
use Rattle.std.proofs.lemmas.Result.{IfOk-weaker}
use Rattle.step_texts.specs.StepTable.State.{StepStart}
use Rattle.step_texts.specs.StepTable.Steps.{Done}
use Rattle.step_actions.specs.declared.decision.Decision.{Decision}
use Rattle.step_actions.specs.Decision.{MeetsRow}

pub decides_as : {A : Type 0} {t : StepStart} {made row : List Bool → Done} {d : Decision A} → MeetsRow t made d
    → ((rooms : List Bool) → made rooms ≡ row rooms) → MeetsRow t row d
decides_as told same = record { row = λ rooms. told.row rooms ∙ same rooms; form = told.form }

pub decides_by : {A : Type 0} (r : Result (Decision A) AllocError) (t : StepStart) (made row : List Bool → Done)
    → IfOk r (MeetsRow t made) → ((rooms : List Bool) → made rooms ≡ row rooms) → IfOk r (MeetsRow t row)
decides_by r t made row told same = IfOk-weaker r _ _ (λ d is. decides_as is same) told
