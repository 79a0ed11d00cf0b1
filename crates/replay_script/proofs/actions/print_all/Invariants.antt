use Rattle.std.proofs.Common.{ℕ, List, Option, drop}
use Rattle.std.specs.Prelude.{Result}
use Rattle.step_values.specs.Values.{actions_of}
use Rattle.replay_script.specs.declared.fault.ReplayFault.{ReplayFault}
use Rattle.replay_script.specs.Printing.{Writes, printed_all}
use Rattle.replay_script.proofs.actions.print_all.Given as goal

abbrev pub invariant-loop-place : goal.invariant-loop-place
invariant-loop-place g l =
    (r : Result (Unit {0}) ReplayFault) (held' : Option (List ℕ))
    → Writes (g.W.Write.contents l.writer) (printed_all l.line (actions_of (drop l.place l.actions))) r held'
    → Writes (g.W.Write.contents l.fn.writer) (printed_all l.line (actions_of l.actions)) r held'
