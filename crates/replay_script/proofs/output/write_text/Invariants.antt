use Rattle.std.proofs.Common.{ℕ, List, Option}
use Rattle.std.specs.Prelude.{Result}
use Rattle.replay_script.specs.declared.fault.ReplayFault.{ReplayFault}
use Rattle.replay_script.specs.Printing.{Writes}
use Rattle.replay_script.proofs.output.write_text.Given as goal

abbrev pub invariant-loop-try : goal.invariant-loop-try
invariant-loop-try g l =
    (r : Result (Unit {0}) ReplayFault) (held' : Option (List ℕ)) → Writes (g.W.Write.contents l.writer) l.rest r held'
    → Writes (g.W.Write.contents l.fn.writer) l.fn.text r held'
