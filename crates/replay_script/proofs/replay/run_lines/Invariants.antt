use Rattle.std.proofs.Common.{ℕ, ◌+◌, ◌≤◌, List, Option, length}
use Rattle.std.specs.Prelude.{Result}
use Rattle.forwarder_core.specs.StepTable.State.{Running}
use Rattle.replay_script.specs.declared.events.TheConstants.{MOST_LINES}
use Rattle.replay_script.specs.declared.fault.ReplayFault.{ReplayFault}
use Rattle.replay_script.specs.Runs.{lines_of, RunsLines}
use Rattle.replay_script.proofs.replay.run_lines.Given as goal

abbrev pub invariant-loop-rest : goal.invariant-loop-rest
invariant-loop-rest g l = record {
  few : l.number ≤ MOST_LINES;
  goes : (r : Result (Unit {0}) ReplayFault) (after : Running) (held' : Option (List ℕ))
      → RunsLines (l.number + 1) (lines_of l.rest) l.forwarder (g.W.Write.contents l.writer) r after held'
      → RunsLines 1 (lines_of l.fn.events) l.fn.forwarder (g.W.Write.contents l.fn.writer) r after held';
}

abbrev pub decreases-loop-rest : goal.decreases-loop-rest
decreases-loop-rest g l = length l.rest
