use Rattle.std.proofs.Common.{List, ap, subst}
use Rattle.step_values.specs.Values.{Action, StepInput, Outcome}
use Rattle.forwarder_core.specs.StepTable.Row.{Row}
use Rattle.replay_script.specs.Printing.{Writes, printed_all}
use Rattle.replay_script.proofs.RunLaws.{input_read, line_run}
use Rattle.replay_script.proofs.replay.run_line.Goals as goal

pub returns : goal.returns
returns g c =
    let before = c.args.forwarder.now in
    let after = c.step.new.self in
    let held = g.W.Write.contents c.args.writer.now in
    let held' = g.W.Write.contents c.print_all.new.writer in
    let h = c.in_ok-input.input in
    let o = c.in_ok-outcome.outcome in
    let row = subst (λ (k : StepInput). Row before.config before.state k o after.state) c.input.view_is c.in_ok-outcome.ensures.row in
    let listed = ap (λ (done : Outcome). done.actions) c.outcome.view_is in
    let writes = subst (λ (actions : List Action). Writes held (printed_all c.args.number actions) c.print_all.result held') listed c.print_all.ensures in
    line_run c.args.number c.args.line.now before after held held' c.print_all.result h o
    (input_read c.args.number c.args.line.now h.now h.words h.event c.requires c.in_ok-input.ensures.words c.in_ok-input.ensures.read)
    row c.in_ok-outcome.ensures.config writes
