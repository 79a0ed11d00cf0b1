use Rattle.std.proofs.Common.{inl, subst, []}
use Rattle.forwarder_core.specs.StepTable.State.{Running}
use Rattle.forwarder_core.specs.TheoremUse.Service.{ComesTo}
use Rattle.forwarder_core.proofs.TheoremUse.CallerLemmas.{run_serves_truly}
use Rattle.replay_script.specs.Runs.{lines_of, RunsLines}
use Rattle.replay_script.proofs.replay.replay_text.Goals as goal

pub returns : goal.returns
returns g c =
    let held = g.W.Write.contents c.args.writer.now in
    let held' = g.W.Write.contents c.run_lines.new.writer in
    let after = c.run_lines.new.forwarder in
    let new = c.in_ok-forwarder.ensures.new in
    let config = c.in_ok-config.config in
    let lines = lines_of c.in-Some.field-0.events.now in
    let runs = subst (λ (f : Running). RunsLines 1 lines f held c.run_lines.result after held') new c.run_lines.ensures in
    let came = subst (λ (f : Running). ComesTo f.config [] f.state) new c.in_ok-forwarder.ensures.new_run in
    inl (record {
      text = c.in-Some.field-0.config.now;
      events = c.in-Some.field-0.events.now;
      parts = c.in-Some.ensures.some;
      config = config;
      read = c.in_ok-config.ensures.read;
      after = after;
      runs = runs;
      truly = run_serves_truly config runs.steps after.state (record { config = came.config; run = runs.run });
    })
