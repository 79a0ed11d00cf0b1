use Rattle.std.proofs.Common.{◌≡◌, ◌∙◌, ℕ, sym, subst}
use Rattle.std.proofs.lemmas.Result.{IfOk-weaker}
use Rattle.replay_script.specs.StepTable.State.{Running}
use Rattle.replay_script.specs.StepTable.Steps.{initial}
use Rattle.forwarder_commands.specs.Service.{ServesAndReports, ServesFrom, journal_of}
use Rattle.forwarder_commands.proofs.serving.serve_config.Goals as goal

pub returns-clause-serves : goal.returns-clause-serves
returns-clause-serves g c =
    let wire = c.in_ok-wire.wire in
    let after = c.serve_as_one.new.forwarder in
    let wire_after = c.serve_as_one.new.wire in
    let held = g.T.Write.contents c.args.writer.now in
    let held' = g.T.Write.contents c.serve_as_one.new.writer in
    IfOk-weaker c.serve_as_one.result _ _
    (λ _ serves. record {
      wire = wire;
      is_new = c.in_ok-wire.ensures.made;
      after = after;
      wire_after = wire_after;
      serves = subst (λ (before : Running). ServesAndReports before (journal_of wire) c.args.turns.number after (journal_of wire_after) held held')
          c.in_ok-forwarder.ensures.new
          (subst (λ (turns : ℕ). ServesAndReports c.in_ok-forwarder.forwarder (journal_of wire) turns after (journal_of wire_after) held held')
          c.number.ensures serves);
    })
    c.serve_as_one.ensures.serves
