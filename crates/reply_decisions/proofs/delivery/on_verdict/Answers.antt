use Rattle.std.proofs.Common.{ap, sym}
use Rattle.step_table.specs.Replies.{row_of_verdict}
use Rattle.reply_match.specs.Judged.{verdict_of}
use Rattle.step_actions.proofs.CallerLemmas.{decides_as}
use Rattle.reply_decisions.proofs.delivery.on_verdict.Goals as goal

pub returns-in-Stranger-clause-decides : goal.returns-in-Stranger-clause-decides
returns-in-Stranger-clause-decides g c octets view =
    decides_as c.nothing.ensures.decides
    (λ rooms. sym (ap (λ judged. row_of_verdict c.args.start.now rooms c.args.ask.now octets (verdict_of judged))
    c.in-Stranger.is))
