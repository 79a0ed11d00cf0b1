use Rattle.std.proofs.Common.{sym, ap}
use Rattle.step_table.specs.Replies.{without_port}
use Rattle.reply_decisions.specs.Fates.{fate_now}
use Rattle.reply_decisions.proofs.fate.WaitingFate.without_port.Goals as goal

pub returns-in-Reply : goal.returns-in-Reply
returns-in-Reply g c = ap (λ f. without_port (fate_now f)) (sym c.in-Reply.is)
