use Rattle.reply_match.proofs.VerdictLaws.{strangers}
use Rattle.reply_match.proofs.laws.strangers_do_not_match.Goals as goal

pub returns : goal.returns
returns c = strangers
