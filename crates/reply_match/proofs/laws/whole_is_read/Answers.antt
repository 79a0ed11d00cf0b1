use Rattle.reply_match.proofs.VerdictLaws.{whole_read}
use Rattle.reply_match.proofs.laws.whole_is_read.Goals as goal

pub returns : goal.returns
returns c = whole_read
