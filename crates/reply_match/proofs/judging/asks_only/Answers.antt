use Rattle.reply_match.proofs.VerdictLaws.{told_only}
use Rattle.reply_match.proofs.judging.asks_only.Goals as goal

pub returns-then-header-eq1 : goal.returns-then-header-eq1
returns-then-header-eq1 g c = told_only _ _ _ _ _ c.requires.header c.requires.message c.if-header-eq1.true c.question_is.ensures
