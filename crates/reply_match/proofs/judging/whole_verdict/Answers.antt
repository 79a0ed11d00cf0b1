use Rattle.std.proofs.Common.{◌∙◌, sym}
use Rattle.std.proofs.lemmas.Bool.{true≢false}
use Rattle.reply_match.proofs.VerdictLaws.{whole_told, malformed_told}
use Rattle.reply_match.proofs.judging.whole_verdict.Goals as goal

pub returns-then-is_whole-clause-verdict : goal.returns-then-is_whole-clause-verdict
returns-then-is_whole-clause-verdict c = whole_told c.args.message (c.is_whole.ensures.0 c.if-is_whole.true)

pub returns-else-is_whole-clause-verdict : goal.returns-else-is_whole-clause-verdict
returns-else-is_whole-clause-verdict c = malformed_told c.args.message (λ whole. true≢false (sym (c.is_whole.ensures.1 whole) ∙ c.if-is_whole.false))
