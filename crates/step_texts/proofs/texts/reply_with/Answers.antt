use Rattle.std.proofs.Common.{rules}
use Rattle.step_texts.proofs.texts.reply_with.Goals as goal

pub returns-in-None : goal.returns-in-None
returns-in-None g c = search rules
