use Rattle.std.proofs.Common.{◌∙◌, sym}
use Rattle.replay_script.proofs.LineLaws.{number_read, number_refused}
use Rattle.replay_script.proofs.events.number.Goals as goal

pub returns-in-Ok : goal.returns-in-Ok
returns-in-Ok c = number_read c.args.most c.args.text.now c.in-Ok.number (sym c.is_numeral.ensures ∙ c.if-not-is_numeral.false) c.in-Ok.ensures.value.0

pub returns-in-Err : goal.returns-in-Err
returns-in-Err c = number_refused c.args.most c.args.text.now (sym c.is_numeral.ensures ∙ c.if-not-is_numeral.false) c.in-Err.ensures.value.0
