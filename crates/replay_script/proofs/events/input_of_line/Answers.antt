use Rattle.std.proofs.Common.{rules}
use Rattle.replay_script.proofs.events.input_of_line.Goals as goal

pub returns-in-Ok-clause-words : goal.returns-in-Ok-clause-words
returns-in-Ok-clause-words g c = search rules

pub returns-in-Err-Form-clause-refused : goal.returns-in-Err-Form-clause-refused
returns-in-Err-Form-clause-refused g c = search rules
