use Rattle.std.proofs.Common.{rules}
use Rattle.replay_script.proofs.input.read_config.Goals as goal

pub returns-clause-read : goal.returns-clause-read
returns-clause-read g c = search rules
