use Rattle.std.proofs.Common.{sym}
use Rattle.replay_script.proofs.LineLaws.{line_of_text, line_of_no_text}
use Rattle.replay_script.proofs.events.timed_event.Goals as goal

pub returns-in-Ok : goal.returns-in-Ok
returns-in-Ok g c = rw (line_of_text c.args.line.now c.in-Ok.ensures.cases.1, sym c.in-Ok.ensures.cases.0) c.moment_and_event.ensures

pub returns-in-Err : goal.returns-in-Err
returns-in-Err g c = line_of_no_text c.args.line.now c.in-Err.ensures.cases.0
