use Rattle.std.proofs.Common.{ap, ◌∙◌}
use Rattle.replay_script.specs.Runs.{lines_of}
use Rattle.replay_script.proofs.LinesOf.{line_first, line_alone}
use Rattle.replay_script.proofs.replay.next_line.Goals as goal

pub returns-in-Some-clause-first : goal.returns-in-Some-clause-first
returns-in-Some-clause-first c =
    let parts = c.in-Some.ensures.some in
    ap lines_of parts.1 ∙ line_first c.in-Some.parts.0.now c.in-Some.parts.1.now parts.0

pub returns-in-None-clause-first : goal.returns-in-None-clause-first
returns-in-None-clause-first c = line_alone c.args.text.now c.requires c.in-None.ensures.none
