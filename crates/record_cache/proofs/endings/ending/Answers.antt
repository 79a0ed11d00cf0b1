use Rattle.std.proofs.Common.{map, ap, ◌∙◌}
use Rattle.std.specs.Char.{to_ascii_lowercase}
use Rattle.record_cache.proofs.Telling.{code_short, code_long}
use Rattle.record_cache.proofs.endings.ending.Goals as goal

pub returns-in-None-clause-ending : goal.returns-in-None-clause-ending
returns-in-None-clause-ending c = code_short c.args.octets.now c.requires c.in-None.ensures.cases

pub returns-in-Some-clause-ending : goal.returns-in-Some-clause-ending
returns-in-Some-clause-ending c =
    c.number_of.ensures
    ∙ code_long c.args.octets.now c.make_ascii_lowercase.new.self c.requires c.in-Some.ensures.cases.0
    (c.make_ascii_lowercase.ensures.after ∙ ap (map to_ascii_lowercase) c.in-Some.ensures.cases.1.same)
