use Rattle.std.proofs.Common.{◌∙◌}
use Rattle.record_cache.proofs.Telling.{key_short, key_long}
use Rattle.record_cache.proofs.endings.key_ending.Goals as goal

pub returns-in-None-clause-ending : goal.returns-in-None-clause-ending
returns-in-None-clause-ending c = key_short c.octets.result.now c.args.key.now c.octets.ensures.laid c.octets.ensures.labels c.in-None.ensures.cases

pub returns-in-Some-clause-ending : goal.returns-in-Some-clause-ending
returns-in-Some-clause-ending c =
    c.number_of.ensures ∙ key_long c.octets.result.now _ c.args.key.now c.octets.ensures.laid c.octets.ensures.labels c.in-Some.ensures.cases.0 c.in-Some.ensures.cases.1.same
