use Rattle.std.proofs.Common.{sym, ◌∙◌}
use Rattle.dns_name.proofs.TextLaws.{dot_found, dot_missing}
use Rattle.dns_name.proofs.text.cut_at_dot.Goals as goal

pub returns-in-Some : goal.returns-in-Some
returns-in-Some c = (dot_found c.args.text.now c.in-Some.at (sym c.first_dot.ensures ∙ c.in-Some.is)).1

pub returns-in-None : goal.returns-in-None
returns-in-None c = dot_missing c.args.text.now (sym c.first_dot.ensures ∙ c.in-None.is)
