use Rattle.std.proofs.Common.{sym}
use Rattle.dns_message.proofs.reading.WholeLaws.{key_found, key_never_lost}
use Rattle.dns_message.proofs.reading.view.MessageRef.key.Goals as goal

pub unreachable-requires : goal.unreachable-requires
unreachable-requires c = key_never_lost c.self.inside.bytes.now c.self.inside.question_end _ c.self.invariant (sym c.in-Err.ensures)

pub returns : goal.returns
returns c = rw (← c.self.view_is) (key_found c.self.inside.bytes.now c.self.inside.question_end c.in-Ok.key c.self.invariant (sym c.in-Ok.ensures))
