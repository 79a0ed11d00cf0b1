use Rattle.dns_message.proofs.writing.PointerLaws.{none_known}
use Rattle.dns_message.proofs.writing.pointers.Pointers.new.Goals as goal

pub returns : goal.returns
returns g c = λ name. none_known {A = g.row.A.Denot} (record { few = c.new.result; many = c.new-2.result }) name c.new.ensures c.new-2.ensures.empty
