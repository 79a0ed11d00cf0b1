use Rattle.dns_message.proofs.reading.NameLaws.{first_borrowed, first_name_ends}
use Rattle.dns_message.proofs.reading.WholeLaws.{asked}
use Rattle.dns_message.proofs.reading.view.MessageRef.question_ref.Goals as goal

pub overflow_sub-name_end : goal.overflow_sub-name_end
overflow_sub-name_end c = (asked c.self.inside.bytes.now c.self.inside.question_end c.self.invariant).back

pub at-requires : goal.at-requires
at-requires c = first_name_ends c.self.inside.bytes.now c.self.inside.question_end c.self.invariant

pub returns : goal.returns
returns c =
    rw (← c.self.view_is)
    (first_borrowed c.self.inside.bytes.now c.self.inside.question_end c.kind.result c.class.result c.at.result c.self.invariant (rw c.self.view_is c.kind.ensures) (rw c.self.view_is c.class.ensures) c.at.ensures)
