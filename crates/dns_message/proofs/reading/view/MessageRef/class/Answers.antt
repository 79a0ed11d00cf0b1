use Rattle.std.proofs.Common.{arith}
use Rattle.dns_message.proofs.reading.WholeLaws.{asked}
use Rattle.dns_message.proofs.reading.view.MessageRef.class.Goals as goal

pub overflow_sub-self-inside : goal.overflow_sub-self-inside
overflow_sub-self-inside c =
    let a = asked c.self.inside.bytes.now c.self.inside.question_end c.self.invariant in
    omega (arith, a.back)

pub number16-requires : goal.number16-requires
number16-requires c =
    let a = asked c.self.inside.bytes.now c.self.inside.question_end c.self.invariant in
    omega (arith, a.back, a.there)

pub returns : goal.returns
returns c =
    let a = asked c.self.inside.bytes.now c.self.inside.question_end c.self.invariant in
    rw (← c.self.view_is, c.number16.ensures) a.class
