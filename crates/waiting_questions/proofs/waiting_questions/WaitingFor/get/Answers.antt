use Rattle.std.proofs.Common.{◌∙◌, arith}
use Rattle.waiting_questions.proofs.Numbered.{before_end, waits_there, those_there}
use Rattle.waiting_questions.proofs.waiting_questions.WaitingFor.get.Goals as goal

pub question_at-requires-clause-within : goal.question_at-requires-clause-within
question_at-requires-clause-within g c =
    let those = c.self.inside in
    omega (arith, c.self.invariant.high, before_end those.waiting.now those.keys.now.items those.start those.end c.self.invariant c.args.self.now c.self.view_is c.args.place c.requires)

pub question_at-requires-clause-present : goal.question_at-requires-clause-present
question_at-requires-clause-present g c =
    let those = c.self.inside in
    waits_there those.waiting.now those.keys.now.items those.start those.end c.self.invariant c.args.self.now c.self.view_is c.args.place c.requires

pub returns : goal.returns
returns g c =
    let those = c.self.inside in
    those_there those.waiting.now those.keys.now.items those.start those.end c.self.invariant c.args.self.now c.self.view_is c.args.place c.requires ∙ c.question_at.ensures

pub overflow_add-self-inside : goal.overflow_add-self-inside
overflow_add-self-inside g c =
    let those = c.self.inside in
    omega (arith, c.self.invariant.high, those.keys.now.ok.0, those.keys.now.small.0, those.keys.now.small.1, before_end those.waiting.now those.keys.now.items those.start those.end c.self.invariant c.args.self.now c.self.view_is c.args.place c.requires)
