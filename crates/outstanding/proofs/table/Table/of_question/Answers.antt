use Rattle.std.proofs.Common.{Some, sym, ap, subst, ◌∙◌}
use Rattle.slab.specs.Slab.{get}
use Rattle.outstanding.specs.declared.keyed.QuestionKey.{QuestionKey}
use Rattle.outstanding.specs.Tables.{IsAt, IsGap, keys_of, to_question}
use Rattle.outstanding.proofs.KeyNumbers.{read_at, present_at}
use Rattle.outstanding.proofs.Indexed.{question_found, question_absent}
use Rattle.outstanding.proofs.table.Table.of_question.Goals as goal

pub index-requires-in-Ok : goal.index-requires-in-Ok
index-requires-in-Ok g c =
    present_at c.args.self.now.asks c.args.self.now.by_question.items c.in-Ok.place c.key.result c.index.result.now c.requires.keys.questions c.in-Ok.ensures.found.in_range c.index.ensures c.key.ensures.key

pub returns-in-Ok : goal.returns-in-Ok
returns-in-Ok g c question same =
    let is = read_at c.args.self.now.by_question.items c.in-Ok.place c.key.result c.index.result.now c.in-Ok.ensures.found.in_range c.index.ensures c.key.ensures.key in
    question_found c.args.self.now.asks (keys_of c.args.self.now.by_path.items) (keys_of c.args.self.now.by_question.items) c.args.self.now.by_arrival.keys c.requires.keys question c.in-Ok.place
    (subst (λ (k : QuestionKey). IsAt (to_question k) c.args.self.now.asks (keys_of c.args.self.now.by_question.items) c.in-Ok.place) same c.in-Ok.ensures.found)
    c.index-in-Ok.result.now (ap (get c.args.self.now.asks) is ∙ c.index-in-Ok.ensures)
    ∙ ap Some (sym c.ask.ensures)

pub returns-in-Err : goal.returns-in-Err
returns-in-Err g c question same =
    question_absent c.args.self.now.asks (keys_of c.args.self.now.by_path.items) (keys_of c.args.self.now.by_question.items) c.args.self.now.by_arrival.keys c.requires.keys question c.in-Err.field-0
    (subst (λ (k : QuestionKey). IsGap (to_question k) c.args.self.now.asks (keys_of c.args.self.now.by_question.items) c.in-Err.field-0) same c.in-Err.ensures.absent)
