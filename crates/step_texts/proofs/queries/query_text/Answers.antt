use Rattle.std.proofs.Common.{◌∙◌}
use Rattle.step_texts.proofs.Room.{question_is_named, not_refused, query_given}
use Rattle.step_texts.proofs.queries.query_text.Goals as goal

pub unreachable-requires : goal.unreachable-requires
unreachable-requires g c =
    let named = question_is_named c.of-question.result _ c.of-question.type_inv.1 in
    let refused = rw c.in-Err-TooLarge.field-0-is at c.in-Err-TooLarge.ensures.given in
    not_refused c.query_header.result c.of-question.result named refused

pub returns-in-Ok : goal.returns-in-Ok
returns-in-Ok g c =
    let named = question_is_named c.of-question.result _ c.of-question.type_inv.1 in
    rw (← c.ask.view_is)
    (c.from_vec.ensures ∙ query_given c.query_header.result c.ask.inside.id c.of-question.result c.ask.inside.question _ named c.query_header.ensures.header c.of-question.ensures c.in-Ok.ensures.given)
