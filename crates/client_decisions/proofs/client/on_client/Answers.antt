use Rattle.std.proofs.Common.{rules, refl}
use Rattle.client_decisions.proofs.Clients.{dropped_row, opcode_row}
use Rattle.step_actions.proofs.CallerLemmas.{decides_as, decides_by}
use Rattle.client_decisions.proofs.client.on_client.Goals as goal

pub returns-clause-decides : goal.returns-clause-decides
returns-clause-decides g c =
    decides_by c.serve_message.result _ _ _ c.serve_message.ensures.decides (λ rooms. search rules)

pub returns-then-header-ne0-clause-decides : goal.returns-then-header-ne0-clause-decides
returns-then-header-ne0-clause-decides g c = decides_by c.refuse_message.result _ _ _ c.refuse_message.ensures.decides
    (λ rooms.
    opcode_row c.args.start.now.config c.args.start.now.moment c.args.start.now.words c.args.client c.args.bytes.now
    c.args.start.now.state c.in-Some.header _
    c.in-Some.ensures.0 c.in-Some.ensures.1 c.if-header-ne0.true refl)

pub returns-in_default-clause-decides : goal.returns-in_default-clause-decides
returns-in_default-clause-decides g c =
    decides_as c.nothing.ensures.decides (λ rooms.
    dropped_row c.args.start.now.config c.args.start.now.moment c.args.start.now.words c.args.client c.args.bytes.now
    c.args.start.now.state _ c.in_default.ensures refl)

pub returns-in_default-with_one_question-clause-decides : goal.returns-in_default-with_one_question-clause-decides
returns-in_default-with_one_question-clause-decides g c = decides_by
    c.refuse_message-in_default-with_one_question.result _ _ _
    c.refuse_message-in_default-with_one_question.ensures.decides (λ rooms. search rules)
