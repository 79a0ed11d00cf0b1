use Rattle.std.proofs.Common.{◌^◌, ◌<◌, ◌∙◌, ℕ, ap, arith, sym, subst}
use Rattle.outstanding.specs.Values.{Ask}
use Rattle.step_texts.specs.StepTable.Replies.{timeout_of}
use Rattle.step_actions.specs.declared.due.Oldest.TheVariants.{Question, Ask as OfAsk}
use Rattle.step_actions.specs.Due.{IsDueFirst}
use Rattle.step_actions.proofs.DueFirst.{ask_alone, ask_first, deadline_fits, oldest_fits, question_alone, question_first}
use Rattle.step_actions.proofs.due.first_due.Goals as goal

pub deadline-requires : goal.deadline-requires
deadline-requires g c =
    deadline_fits c.args.config.now c.args.waiting.now.items c.in-Some-None.question.now c.requires.limits
    c.requires.taken c.in-Some-None.ensures

pub timeout-requires : goal.timeout-requires
timeout-requires g c =
    subst (λ (a : Ask). timeout_of c.args.config.now a < 2 ^ 64) (sym c.ask.ensures)
    (oldest_fits c.args.config.now c.args.inquiries.now c.in-None-Some.ask.now c.requires.limits
    c.in-None-Some.ensures'.listed c.in-None-Some.ensures'.first)

pub deadline-deadline-requires : goal.deadline-deadline-requires
deadline-deadline-requires g c =
    deadline_fits c.args.config.now c.args.waiting.now.items c.in-Some-Some.question.now c.requires.limits
    c.requires.taken c.in-Some-Some.ensures

pub timeout-timeout-requires : goal.timeout-timeout-requires
timeout-timeout-requires g c =
    subst (λ (a : Ask). timeout_of c.args.config.now a < 2 ^ 64) (sym c.ask-in-Some-Some.ensures)
    (oldest_fits c.args.config.now c.args.inquiries.now c.in-Some-Some.ask.now c.requires.limits
    c.in-Some-Some.ensures'.listed c.in-Some-Some.ensures'.first)

pub returns-in-Some-None : goal.returns-in-Some-None
returns-in-Some-None g c =
    subst (λ (m : ℕ). IsDueFirst {A = g.row.A.Denot} c.args.config.now c.args.waiting.now.items
    c.args.inquiries.now.asks (record { oldest = Question c.in-Some-None.question; moment = m }))
    (sym c.deadline.ensures)
    (question_alone c.args.config.now c.args.waiting.now.items c.args.inquiries.now.asks c.in-Some-None.question
    c.in-Some-None.ensures c.in-Some-None.ensures'.first c.requires.in_turn)

pub returns-in-None-Some : goal.returns-in-None-Some
returns-in-None-Some g c =
    subst (λ (m : ℕ). IsDueFirst {A = g.row.A.Denot} c.args.config.now c.args.waiting.now.items
    c.args.inquiries.now.asks (record { oldest = OfAsk c.in-None-Some.ask; moment = m }))
    (sym (c.timeout.ensures ∙ ap (timeout_of c.args.config.now) c.ask.ensures))
    (ask_alone c.args.config.now c.args.waiting.now.items c.args.inquiries.now.asks c.in-None-Some.ask
    c.in-None-Some.ensures c.in-None-Some.ensures'.first c.in-None-Some.ensures'.listed.by_arrival)

pub returns-then-deadline-timeout : goal.returns-then-deadline-timeout
returns-then-deadline-timeout g c =
    let timeout = c.timeout-timeout.ensures ∙ ap (timeout_of c.args.config.now) c.ask-in-Some-Some.ensures in
    let deadline = c.deadline-deadline.ensures in
    let test = c.if-deadline-timeout.true in
    subst (λ (m : ℕ). IsDueFirst {A = g.row.A.Denot} c.args.config.now c.args.waiting.now.items
    c.args.inquiries.now.asks (record { oldest = Question c.in-Some-Some.question; moment = m })) (sym deadline)
    (question_first c.args.config.now c.args.waiting.now.items c.args.inquiries.now.asks c.in-Some-Some.question
    c.in-Some-Some.ask c.in-Some-Some.ensures c.in-Some-Some.ensures'.first c.requires.in_turn
    c.in-Some-Some.ensures'.listed.by_arrival (omega (arith, timeout, deadline, test)))

pub returns-else-deadline-timeout : goal.returns-else-deadline-timeout
returns-else-deadline-timeout g c =
    let timeout = c.timeout-timeout.ensures ∙ ap (timeout_of c.args.config.now) c.ask-in-Some-Some.ensures in
    let deadline = c.deadline-deadline.ensures in
    let test = c.if-deadline-timeout.false in
    subst (λ (m : ℕ). IsDueFirst {A = g.row.A.Denot} c.args.config.now c.args.waiting.now.items
    c.args.inquiries.now.asks (record { oldest = OfAsk c.in-Some-Some.ask; moment = m })) (sym timeout)
    (ask_first c.args.config.now c.args.waiting.now.items c.args.inquiries.now.asks c.in-Some-Some.question
    c.in-Some-Some.ask c.in-Some-Some.ensures c.in-Some-Some.ensures'.first c.requires.in_turn
    c.in-Some-Some.ensures'.listed.by_arrival (omega (arith, timeout, deadline, test)))
