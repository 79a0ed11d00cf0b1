use Rattle.std.proofs.Common.{◌≡◌, ◌-◌, ℕ, cond, nat_lt, is_eq, Bool, slice_get, List, ap, sym, ◌∙◌, rules}
use Rattle.outstanding.specs.declared.keyed.QuestionKey.{QuestionKey}
use Rattle.waiting_questions.specs.Values.{Waiting, waits_for, WaitingList}
use Rattle.waiting_questions.specs.Indexes.{keys_of, to_question}
use Rattle.waiting_questions.proofs.Ranges.{waits_by_key}
use Rattle.waiting_questions.proofs.Indexed.{any_other, byte_is}
use Rattle.waiting_questions.proofs.waiting_questions.WaitingQuestions.is_any_other_for.Goals as goal

pub returns-in-Some : goal.returns-in-Some
returns-in-Some g c =
    let x : Waiting = c.in-Some.first.now in
    let waits : c.is_eq.result ≡ waits_for c.args.question.now x =
    c.is_eq.ensures ∙ ap is_eq (c.cmp_question.ensures ∙ ap (λ (k : QuestionKey). to_question k x) c.of-key.ensures) ∙ sym (waits_by_key c.args.question.now x) in
    let one : c.from.result ≡ cond (waits_for c.args.question.now x) 1 0 = c.from.ensures ∙ byte_is c.is_eq.result ∙ ap (λ (b : Bool). cond {A = ℕ} b 1 0) waits in
    let items = ap (λ (w : WaitingList). w.items) c.self.view_is in
    ap (λ (n : ℕ). nat_lt n (c.range-start.result.1 - c.range-start.result.0)) one
    ∙ any_other c.self.inside.table.waiting (keys_of c.self.inside.table.by_question.items) c.self.inside.table.by_arrival.keys c.self.invariant.lists c.args.question.now c.of-key.result c.of-key.ensures
    c.range-start.result.0 c.range-start.result.1 c.range-start.ensures c.args.self.now.items items x (ap (λ (xs : List Waiting). slice_get xs 0) (sym items) ∙ c.in-Some.ensures)

pub returns-in-None : goal.returns-in-None
returns-in-None g c = search rules
