use Rattle.std.proofs.Common.{◌≡◌, ◌-◌, ℕ, sym, ap, ◌∙◌, subst, arith}
use Rattle.std.specs.Prelude.{slice_index_or}
use Rattle.outstanding.specs.declared.numbered.NumberedKey.{NumberedKey}
use Rattle.waiting_questions.specs.Indexes.{keys_of, AreNumbered}
use Rattle.waiting_questions.proofs.Numbered.{length_keys, key_read, keys_remove_range, numbers_left, numbers_without}
use Rattle.waiting_questions.proofs.Indexed.{newest_in_turn, newest_ends, ended_indexed, ended_items}
use Rattle.waiting_questions.proofs.table.Table.end.Goals as goal

pub place_of-arrival_rank-requires : goal.place_of-arrival_rank-requires
place_of-arrival_rank-requires g c =
    let table = c.loop-place.self in
    let ending = c.loop-place.invariant.0 in
    let item : NumberedKey = c.index.result.now in
    newest_in_turn c.args.ask.now.question _ table.waiting (keys_of table.by_question.items) table.by_arrival.keys c.range-start.result.0 c.loop-place.place c.range-start.result.1 ending
    c.key-key.result c.loop-place-test.true (subst (λ (k : ℕ). k ≡ slice_index_or (keys_of table.by_question.items) (c.loop-place.place - 1) k) (sym c.key-key.ensures.key) (key_read table.by_question.items (c.loop-place.place - 1) item (omega (arith, c.loop-place-test.true, ending.low, ending.high, length_keys table.by_question.items)) c.index.ensures))

pub loop-place-preserved : goal.loop-place-preserved
loop-place-preserved g c =
    let table = c.loop-place.self in
    let ending = c.loop-place.invariant.0 in
    let item : NumberedKey = c.index.result.now in (
      newest_ends c.args.ask.now.question _ table.waiting (keys_of table.by_question.items) table.by_arrival.keys c.range-start.result.0 c.loop-place.place c.range-start.result.1 ending
          c.key-key.result c.loop-place-test.true (subst (λ (k : ℕ). k ≡ slice_index_or (keys_of table.by_question.items) (c.loop-place.place - 1) k) (sym c.key-key.ensures.key) (key_read table.by_question.items (c.loop-place.place - 1) item (omega (arith, c.loop-place-test.true, ending.low, ending.high, length_keys table.by_question.items)) c.index.ensures))
          c.let_go.new.waiting c.let_go.ensures c.place_of-arrival_rank.result c.place_of-arrival_rank.ensures.within c.place_of-arrival_rank.ensures.stands c.take.new.self.keys c.take.ensures.keys,
      numbers_left table.waiting c.let_go.new.waiting table.by_question.items c.key-key.result c.let_go.ensures c.loop-place.invariant.1,
    )

pub returns-clause-indexed : goal.returns-clause-indexed
returns-clause-indexed g c =
    let table = c.loop-place.self in
    record {
      lists = ended_indexed c.args.ask.now.question _ table.waiting (keys_of table.by_question.items) table.by_arrival.keys c.range-start.result.0 c.loop-place.place c.range-start.result.1 c.loop-place.invariant.0
          c.loop-place-test.false (keys_of c.take_range.new.keys.items) (ap keys_of c.take_range.ensures ∙ keys_remove_range table.by_question.items c.range-start.result.0 c.range-start.result.1);
      numbers = subst (AreNumbered table.waiting) (sym c.take_range.ensures) (numbers_without table.waiting table.by_question.items c.range-start.result.0 c.range-start.result.1 c.loop-place.invariant.1);
    }

pub returns-clause-list : goal.returns-clause-list
returns-clause-list g c =
    let table = c.loop-place.self in
    ended_items c.args.ask.now.question _ table.waiting (keys_of table.by_question.items) table.by_arrival.keys c.range-start.result.0 c.loop-place.place c.range-start.result.1 c.loop-place.invariant.0
    c.loop-place-test.false (keys_of c.take_range.new.keys.items) (ap keys_of c.take_range.ensures ∙ keys_remove_range table.by_question.items c.range-start.result.0 c.range-start.result.1)
