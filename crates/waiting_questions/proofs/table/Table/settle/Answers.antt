use Rattle.std.proofs.Common.{◌≡◌, ◌+◌, ◌<◌, ◌++◌, ◌∷◌, [], List, Option, length, slice_index, sym, ap, ◌∙◌, subst, arith}
use Rattle.outstanding.specs.declared.keyed.QuestionKey.{QuestionKey}
use Rattle.outstanding.specs.declared.numbered.NumberedKey.{NumberedKey}
use Rattle.outstanding.specs.Orders.{question_key}
use Rattle.waiting_questions.specs.Onward.{Onward}
use Rattle.waiting_questions.specs.Indexes.{items_of, keys_of, to_question, IsRange}
use Rattle.waiting_questions.proofs.Numbered.{length_keys, key_at}
use Rattle.waiting_questions.proofs.Fates.{none_left, within, its_key, next_settled, next_enough}
use Rattle.waiting_questions.proofs.table.Table.settle.Goals as goal

pub index-requires : goal.index-requires
index-requires g c =
    let table = c.loop-fate.self in
    let items : List NumberedKey = table.by_question.items in
    let inv = c.loop-fate.invariant in
    let q = c.args.ask.now.question in
    let i = c.range-start.result.0 in
    let j = c.range-start.result.1 in
    let range : IsRange (to_question (question_key q)) table.waiting (keys_of items) i j =
    subst (λ (k : QuestionKey). IsRange (to_question k) table.waiting (keys_of items) i j) c.key-question.ensures c.range-start.ensures in
    let left : List (Option Onward) = c.pop.new.self.items in
    let are : c.loop-fate.fates.items ≡ left ++ c.in-Some.fate ∷ [] = c.in-Some.ensures.items in
    let long : c.len.result ≡ length left = omega (arith, c.len.ensures, c.pop.new.self.ok.0) in
    omega (arith, within q table.waiting (keys_of items) table.by_arrival.keys inv.0.lists i j range c.loop-fate.fates.items left c.in-Some.fate c.len.result are long inv.2, length_keys items, table.by_question.ok.0)

pub place_of-arrival_rank-requires : goal.place_of-arrival_rank-requires
place_of-arrival_rank-requires g c =
    let table = c.loop-fate.self in
    let items : List NumberedKey = table.by_question.items in
    let inv = c.loop-fate.invariant in
    let q = c.args.ask.now.question in
    let i = c.range-start.result.0 in
    let j = c.range-start.result.1 in
    let range : IsRange (to_question (question_key q)) table.waiting (keys_of items) i j =
    subst (λ (k : QuestionKey). IsRange (to_question k) table.waiting (keys_of items) i j) c.key-question.ensures c.range-start.ensures in
    let left : List (Option Onward) = c.pop.new.self.items in
    let are : c.loop-fate.fates.items ≡ left ++ c.in-Some.fate ∷ [] = c.in-Some.ensures.items in
    let long : c.len.result ≡ length left = omega (arith, c.len.ensures, c.pop.new.self.ok.0) in
    let item : NumberedKey = c.index.result.now in
    let inside : i + c.len.result < length items = omega (arith, within q table.waiting (keys_of items) table.by_arrival.keys inv.0.lists i j range c.loop-fate.fates.items left c.in-Some.fate c.len.result are long inv.2, length_keys items) in
    let read : slice_index (keys_of items) (i + c.len.result) ≡ c.key.result = key_at items (i + c.len.result) item 0 inside ∙ ap (λ (n : NumberedKey). n.key) (sym c.index.ensures) ∙ sym c.key.ensures.key in
    its_key q table.waiting (keys_of items) table.by_arrival.keys inv.0.lists i j range c.loop-fate.fates.items left c.in-Some.fate c.len.result are long inv.2 c.key.result read

pub settle_one-requires-clause-place : goal.settle_one-requires-clause-place
settle_one-requires-clause-place g c =
    let table = c.loop-fate.self in
    let items : List NumberedKey = table.by_question.items in
    let inv = c.loop-fate.invariant in
    let q = c.args.ask.now.question in
    let i = c.range-start.result.0 in
    let j = c.range-start.result.1 in
    let range : IsRange (to_question (question_key q)) table.waiting (keys_of items) i j =
    subst (λ (k : QuestionKey). IsRange (to_question k) table.waiting (keys_of items) i j) c.key-question.ensures c.range-start.ensures in
    let left : List (Option Onward) = c.pop.new.self.items in
    let are : c.loop-fate.fates.items ≡ left ++ c.in-Some.fate ∷ [] = c.in-Some.ensures.items in
    let long : c.len.result ≡ length left = omega (arith, c.len.ensures, c.pop.new.self.ok.0) in
    omega (arith, within q table.waiting (keys_of items) table.by_arrival.keys inv.0.lists i j range c.loop-fate.fates.items left c.in-Some.fate c.len.result are long inv.2, length_keys items)

pub settle_one-requires-clause-one : goal.settle_one-requires-clause-one
settle_one-requires-clause-one g c =
    let table = c.loop-fate.self in
    let items : List NumberedKey = table.by_question.items in
    let inv = c.loop-fate.invariant in
    let q = c.args.ask.now.question in
    let i = c.range-start.result.0 in
    let j = c.range-start.result.1 in
    let range : IsRange (to_question (question_key q)) table.waiting (keys_of items) i j =
    subst (λ (k : QuestionKey). IsRange (to_question k) table.waiting (keys_of items) i j) c.key-question.ensures c.range-start.ensures in
    let left : List (Option Onward) = c.pop.new.self.items in
    let are : c.loop-fate.fates.items ≡ left ++ c.in-Some.fate ∷ [] = c.in-Some.ensures.items in
    let long : c.len.result ≡ length left = omega (arith, c.len.ensures, c.pop.new.self.ok.0) in
    let item : NumberedKey = c.index.result.now in
    let inside : i + c.len.result < length items = omega (arith, within q table.waiting (keys_of items) table.by_arrival.keys inv.0.lists i j range c.loop-fate.fates.items left c.in-Some.fate c.len.result are long inv.2, length_keys items) in
    let read : slice_index (keys_of items) (i + c.len.result) ≡ c.key.result = key_at items (i + c.len.result) item 0 inside ∙ ap (λ (n : NumberedKey). n.key) (sym c.index.ensures) ∙ sym c.key.ensures.key in
    read ∙ sym c.place_of-arrival_rank.ensures.stands

pub loop-fate-preserved : goal.loop-fate-preserved
loop-fate-preserved g c =
    let table = c.loop-fate.self in
    let items : List NumberedKey = table.by_question.items in
    let inv = c.loop-fate.invariant in
    let q = c.args.ask.now.question in
    let i = c.range-start.result.0 in
    let j = c.range-start.result.1 in
    let range : IsRange (to_question (question_key q)) table.waiting (keys_of items) i j =
    subst (λ (k : QuestionKey). IsRange (to_question k) table.waiting (keys_of items) i j) c.key-question.ensures c.range-start.ensures in
    let left : List (Option Onward) = c.pop.new.self.items in
    let are : c.loop-fate.fates.items ≡ left ++ c.in-Some.fate ∷ [] = c.in-Some.ensures.items in
    let long : c.len.result ≡ length left = omega (arith, c.len.ensures, c.pop.new.self.ok.0) in
    let item : NumberedKey = c.index.result.now in
    let inside : i + c.len.result < length items = omega (arith, within q table.waiting (keys_of items) table.by_arrival.keys inv.0.lists i j range c.loop-fate.fates.items left c.in-Some.fate c.len.result are long inv.2, length_keys items) in
    let read : slice_index (keys_of items) (i + c.len.result) ≡ c.key.result = key_at items (i + c.len.result) item 0 inside ∙ ap (λ (n : NumberedKey). n.key) (sym c.index.ensures) ∙ sym c.key.ensures.key in (
      c.settle_one.ensures.indexed,
      next_settled q table.waiting (keys_of items) table.by_arrival.keys inv.0.lists i j range c.loop-fate.fates.items left c.in-Some.fate c.len.result are long inv.2 c.place_of-arrival_rank.result c.place_of-arrival_rank.ensures.within (read ∙ sym c.place_of-arrival_rank.ensures.stands) (items_of c.settle_one.new.self) c.settle_one.ensures.list ∙ inv.1,
      next_enough q table.waiting (keys_of items) table.by_arrival.keys inv.0.lists i j range c.loop-fate.fates.items left c.in-Some.fate c.len.result are long inv.2 c.place_of-arrival_rank.result c.place_of-arrival_rank.ensures.within (read ∙ sym c.place_of-arrival_rank.ensures.stands) (items_of c.settle_one.new.self) c.settle_one.ensures.list,
    )

pub returns-clause-list : goal.returns-clause-list
returns-clause-list g c =
    sym (none_left c.args.ask.now.question c.loop-fate.fates.items (items_of c.loop-fate.self) (omega (arith, c.in_default.ensures.cases.0, c.loop-fate.fates.ok.0))) ∙ c.loop-fate.invariant.1
