use Rattle.std.proofs.Common.{ℕ, List, sym, ap, ◌∙◌, subst, subst₂}
use Rattle.std.specs.List.{insert}
use Rattle.outstanding.specs.declared.keyed.QuestionKey.{QuestionKey}
use Rattle.outstanding.specs.declared.numbered.NumberedKey.{NumberedKey}
use Rattle.outstanding.specs.Orders.{question_key}
use Rattle.waiting_questions.specs.Values.{Waiting}
use Rattle.waiting_questions.specs.Indexes.{waiting_under, keys_of, to_question, IsByTaken, AreIndexed, AreNumbered, IsRange}
use Rattle.waiting_questions.proofs.Keys.{not_among}
use Rattle.waiting_questions.proofs.Numbered.{keys_insert, numbers_put}
use Rattle.waiting_questions.proofs.Indexed.{put_indexed, put_items}
use Rattle.waiting_questions.proofs.table.Table.put.Goals as goal

pub returns-clause-indexed : goal.returns-clause-indexed
returns-clause-indexed g c =
    let s = c.args.self.now.waiting in
    let s' = c.insert_reserved-key.new.self in
    let items : List NumberedKey = c.args.self.now.by_question.items in
    let by_arrival : List ℕ = c.args.self.now.by_arrival.keys in
    let lists = c.requires.indexed.lists in
    let x : Waiting = c.args.waiting in
    let key : ℕ = c.insert_reserved-key.result in
    let item : NumberedKey = record { number = c.number-number.result; key = key } in
    let put = c.in-Ok.ensures.items ∙ ap (λ (it : NumberedKey). insert items c.range-end.result.1 it) c.new-item.ensures in
    let range : IsRange (to_question (question_key x.wanted)) s (keys_of items) c.range-end.result.0 c.range-end.result.1 =
    subst (λ (k : QuestionKey). IsRange (to_question k) s (keys_of items) c.range-end.result.0 c.range-end.result.1) c.key-question.ensures c.range-end.ensures in
    record {
      lists = subst₂ (AreIndexed s') (sym (ap keys_of put ∙ keys_insert items c.range-end.result.1 item)) (sym c.put.ensures.keys)
          (put_indexed s (keys_of items) by_arrival lists s' key x c.insert_reserved-key.ensures.was_vacant c.insert_reserved-key.ensures.updates c.range-end.result.0 c.range-end.result.1 range c.requires.later);
      numbers = subst (AreNumbered s') (sym put)
          (numbers_put s s' items lists.questions.present c.requires.indexed.numbers x item c.insert_reserved-key.ensures.was_vacant c.insert_reserved-key.ensures.updates
          (c.number-number.ensures ∙ ap (λ (k : QuestionKey). k.number) c.key-question.ensures) c.range-end.result.1);
    }

pub returns-clause-list : goal.returns-clause-list
returns-clause-list g c =
    ap (λ (ks : List ℕ). waiting_under c.insert_reserved-key.new.self ks) c.put.ensures.keys
    ∙ put_items c.args.self.now.waiting (keys_of c.args.self.now.by_question.items) c.args.self.now.by_arrival.keys c.requires.indexed.lists c.insert_reserved-key.new.self c.insert_reserved-key.result c.args.waiting
    c.insert_reserved-key.ensures.was_vacant c.insert_reserved-key.ensures.updates

-- the key is new
pub put-requires-clause-other : goal.put-requires-clause-other
put-requires-clause-other g c =
    not_among IsByTaken c.args.self.now.waiting c.insert_reserved-key.new.self c.args.self.now.by_arrival.keys c.requires.indexed.lists.arrivals c.insert_reserved-key.result c.args.waiting c.insert_reserved-key.ensures.was_vacant c.insert_reserved-key.ensures.updates
