use Rattle.std.proofs.Common.{◌≡◌, ◌≢◌, length, Some, ℕ, List, ap, subst, ◌∙◌, arith}
use Rattle.std.proofs.lemmas.List.Elements.{All-from_get_or}
use Rattle.outstanding.specs.declared.ask.Path.{Path}
use Rattle.outstanding.specs.declared.keyed.QuestionKey.{QuestionKey}
use Rattle.outstanding.specs.Values.{Ask}
use Rattle.outstanding.specs.Orders.{path_number, question_key}
use Rattle.outstanding.specs.Tables.{IsAt, IsGap, keys_of, asks_under, to_path, to_question}
use Rattle.outstanding.proofs.KeyEdits.{not_among}
use Rattle.outstanding.proofs.KeyNumbers.{keys_put, numbered_put}
use Rattle.outstanding.proofs.Indexed.{path_listed, question_listed, indexed_same, put_indexed, put_asks}
use Rattle.outstanding.proofs.table.Table.put.Goals as goal

-- impossible: the path is listed
pub unreachable-requires : goal.unreachable-requires
unreachable-requires g c =
    let is : c.behind-ask.inside.path ≡ c.args.ask.path = ap (λ (a : Ask). a.path) (c.behind-ask.view_is ∙ c.ask.ensures) in
    path_listed c.args.self.now.asks (keys_of c.args.self.now.by_path.items) (keys_of c.args.self.now.by_question.items) c.args.self.now.by_arrival.keys c.requires.indexed.keys c.args.ask.path c.in_default.field-0
    (subst (λ (p : Path). IsAt (to_path p) c.args.self.now.asks (keys_of c.args.self.now.by_path.items) c.in_default.field-0) is c.in_default.ensures.found)
    c.requires.path

-- impossible: the question is listed
pub unreachable-requires-in_default-place_of : goal.unreachable-requires-in_default-place_of
unreachable-requires-in_default-place_of g c =
    let is : c.key.result.now ≡ question_key c.args.ask.question = c.key.ensures in
    question_listed c.args.self.now.asks (keys_of c.args.self.now.by_path.items) (keys_of c.args.self.now.by_question.items) c.args.self.now.by_arrival.keys c.requires.indexed.keys c.args.ask.question c.in_default-place_of.field-0
    (subst (λ (k : QuestionKey). IsAt (to_question k) c.args.self.now.asks (keys_of c.args.self.now.by_question.items) c.in_default-place_of.field-0) is c.in_default-place_of.ensures.found)
    c.requires.question

pub returns-clause-indexed : goal.returns-clause-indexed
returns-clause-indexed g c =
    let old = c.args.self.now in
    let key : ℕ = c.insert_reserved-key.result in
    let a : Ask = c.args.ask in
    let path_gap : IsGap (to_path a.path) old.asks (keys_of old.by_path.items) c.in-Err.path =
    subst (λ (p : Path). IsGap (to_path p) old.asks (keys_of old.by_path.items) c.in-Err.path) (ap (λ (a : Ask). a.path) (c.behind-ask.view_is ∙ c.ask.ensures)) c.in-Err.ensures.absent in
    let question_gap : IsGap (to_question (question_key a.question)) old.asks (keys_of old.by_question.items) c.in-Err-place_of.question =
    subst (λ (k : QuestionKey). IsGap (to_question k) old.asks (keys_of old.by_question.items) c.in-Err-place_of.question) c.key.ensures c.in-Err-place_of.ensures.absent in
    record {
      keys =
          indexed_same c.insert_reserved-key.new.self _ _ _ (keys_of c.put_key.new.keys.items) (keys_of c.put_key-2.new.keys.items) c.put.new.self.keys
          (keys_put old.by_path.items c.put_key.new.keys.items c.in-Err.path c.number-path_number.result key c.new.result c.put_key.ensures c.new.ensures)
          (keys_put old.by_question.items c.put_key-2.new.keys.items c.in-Err-place_of.question c.number-question_number.result key c.new-2.result c.put_key-2.ensures c.new-2.ensures)
          c.put.ensures.keys
          (put_indexed old.asks c.insert_reserved-key.new.self (keys_of old.by_path.items) (keys_of old.by_question.items) old.by_arrival.keys c.requires.indexed.keys key a
          c.insert_reserved-key.ensures.was_vacant c.insert_reserved-key.ensures.updates c.in-Err.path c.in-Err-place_of.question path_gap question_gap);
      path_numbers =
          numbered_put old.by_path.items c.put_key.new.keys.items c.in-Err.path c.number-path_number.result key c.new.result c.put_key.ensures c.new.ensures
          (λ (a : Ask). path_number a.path) old.asks c.insert_reserved-key.new.self a c.requires.indexed.keys.paths path_gap.in_range c.insert_reserved-key.ensures.was_vacant c.insert_reserved-key.ensures.updates
          (c.number-path_number.ensures ∙ ap (λ (a : Ask). path_number a.path) (c.behind-ask-2.view_is ∙ c.ask-2.ensures)) c.requires.indexed.path_numbers;
      question_numbers =
          numbered_put old.by_question.items c.put_key-2.new.keys.items c.in-Err-place_of.question c.number-question_number.result key c.new-2.result c.put_key-2.ensures c.new-2.ensures
          (λ (a : Ask). (question_key a.question).number) old.asks c.insert_reserved-key.new.self a c.requires.indexed.keys.questions question_gap.in_range c.insert_reserved-key.ensures.was_vacant c.insert_reserved-key.ensures.updates
          (c.number-question_number.ensures ∙ ap (λ (k : QuestionKey). k.number) c.key-2.ensures) c.requires.indexed.question_numbers;
    }

pub returns-clause-list : goal.returns-clause-list
returns-clause-list g c =
    let key : ℕ = c.insert_reserved-key.result in
    ap (λ (ks : List ℕ). asks_under c.insert_reserved-key.new.self ks) c.put.ensures.keys
    ∙ put_asks c.args.self.now.asks c.insert_reserved-key.new.self (keys_of c.args.self.now.by_path.items) (keys_of c.args.self.now.by_question.items) c.args.self.now.by_arrival.keys c.requires.indexed.keys key c.args.ask
    c.insert_reserved-key.ensures.was_vacant c.insert_reserved-key.ensures.updates

-- the key is new
pub put-requires-clause-other : goal.put-requires-clause-other
put-requires-clause-other g c =
    All-from_get_or (λ k. k ≢ c.insert_reserved-key.result) c.args.self.now.by_arrival.keys 0
    (not_among c.args.self.now.by_arrival.keys (length c.args.self.now.by_arrival.keys) c.insert_reserved-key.result (omega arith) c.args.self.now.asks c.insert_reserved-key.new.self (Some c.args.ask) c.requires.indexed.keys.arrivals
    c.insert_reserved-key.ensures.was_vacant c.insert_reserved-key.ensures.updates)
