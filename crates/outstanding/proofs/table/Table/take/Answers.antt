use Rattle.std.proofs.Common.{◌≡◌, ◌+◌, ℕ, List, length, None, sym, ap, subst, ◌∙◌, arith}
use Rattle.std.proofs.lemmas.List.{get_or_default}
use Rattle.slab.specs.Slab.{get}
use Rattle.outstanding.specs.declared.keyed.QuestionKey.{QuestionKey}
use Rattle.outstanding.specs.Values.{Ask}
use Rattle.outstanding.specs.Orders.{path_number, question_key}
use Rattle.outstanding.specs.Lists.{on_path}
use Rattle.outstanding.specs.Tables.{IsAt, IsGap, keys_of, asks_under, to_question}
use Rattle.outstanding.proofs.Searches.{is_some_of}
use Rattle.outstanding.proofs.KeyNumbers.{read_at, present_at, keys_left, numbered_left}
use Rattle.outstanding.proofs.Indexed.{Placed, path_absent, has_question, indexed_same, question_place, take_ended, take_indexed, take_asks, take_len}
use Rattle.outstanding.proofs.Listed.{none_left_out}
use Rattle.outstanding.proofs.table.Table.take.Given as given
use Rattle.outstanding.proofs.table.Table.take.Goals as goal

none : (g : given.Over) (c : goal.In_default g) → on_path c.args.path (asks_under c.args.self.now.asks c.args.self.now.by_arrival.keys) ≡ None
none g c =
    path_absent c.args.self.now.asks (keys_of c.args.self.now.by_path.items) (keys_of c.args.self.now.by_question.items) c.args.self.now.by_arrival.keys c.requires.keys c.args.path c.in_default.field-0 c.in_default.ensures.absent

pub returns-in_default-clause-ended : goal.returns-in_default-clause-ended
returns-in_default-clause-ended g c = sym (none g c)

pub returns-in_default-clause-list : goal.returns-in_default-clause-list
returns-in_default-clause-list g c = none_left_out c.args.path (asks_under c.args.self.now.asks c.args.self.now.by_arrival.keys) (none g c)

pub index-requires-2 : goal.index-requires-2
index-requires-2 g c =
    present_at c.args.self.now.asks c.args.self.now.by_path.items c.in-Ok.place c.key-key.result c.index.result.now c.requires.keys.paths c.in-Ok.ensures.found.in_range c.index.ensures c.key-key.ensures.key

-- impossible: the question has no key
pub unreachable-requires : goal.unreachable-requires
unreachable-requires g c =
    has_question c.args.self.now.asks (keys_of c.args.self.now.by_path.items) (keys_of c.args.self.now.by_question.items) c.args.self.now.by_arrival.keys c.requires.keys c.key-key.result c.index-2.result.now c.index-2.ensures c.in_default-place_of.field-0
    (subst (λ (k : QuestionKey). IsGap (to_question k) c.args.self.now.asks (keys_of c.args.self.now.by_question.items) c.in_default-place_of.field-0) c.key.ensures c.in_default-place_of.ensures.absent)

-- the ask's key is in the order of arrival
pub place_of-arrival_rank-requires : goal.place_of-arrival_rank-requires
place_of-arrival_rank-requires g c =
    let v = c.requires.keys.arrivals.complete c.key-key.result (is_some_of (get c.args.self.now.asks c.key-key.result) c.index-2.result.now c.index-2.ensures) in
    (v.0, v.1, get_or_default c.args.self.now.by_arrival.keys v.0 c.key-key.result 0 v.1 ∙ v.2)

placed : (g : given.Over) (c : goal.After-remove g)
    → Placed c.args.self.now.asks (keys_of c.args.self.now.by_path.items) (keys_of c.args.self.now.by_question.items) c.args.self.now.by_arrival.keys c.args.path c.key-key.result c.in-Ok.place c.in-Ok-place_of.question c.place_of-arrival_rank.result c.index-2.result.now
placed g c = record {
  here = c.index-2.ensures;
  at_path = c.in-Ok.ensures.found;
  path_is = read_at c.args.self.now.by_path.items c.in-Ok.place c.key-key.result c.index.result.now c.in-Ok.ensures.found.in_range c.index.ensures c.key-key.ensures.key;
  at_question = subst (λ (k : QuestionKey). IsAt (to_question k) c.args.self.now.asks (keys_of c.args.self.now.by_question.items) c.in-Ok-place_of.question) c.key.ensures c.in-Ok-place_of.ensures.found;
  arrival_rank_in = c.place_of-arrival_rank.ensures.within;
  arrival_rank_is = c.place_of-arrival_rank.ensures.stands;
}

pub returns-clause-indexed : goal.returns-clause-indexed
returns-clause-indexed g c =
    let old = c.args.self.now in
    let at = placed g c in
    record {
      keys =
          indexed_same c.remove.new.self _ _ _ (keys_of c.take_key.new.keys.items) (keys_of c.take_key-2.new.keys.items) c.take.new.self.keys
          (keys_left old.by_path.items c.take_key.new.keys.items c.in-Ok.place c.take_key.ensures.items) (keys_left old.by_question.items c.take_key-2.new.keys.items c.in-Ok-place_of.question c.take_key-2.ensures.items)
          c.take.ensures.keys
          (take_indexed old.asks (keys_of old.by_path.items) (keys_of old.by_question.items) old.by_arrival.keys c.requires.keys c.args.path c.key-key.result c.in-Ok.place c.in-Ok-place_of.question c.place_of-arrival_rank.result c.index-2.result.now at c.remove.new.self c.remove.ensures.updates);
      path_numbers =
          numbered_left old.by_path.items c.take_key.new.keys.items c.in-Ok.place c.take_key.ensures.items (λ (a : Ask). path_number a.path) old.asks c.remove.new.self c.key-key.result c.requires.keys.paths
          at.at_path.in_range at.path_is c.remove.ensures.updates c.requires.path_numbers;
      question_numbers =
          numbered_left old.by_question.items c.take_key-2.new.keys.items c.in-Ok-place_of.question c.take_key-2.ensures.items (λ (a : Ask). (question_key a.question).number) old.asks c.remove.new.self c.key-key.result c.requires.keys.questions
          at.at_question.in_range (question_place old.asks (keys_of old.by_path.items) (keys_of old.by_question.items) old.by_arrival.keys c.requires.keys c.args.path c.key-key.result c.in-Ok.place c.in-Ok-place_of.question c.place_of-arrival_rank.result c.index-2.result.now at)
          c.remove.ensures.updates c.requires.question_numbers;
    }

pub returns-clause-ended : goal.returns-clause-ended
returns-clause-ended g c =
    sym c.remove.ensures.value ∙ c.index-2.ensures
    ∙ sym (take_ended c.args.self.now.asks (keys_of c.args.self.now.by_path.items) (keys_of c.args.self.now.by_question.items) c.args.self.now.by_arrival.keys c.requires.keys c.args.path c.key-key.result c.in-Ok.place c.in-Ok-place_of.question c.place_of-arrival_rank.result c.index-2.result.now (placed g c))

pub returns-clause-list : goal.returns-clause-list
returns-clause-list g c =
    ap (λ (ks : List ℕ). asks_under c.remove.new.self ks) c.take.ensures.keys
    ∙ take_asks c.args.self.now.asks (keys_of c.args.self.now.by_path.items) (keys_of c.args.self.now.by_question.items) c.args.self.now.by_arrival.keys c.requires.keys c.args.path c.key-key.result c.in-Ok.place c.in-Ok-place_of.question c.place_of-arrival_rank.result c.index-2.result.now (placed g c) c.remove.new.self c.remove.ensures.updates

pub returns-clause-len : goal.returns-clause-len
returns-clause-len g c =
    ap (λ (ks : List ℕ). length (asks_under c.remove.new.self ks) + 1) c.take.ensures.keys
    ∙ take_len c.args.self.now.asks (keys_of c.args.self.now.by_path.items) (keys_of c.args.self.now.by_question.items) c.args.self.now.by_arrival.keys c.requires.keys c.args.path c.key-key.result c.in-Ok.place c.in-Ok-place_of.question c.place_of-arrival_rank.result c.index-2.result.now (placed g c) c.remove.new.self c.remove.ensures.updates

pub returns-clause-room : goal.returns-clause-room
returns-clause-room g c = record {
  asks = c.remove.ensures.room;
  by_path = c.take_key.ensures.room;
  by_question = c.take_key-2.ensures.room;
  by_arrival = c.take.ensures.room;
  known = omega (arith, c.remove.ensures.key_is_next, c.place_of-arrival_rank.ensures.stands, c.take.ensures.freed);
  small = omega (arith, c.remove.ensures.key_is_next, c.key-key.ensures.small);
}
