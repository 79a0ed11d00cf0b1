use Rattle.std.proofs.Common.{◌≡◌, ℕ, suc, List, sym, ap, ◌∙◌, subst, subst₂, arith}
use Rattle.std.specs.Prelude.{slice_index}
use Rattle.outstanding.specs.declared.numbered.NumberedKey.{NumberedKey}
use Rattle.waiting_questions.specs.Indexes.{waiting_under, keys_of, AreIndexed, AreNumbered}
use Rattle.waiting_questions.proofs.Numbered.{length_keys, key_at, keys_remove, numbers_left, numbers_without}
use Rattle.waiting_questions.proofs.Indexed.{take_indexed, take_items}
use Rattle.waiting_questions.proofs.table.Table.take.Goals as goal

pub returns-clause-indexed : goal.returns-clause-indexed
returns-clause-indexed g c =
    let s = c.args.self.now.waiting in
    let s' = c.remove-2.new.self in
    let items : List NumberedKey = c.args.self.now.by_question.items in
    let item : NumberedKey = c.in-Some.item in
    let read : slice_index (keys_of items) c.args.place ≡ c.key.result = key_at items c.args.place item 0 c.requires.place ∙ ap (λ (n : NumberedKey). n.key) (sym c.in-Some.ensures.value) ∙ sym c.key.ensures.key in
    record {
      lists = subst₂ (AreIndexed s') (sym (ap keys_of c.in-Some.ensures.items ∙ keys_remove items c.args.place)) (sym c.take.ensures.keys)
          (take_indexed s (keys_of items) c.args.self.now.by_arrival.keys c.requires.indexed.lists s' c.key.result c.remove-2.ensures.updates
          c.args.place c.args.arrival_rank (omega (arith, c.requires.place, length_keys items)) c.requires.arrival_rank read (sym c.requires.one ∙ read));
      numbers = subst (AreNumbered s') (sym c.in-Some.ensures.items)
          (numbers_left s s' _ c.key.result c.remove-2.ensures.updates (numbers_without s items c.args.place (suc c.args.place) c.requires.indexed.numbers));
    }

pub returns-clause-list : goal.returns-clause-list
returns-clause-list g c =
    let items : List NumberedKey = c.args.self.now.by_question.items in
    let item : NumberedKey = c.in-Some.item in
    let read : slice_index (keys_of items) c.args.place ≡ c.key.result = key_at items c.args.place item 0 c.requires.place ∙ ap (λ (n : NumberedKey). n.key) (sym c.in-Some.ensures.value) ∙ sym c.key.ensures.key in
    ap (λ (ks : List ℕ). waiting_under c.remove-2.new.self ks) c.take.ensures.keys
    ∙ take_items c.args.self.now.waiting (keys_of items) c.args.self.now.by_arrival.keys c.requires.indexed.lists c.remove-2.new.self c.key.result c.remove-2.ensures.updates
    c.args.place c.args.arrival_rank (omega (arith, c.requires.place, length_keys items)) c.requires.arrival_rank read (sym c.requires.one ∙ read)
