use Rattle.std.proofs.Common.{rules, ◌≡◌, ◌+◌, ◌<◌, ◌≤◌, ◌⊎◌, ◌∙◌, ℕ, Ordering, Less, Equal, Greater, true, false, length, slice_index, is_gt, is_le, refl, sym, ap, inl, inr, arith}
use Rattle.std.proofs.lemmas.Bool.{cases_lt, false≢true}
use Rattle.std.proofs.lemmas.List.Sorted.{IsPartitionPoint-from_clause}
use Rattle.slab.specs.Slab.{get}
use Rattle.outstanding.specs.declared.numbered.NumberedKey.{NumberedKey}
use Rattle.waiting_questions.specs.Indexes.{compared, compared_item, keys_of, to_question}
use Rattle.waiting_questions.proofs.Ranges.{upper_parted, range_from, ends_at}
use Rattle.waiting_questions.proofs.Numbered.{length_keys, told_by_item, parted_items, point_of_keys}
use Rattle.waiting_questions.proofs.places.end_from.Goals as goal

-- a question above the sought question is neither equal nor below
not_le : (o : Ordering) → is_gt o ≡ true → is_le o ≡ false
not_le Less t = absurd (false≢true t)
not_le Equal t = absurd (false≢true t)
not_le Greater t = refl

-- a question not above the sought question is equal or below
le_from : (o : Ordering) → is_gt o ≡ false → is_le o ≡ true
le_from Less t = refl
le_from Equal t = refl
le_from Greater t = absurd (false≢true (sym t))

pub loop-place-preserved : goal.loop-place-preserved
loop-place-preserved g c = λ k less. by k less (cases_lt k c.loop-place.place)
  where
    by : (k : ℕ) → k < c.loop-place.place + 1 → (k < c.loop-place.place) ⊎ (c.loop-place.place ≤ k) → is_le (compared (to_question c.args.question.now) (get c.args.waiting.now (slice_index (keys_of c.args.keys.now.items) k))) ≡ true
    by k less (inl before) = c.loop-place.invariant k before
    by k less (inr from) =
        let here : k ≡ c.loop-place.place = omega arith in
        let within : c.loop-place.place < length c.args.keys.now.items = omega (arith, c.loop-place-test.true, c.min-near.ensures, c.args.keys.now.ok.0) in
        let told = told_by_item c.args.waiting.now c.args.keys.now.items c.requires.keys.present c.requires.numbers c.args.question.now c.loop-place.place c.index.result.now within c.index.ensures in
        ap (λ (n : ℕ). is_le (compared (to_question c.args.question.now) (get c.args.waiting.now (slice_index (keys_of c.args.keys.now.items) n)))) here
        ∙ ap is_le (sym told ∙ sym c.compare.ensures) ∙ le_from c.compare.result (sym c.is_gt.ensures ∙ c.if-is_gt.false)

pub returns-then-is_gt : goal.returns-then-is_gt
returns-then-is_gt g c =
    let s = c.args.waiting.now in
    let items = c.args.keys.now.items in
    let q = c.args.question.now in
    let within : c.loop-place.place < length items = omega (arith, c.loop-place-test.true, c.min-near.ensures, c.args.keys.now.ok.0) in
    let inside : c.loop-place.place < length (keys_of items) = omega (arith, within, length_keys items) in
    let told = told_by_item s items c.requires.keys.present c.requires.numbers q c.loop-place.place c.index.result.now within c.index.ensures in
    range_from s (keys_of items) c.requires.keys q c.args.start c.loop-place.place c.requires.start.0 (omega (arith, inside)) c.requires.start.1
    (ends_at s (keys_of items) c.requires.keys q c.loop-place.place inside c.loop-place.invariant (ap is_le (sym told ∙ sym c.compare.ensures) ∙ not_le c.compare.result (sym c.is_gt.ensures ∙ c.if-is_gt.true)))

pub returns : goal.returns
returns g c =
    let s = c.args.waiting.now in
    let items = c.args.keys.now.items in
    let q = c.args.question.now in
    let end = c.partition_point.result in
    let bound : end ≤ length items = omega (arith, c.partition_point.ensures.bound, c.args.keys.now.ok.0) in
    range_from s (keys_of items) c.requires.keys q c.args.start end c.requires.start.0 (omega (arith, bound, length_keys items)) c.requires.start.1
    (point_of_keys s items c.requires.keys.present c.requires.numbers q is_le end bound
    (IsPartitionPoint-from_clause (λ (item : NumberedKey). is_le (compared_item q s item)) items end c.partition_point.ensures.partitioned
    (parted_items s items c.requires.keys.present c.requires.numbers q is_le (upper_parted s (keys_of items) c.requires.keys q)) (λ a r f' k. search rules)))
