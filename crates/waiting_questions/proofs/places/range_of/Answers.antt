use Rattle.std.proofs.Common.{rules, is_lt, arith}
use Rattle.std.proofs.lemmas.List.Sorted.{IsPartitionPoint-from_clause}
use Rattle.outstanding.specs.declared.numbered.NumberedKey.{NumberedKey}
use Rattle.waiting_questions.specs.Indexes.{compared_item}
use Rattle.waiting_questions.proofs.Ranges.{lower_parted}
use Rattle.waiting_questions.proofs.Numbered.{length_keys, parted_items, point_of_keys}
use Rattle.waiting_questions.proofs.places.range_of.Goals as goal

pub end_from-requires-clause-start : goal.end_from-requires-clause-start
end_from-requires-clause-start g c =
    let s = c.args.waiting.now in
    let items = c.args.keys.now.items in
    let q = c.args.question.now in
    let start = c.partition_point-start.result in (
      omega (arith, c.partition_point-start.ensures.bound, c.args.keys.now.ok.0, length_keys items),
      point_of_keys s items c.requires.keys.present c.requires.numbers q is_lt start (omega (arith, c.partition_point-start.ensures.bound, c.args.keys.now.ok.0))
          (IsPartitionPoint-from_clause (λ (item : NumberedKey). is_lt (compared_item q s item)) items start c.partition_point-start.ensures.partitioned
          (parted_items s items c.requires.keys.present c.requires.numbers q is_lt (lower_parted s _ c.requires.keys q)) (λ a r f' k. search rules)),
    )
