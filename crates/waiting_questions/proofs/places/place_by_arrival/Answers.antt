use Rattle.std.proofs.Common.{◌≡◌, ◌+◌, ◌-◌, ◌/◌, ◌<◌, ◌≤◌, length, slice_index, sym, ap, ◌∙◌, arith}
use Rattle.outstanding.specs.declared.numbered.NumberedKey.{NumberedKey}
use Rattle.waiting_questions.specs.Indexes.{keys_of}
use Rattle.waiting_questions.proofs.Numbered.{length_keys, key_at}
use Rattle.waiting_questions.proofs.Counts.{total, no_more, listed_at, before_rank, after_rank}
use Rattle.waiting_questions.proofs.places.place_by_arrival.Goals as goal

pub loop-low-init : goal.loop-low-init
loop-low-init g c =
    let keys = keys_of c.args.keys.now.items in
    let high : c.args.end ≤ length keys = omega (arith, c.requires.high, length_keys c.args.keys.now.items) in (
      omega arith,
      c.requires.low,
      omega arith,
      (λ p are.
          (omega arith, omega (arith, c.requires.low, no_more p c.args.by_arrival.now.keys c.args.arrival_rank, total p c.args.by_arrival.now.keys keys c.args.start c.args.end c.requires.low high c.requires.apart are))),
    )

pub place_of-requires : goal.place_of-requires
place_of-requires g c =
    let items = c.args.keys.now.items in
    let item : NumberedKey = c.index.result.now in
    let middle = c.loop-low.low + (c.loop-low.high - c.loop-low.low) / 2 in
    let inv = c.loop-low.invariant in
    let within : middle < length items = omega (arith, c.loop-low-test.true, inv.2, c.requires.high) in
    let read : c.key.result ≡ slice_index (keys_of items) middle = c.key.ensures.key ∙ ap (λ (n : NumberedKey). n.key) c.index.ensures ∙ sym (key_at items middle item 0 within) in
    listed_at c.args.by_arrival.now.keys (keys_of items) c.args.start c.args.end middle c.key.result (omega (arith, c.requires.high, length_keys items)) c.requires.listed
    (omega (arith, inv.0)) (omega (arith, c.loop-low-test.true, inv.2)) read

pub loop-low-preserved-then-place_of-arrival_rank : goal.loop-low-preserved-then-place_of-arrival_rank
loop-low-preserved-then-place_of-arrival_rank g c =
    let items = c.args.keys.now.items in
    let item : NumberedKey = c.index.result.now in
    let middle = c.loop-low.low + (c.loop-low.high - c.loop-low.low) / 2 in
    let inv = c.loop-low.invariant in
    let less : middle < c.args.end = omega (arith, c.loop-low-test.true, inv.2) in
    let within : middle < length items = omega (arith, less, c.requires.high) in
    let read : c.key.result ≡ slice_index (keys_of items) middle = c.key.ensures.key ∙ ap (λ (n : NumberedKey). n.key) c.index.ensures ∙ sym (key_at items middle item 0 within) in (
      omega (arith, inv.0),
      omega (arith, c.loop-low-test.true),
      inv.2,
      (λ p are. (
        before_rank p c.args.by_arrival.now.keys (keys_of items) c.args.start c.args.end c.requires.low (omega (arith, c.requires.high, length_keys items)) c.requires.apart are
            middle c.place_of.result c.args.arrival_rank (omega (arith, inv.0)) less c.place_of.ensures.within (c.place_of.ensures.stands ∙ read) c.if-place_of-arrival_rank.true,
        (inv.3 p are).1,
      )),
    )

pub loop-low-preserved : goal.loop-low-preserved
loop-low-preserved g c =
    let items = c.args.keys.now.items in
    let item : NumberedKey = c.index.result.now in
    let middle = c.loop-low.low + (c.loop-low.high - c.loop-low.low) / 2 in
    let inv = c.loop-low.invariant in
    let less : middle < c.args.end = omega (arith, c.loop-low-test.true, inv.2) in
    let within : middle < length items = omega (arith, less, c.requires.high) in
    let read : c.key.result ≡ slice_index (keys_of items) middle = c.key.ensures.key ∙ ap (λ (n : NumberedKey). n.key) c.index.ensures ∙ sym (key_at items middle item 0 within) in (
      inv.0,
      omega arith,
      omega (arith, less),
      (λ p are. (
        (inv.3 p are).0,
        after_rank p c.args.by_arrival.now.keys (keys_of items) c.args.start c.args.end c.requires.low (omega (arith, c.requires.high, length_keys items)) c.requires.apart are
            middle c.place_of.result c.args.arrival_rank (omega (arith, inv.0)) less c.place_of.ensures.within (c.place_of.ensures.stands ∙ read) c.if-place_of-arrival_rank.false,
      )),
    )
