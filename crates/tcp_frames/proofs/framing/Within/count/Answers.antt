use Rattle.std.proofs.Common.{◌≡◌, ◌-◌, List, ℕ, arith, length, take, drop}
use Rattle.std.proofs.lemmas.Grind.{common_steps}
use Rattle.std.proofs.lemmas.List.{length-drop, take_all}
use Rattle.tcp_frames.specs.Counting.{Stands}
use Rattle.tcp_frames.proofs.Counting.{ended_once, goes_on_end, goes_on_more}
use Rattle.tcp_frames.proofs.framing.Within.count.Goals as goal

pub loop-rest-preserved : goal.loop-rest-preserved
loop-rest-preserved c =
    let left = c.loop-rest.rest.now in
    let count = c.advance-count.result in
    let taken = c.advance-count.ensures.taken in
    let behind = length-drop count left in
    let all : take (length left - count) (drop count left) ≡ drop count left =
    take_all (length left - count) (drop count left) (omega (arith, behind))
    in
    let fits = c.loop-rest.invariant.fits in
    let is = c.ended-ended.ensures in
    let once = ended_once c.advance-count.new.self in
    rw (all, is) (record {
      fits = omega (arith, taken, behind, fits, once);
      counts = λ rest stands. goes_on_more rest c.args.piece.now left c.loop-rest.ended count c.loop-rest.self
          c.advance-count.new.self c.advance-count.ensures.counts (c.loop-rest.invariant.counts rest stands);
    })

pub returns : goal.returns
returns c = λ rest stands.
    goes_on_end rest c.args.piece.now c.loop-rest.rest.now c.loop-rest.ended c.loop-rest.self
    (let e = c.loop-rest-test.false in let is = c.is_empty.ensures in grind (arith, common_steps))
    (c.loop-rest.invariant.counts rest stands)
