use Rattle.std.proofs.Common.{subst, arith}
use Rattle.tcp_frames.specs.declared.framing.Within.{Within}
use Rattle.tcp_frames.specs.Counting.{Stands}
use Rattle.tcp_frames.proofs.Counting.{length_begins, length_ends, message_goes_on}
use Rattle.tcp_frames.proofs.framing.Within.advance.Goals as goal

pub returns-in-Nothing-clause-counts : goal.returns-in-Nothing-clause-counts
returns-in-Nothing-clause-counts c = λ rest stands. length_begins c.args.piece.now rest c.requires (subst (λ (place : Within). Stands place rest) c.in-Nothing.is stands)

pub returns-in-Length-clause-counts : goal.returns-in-Length-clause-counts
returns-in-Length-clause-counts c = λ rest stands. length_ends c.args.piece.now rest c.in-Length.high _ _ c.requires (subst (λ (place : Within). Stands place rest) c.in-Length.is stands)
    (let e = c.from_be_bytes.ensures in omega (arith, e)) c.before-in-Length.ensures

pub returns-in-Message-clause-counts : goal.returns-in-Message-clause-counts
returns-in-Message-clause-counts c = λ rest stands.
    let count = c.min-count.ensures in
    let wide = c.from.ensures in
    let left = c.get.ensures.value in
    let missing = c.get-in-Message.ensures.value in
    message_goes_on c.args.piece.now rest _ c.min-count.result _ (omega (arith, count)) (omega (arith, count, wide, left))
    (subst (λ (place : Within). Stands place rest) c.in-Message.is stands) (rw missing at c.before-in-Message.ensures)
