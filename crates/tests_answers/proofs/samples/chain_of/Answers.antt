use Rattle.std.proofs.Common.{List, [], ◌∷◌, ◌++◌, subst, sym, arith}
use Rattle.std.specs.List.{AllByRecursion}
use Rattle.record_cache.specs.Values.{Held}
use Rattle.answer_builder.specs.Answers.{IsEarlier}
use Rattle.tests_answers.proofs.samples.chain_of.Goals as goal

put_last : (P : Held → Type 0) (hs : List Held) (h : Held) → AllByRecursion P hs → P h → AllByRecursion P (hs ++ h ∷ [])
put_last P [] h all here = (here, tt)
put_last P (other ∷ hs) h all here = (all.0, put_last P hs h all.1 here)

pub loop-piece-preserved : goal.loop-piece-preserved
loop-piece-preserved g c =
    subst (AllByRecursion (IsEarlier c.args.moment)) (sym c.in_ok-push.ensures.ok) (put_last (IsEarlier c.args.moment) c.loop-piece.chain _ c.loop-piece.invariant (c.requires))
