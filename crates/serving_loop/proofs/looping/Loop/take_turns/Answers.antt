use Rattle.std.proofs.Common.{◌≡◌, ℕ, arith, subst}
use Rattle.std.proofs.lemmas.Result.{err_from_is_err_and}
use Rattle.tcp_frames.proofs.CallerLemmas.{pieces_continue}
use Rattle.serving_loop.specs.Serving.{standing}
use Rattle.serving_loop.proofs.Turns.{TurnsSoFar, turns_none, turns_more, turns_end, turns_cut}
use Rattle.serving_loop.proofs.looping.Loop.take_turns.Goals as goal

pub loop-turn-init : goal.loop-turn-init
loop-turn-init g c = turns_none _ _ c.new.ensures.empty c.new-2.ensures.empty

pub loop-turn-preserved : goal.loop-turn-preserved
loop-turn-preserved g c = turns_more pieces_continue _ _ _ _ _ _ c.loop-turn.invariant c.in_ok-take_turn.ensures

pub returns-in_err-take_turn : goal.returns-in_err-take_turn
returns-in_err-take_turn g c = let p = err_from_is_err_and c.from_residual.result c.from_residual.ensures.1 in rw p.1 (turns_cut pieces_continue _ _ _ _ _ _ _ _ c.loop-turn-test.true c.loop-turn.invariant c.in_err-take_turn.ensures)

pub returns : goal.returns
returns g c =
    let far = c.loop-turn.auto._turn-end in
    let test = c.loop-turn-test.false in
    let all : c.loop-turn._turn ≡ c.args.turns = omega (arith, far, test) in
    let x = standing g.W.Wire.report g.W.Wire.fault_count c.args.self.now in
    let y = standing g.W.Wire.report g.W.Wire.fault_count c.loop-turn.self in
    turns_end c.args.turns c.loop-turn.streams x y
    (subst (λ (n : ℕ). TurnsSoFar n c.loop-turn.streams x y) all c.loop-turn.invariant)
