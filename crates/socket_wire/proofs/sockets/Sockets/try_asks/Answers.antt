use Rattle.std.proofs.Common.{◌≡◌, rules, subst, true, false, arith}
use Rattle.socket_wire.specs.Trying.{TriesAsk}
use Rattle.socket_wire.proofs.Tries.{TriesAll, tries_begun, tries_end, tries_more, tries_over}
use Rattle.socket_wire.proofs.sockets.Sockets.try_asks.Goals as goal

pub loop-tried-init : goal.loop-tried-init
loop-tried-init g c = tries_begun TriesAsk 20 c.args.self.now

pub loop-tried-preserved : goal.loop-tried-preserved
loop-tried-preserved g c =
    let found : c.try_ask.result ≡ true = search rules in
    tries_more TriesAsk 20 c.loop-tried._tried c.args.self.now c.loop-tried.self c.try_ask.new.self
    (omega arith) c.loop-tried.invariant
    (subst (λ tried. TriesAsk tried c.loop-tried.self c.try_ask.new.self) found c.try_ask.ensures)

pub returns-then-not-try_ask : goal.returns-then-not-try_ask
returns-then-not-try_ask g c =
    let none : c.try_ask.result ≡ false = search rules in
    tries_end TriesAsk 20 c.loop-tried._tried c.args.self.now c.loop-tried.self c.try_ask.new.self
    (omega arith) c.loop-tried.invariant
    (subst (λ tried. TriesAsk tried c.loop-tried.self c.try_ask.new.self) none c.try_ask.ensures)

pub returns : goal.returns
returns g c =
    let all : c.loop-tried._tried ≡ 20 = omega arith in
    tries_over TriesAsk 20 c.args.self.now c.loop-tried.self
    (subst (λ n. TriesAll TriesAsk 20 n c.args.self.now c.loop-tried.self) all
    c.loop-tried.invariant)
