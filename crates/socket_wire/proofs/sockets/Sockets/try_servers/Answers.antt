use Rattle.std.proofs.Common.{◌≡◌, rules, subst, true, false, arith}
use Rattle.socket_wire.specs.Trying.{TriesServer}
use Rattle.socket_wire.proofs.Tries.{TriesAll, tries_begun, tries_end, tries_more, tries_over}
use Rattle.socket_wire.proofs.sockets.Sockets.try_servers.Goals as goal

pub loop-tried-init : goal.loop-tried-init
loop-tried-init g c = tries_begun TriesServer 20 c.args.self.now

pub loop-tried-preserved : goal.loop-tried-preserved
loop-tried-preserved g c =
    let found : c.try_server.result ≡ true = search rules in
    tries_more TriesServer 20 c.loop-tried._tried c.args.self.now c.loop-tried.self
    c.try_server.new.self
    (omega arith) c.loop-tried.invariant
    (subst (λ tried. TriesServer tried c.loop-tried.self c.try_server.new.self) found
    c.try_server.ensures)

pub returns-then-not-try_server : goal.returns-then-not-try_server
returns-then-not-try_server g c =
    let none : c.try_server.result ≡ false = search rules in
    tries_end TriesServer 20 c.loop-tried._tried c.args.self.now c.loop-tried.self
    c.try_server.new.self
    (omega arith) c.loop-tried.invariant
    (subst (λ tried. TriesServer tried c.loop-tried.self c.try_server.new.self) none
    c.try_server.ensures)

pub returns : goal.returns
returns g c =
    let all : c.loop-tried._tried ≡ 20 = omega arith in
    tries_over TriesServer 20 c.args.self.now c.loop-tried.self
    (subst (λ n. TriesAll TriesServer 20 n c.args.self.now c.loop-tried.self) all
    c.loop-tried.invariant)
