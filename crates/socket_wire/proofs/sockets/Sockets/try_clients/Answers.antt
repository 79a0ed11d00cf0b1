use Rattle.std.proofs.Common.{◌≡◌, rules, subst, true, false, arith}
use Rattle.socket_wire.specs.Trying.{TriesClient}
use Rattle.socket_wire.proofs.Tries.{TriesAll, tries_begun, tries_end, tries_more, tries_over}
use Rattle.socket_wire.proofs.sockets.Sockets.try_clients.Goals as goal

pub loop-tried-init : goal.loop-tried-init
loop-tried-init g c = tries_begun TriesClient 20 c.args.self.now

pub loop-tried-preserved : goal.loop-tried-preserved
loop-tried-preserved g c =
    let found : c.try_client.result ≡ true = search rules in
    tries_more TriesClient 20 c.loop-tried._tried c.args.self.now c.loop-tried.self
    c.try_client.new.self
    (omega arith) c.loop-tried.invariant
    (subst (λ tried. TriesClient tried c.loop-tried.self c.try_client.new.self) found
    c.try_client.ensures)

pub returns-then-not-try_client : goal.returns-then-not-try_client
returns-then-not-try_client g c =
    let none : c.try_client.result ≡ false = search rules in
    tries_end TriesClient 20 c.loop-tried._tried c.args.self.now c.loop-tried.self
    c.try_client.new.self
    (omega arith) c.loop-tried.invariant
    (subst (λ tried. TriesClient tried c.loop-tried.self c.try_client.new.self) none
    c.try_client.ensures)

pub returns : goal.returns
returns g c =
    let all : c.loop-tried._tried ≡ 20 = omega arith in
    tries_over TriesClient 20 c.args.self.now c.loop-tried.self
    (subst (λ n. TriesAll TriesClient 20 n c.args.self.now c.loop-tried.self) all
    c.loop-tried.invariant)
