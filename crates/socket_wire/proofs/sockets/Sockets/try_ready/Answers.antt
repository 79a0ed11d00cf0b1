use Rattle.std.proofs.Common.{◌≡◌, refl, rules, subst, Some, None, arith}
use Rattle.std.specs.Prelude.{Ok, Err}
use Rattle.wires.specs.declared.wire.Arrival.TheVariants as arrival
use Rattle.socket_wire.specs.declared.sockets.taking.Tried.TheVariants.{Arrived, Served, Nothing}
use Rattle.socket_wire.proofs.Attempts.{ReadyAll, drops_one, gives_next, ready_begun, ready_given}
use Rattle.socket_wire.proofs.Attempts.{ready_more}
use Rattle.socket_wire.proofs.Attempts.{ready_none, ready_over}
use Rattle.socket_wire.proofs.sockets.Sockets.try_ready.Goals as goal

pub loop-tried-init : goal.loop-tried-init
loop-tried-init g c = ready_begun 64 c.args.now c.args.self.now

pub returns-in_default : goal.returns-in_default
returns-in_default g c =
    let none : c.next.result ≡ None = search rules in
    let so_far = rw (← c.self.view_is) at c.loop-tried.invariant in
    ready_none 64 c.loop-tried._tried c.args.now c.args.self.now _ _ (omega arith) so_far
    (gives_next None _ c.next.new.self (rw none at c.next.ensures.finds) c.next.ensures.rest)

pub returns-in_err-arrival : goal.returns-in_err-arrival
returns-in_err-arrival g c =
    let came : c.attempt.result ≡ Err c.in_err-arrival.field-0.0 = search rules in
    let report : c.from_residual.result ≡ Err c.in_err-arrival.field-0.0 = search rules in
    let so_far = rw (← c.self.view_is) at c.loop-tried.invariant in
    ready_given 64 c.loop-tried._tried c.args.now c.in-Some.origin (Err c.in_err-arrival.field-0.0)
    c.from_residual.result c.args.self.now _ _ c.attempt.new.self c.attempt.new.self (omega arith)
    so_far
    (gives_next (Some c.in-Some.origin) _ c.next.new.self c.in-Some.ensures.finds
    c.in-Some.ensures.rest)
    (rw came at c.attempt.ensures) (report, refl)

pub returns-in-Arrived : goal.returns-in-Arrived
returns-in-Arrived g c =
    let came : c.attempt.result ≡ Ok (Arrived c.in-Arrived.arrival) = search rules in
    let so_far = rw (← c.self.view_is) at c.loop-tried.invariant in
    ready_given 64 c.loop-tried._tried c.args.now c.in-Some.origin
    (Ok (Arrived c.in-Arrived.arrival))
    (Ok (Some c.in-Arrived.arrival)) c.args.self.now _ _ c.attempt.new.self c.attempt.new.self
    (omega arith) so_far
    (gives_next (Some c.in-Some.origin) _ c.next.new.self c.in-Some.ensures.finds
    c.in-Some.ensures.rest)
    (rw came at c.attempt.ensures) (refl, refl)

pub returns-in-Served : goal.returns-in-Served
returns-in-Served g c =
    let came : c.attempt.result ≡ Ok Served = search rules in
    let so_far = rw (← c.self.view_is) at c.loop-tried.invariant in
    ready_given 64 c.loop-tried._tried c.args.now c.in-Some.origin (Ok Served)
    (Ok (Some arrival.Nothing))
    c.args.self.now _ _ c.attempt.new.self c.attempt.new.self (omega arith) so_far
    (gives_next (Some c.in-Some.origin) _ c.next.new.self c.in-Some.ensures.finds
    c.in-Some.ensures.rest)
    (rw came at c.attempt.ensures) (refl, refl)

pub loop-tried-preserved : goal.loop-tried-preserved
loop-tried-preserved g c =
    let came : c.attempt.result ≡ Ok Nothing = search rules in
    let so_far = rw (← c.self.view_is) at c.loop-tried.invariant in
    ready_more 64 c.loop-tried._tried c.args.now c.in-Some.origin c.args.self.now _ _ _ _
    (omega arith) so_far
    (gives_next (Some c.in-Some.origin) _ c.next.new.self c.in-Some.ensures.finds
    c.in-Some.ensures.rest)
    (rw (came, ← c.self-in-loop-tried.view_is) at c.attempt.ensures)
    (drops_one c.in-Some.origin _ c.remove.new.self c.remove.ensures.dropped
    c.remove.ensures.rest)

pub returns : goal.returns
returns g c =
    let all : c.loop-tried._tried ≡ 64 = omega arith in
    ready_over 64 c.args.now c.args.self.now c.loop-tried.self
    (subst (λ n. ReadyAll 64 n c.args.now c.args.self.now c.loop-tried.self) all
    c.loop-tried.invariant)
