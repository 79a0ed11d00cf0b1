use Rattle.std.proofs.Common.{rules, ◌≡◌, true, false, is_some, arith}
use Rattle.ready_sockets.proofs.Turns.{datagrams_are_found, found_later, found_now}
use Rattle.ready_sockets.proofs.readiness.Readiness.next.Goals as goal

pub returns-then-has_datagrams_alone-clause-finds :
    goal.returns-then-has_datagrams_alone-clause-finds
returns-then-has_datagrams_alone-clause-finds g c =
    rw (← c.self.view_is)
    (datagrams_are_found c.self.inside.ready (search rules) c.self.inside.turn)

pub returns-then-is_some-clause-finds : goal.returns-then-is_some-clause-finds
returns-then-is_some-clause-finds g c =
    let some : is_some c.next_on_turn-next.result ≡ true = search rules in
    found_now c.loop-tried._tried c.args.self.now.turn c.loop-tried.self.turn
    c.next_on_turn-next.new.self.turn
    c.next_on_turn-next.result c.args.self.now.ready c.loop-tried.self.ready
    c.next_on_turn-next.new.self.ready
    (omega arith) c.loop-tried.invariant.0 c.next_on_turn-next.ensures.turn
    c.next_on_turn-next.ensures.gives some

pub loop-tried-preserved : goal.loop-tried-preserved
loop-tried-preserved g c =
    let none : is_some c.next_on_turn-next.result ≡ false = search rules in (
      found_later c.loop-tried._tried c.args.self.now.turn c.loop-tried.self.turn
          c.next_on_turn-next.new.self.turn
          c.next_on_turn-next.result c.args.self.now.ready c.loop-tried.self.ready
          c.next_on_turn-next.new.self.ready
          (omega arith) c.loop-tried.invariant.0 c.next_on_turn-next.ensures.turn
          c.next_on_turn-next.ensures.gives none,
      search rules,
    )
