use Rattle.std.proofs.Common.{◌≡◌}
use Rattle.ready_sockets.proofs.Turns.{FindsAll}
use Rattle.ready_sockets.proofs.readiness.Readiness.next.Given as goal

-- the turns that are left find what all of them find
abbrev pub invariant-loop-tried : goal.invariant-loop-tried
invariant-loop-tried g l =
    FindsAll l._tried l.fn.self.turn l.self.turn l.fn.self.ready l.self.ready
    × (l.self ≡ record l.fn.self { turn = l.self.turn; ready = l.self.ready })
