use Rattle.socket_wire.proofs.Looks.{at_moment}
use Rattle.socket_wire.proofs.noted.Noted.arrival.Goals as goal

pub returns-in-Ok-Nothing-clause-turn : goal.returns-in-Ok-Nothing-clause-turn
returns-in-Ok-Nothing-clause-turn g c = at_moment _ _ _ _ _ _ _ _ c.moment-now.ensures.report
    (rw c.read_again.ensures at c.moment-now.ensures.reads) c.moment-now.ensures.rest
    c.arrival-came.ensures.end c.arrival-came.ensures.turn

pub returns-in_default-clause-turn : goal.returns-in_default-clause-turn
returns-in_default-clause-turn g c = at_moment _ _ _ _ _ _ _ _ c.moment-now.ensures.report
    (rw c.read_again.ensures at c.moment-now.ensures.reads) c.moment-now.ensures.rest
    c.arrival-came.ensures.end c.arrival-came.ensures.turn
