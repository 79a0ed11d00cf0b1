use Rattle.socket_wire.proofs.Looks.{at_once}
use Rattle.socket_wire.proofs.sockets.Sockets.arrival.Goals as goal

pub returns-in-None-clause-turn : goal.returns-in-None-clause-turn
returns-in-None-clause-turn g c = λ none.
    at_once _ _ _ _ _ c.next_end.new.self c.self.view_is none c.next_end.ensures.rest
    c.take_turn.ensures
