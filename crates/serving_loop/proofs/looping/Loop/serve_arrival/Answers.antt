use Rattle.serving_loop.proofs.Framing.{events_nothing, events_one}
use Rattle.serving_loop.proofs.looping.Loop.serve_arrival.Goals as goal

pub returns-in-Nothing-clause-serves : goal.returns-in-Nothing-clause-serves
returns-in-Nothing-clause-serves g c = rw c.in-Nothing.is (events_nothing _)

pub returns-in-ClientDatagram-clause-serves : goal.returns-in-ClientDatagram-clause-serves
returns-in-ClientDatagram-clause-serves g c = rw c.in-ClientDatagram.is (events_one _ _ _ _ c.hand_datagram.ensures)

pub returns-in-ClientClosed-clause-serves : goal.returns-in-ClientClosed-clause-serves
returns-in-ClientClosed-clause-serves g c = rw c.in-ClientClosed.is (events_nothing _)

pub returns-in-ServerDatagram-clause-serves : goal.returns-in-ServerDatagram-clause-serves
returns-in-ServerDatagram-clause-serves g c = rw c.in-ServerDatagram.is (events_one _ _ _ _ c.hand_datagram-in-ServerDatagram.ensures)

pub returns-in-PathGone-clause-serves : goal.returns-in-PathGone-clause-serves
returns-in-PathGone-clause-serves g c = rw c.in-PathGone.is (events_one _ _ _ _ c.hand_on.ensures)
