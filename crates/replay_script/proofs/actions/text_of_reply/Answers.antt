use Rattle.replay_script.proofs.actions.text_of_reply.Goals as goal

pub returns-in-Udp : goal.returns-in-Udp
returns-in-Udp g c = rw (c.in-Udp.is) (rw (c.in_ok-octets.ensures, c.number_of-why.ensures) at c.format.ensures.ok)

pub returns : goal.returns
returns g c = rw (c.in-Tcp.is) (rw (c.in_ok-octets.ensures, c.number_of-why.ensures) at c.format-in-Tcp.ensures.ok)
