use Rattle.replay_script.proofs.actions.text_of.Goals as goal

pub returns-in_ok-octets-in-AskUdp : goal.returns-in_ok-octets-in-AskUdp
returns-in_ok-octets-in-AskUdp g c =
    rw (c.in-AskUdp.is) (rw (c.in_ok-octets-in-AskUdp.ensures, c.as_slice.ensures) at c.format.ensures.ok)

pub returns-in_ok-octets-in-AskTcp : goal.returns-in_ok-octets-in-AskTcp
returns-in_ok-octets-in-AskTcp g c =
    rw (c.in-AskTcp.is) (rw (c.in_ok-octets-in-AskTcp.ensures, c.as_slice-in-AskTcp.ensures) at c.format-in-AskTcp.ensures.ok)
