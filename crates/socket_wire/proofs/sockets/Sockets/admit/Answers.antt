use Rattle.std.proofs.Common.{rules, inr}
use Rattle.socket_wire.proofs.sockets.Sockets.admit.Goals as goal

pub returns-in_err-stream-2 : goal.returns-in_err-stream-2
returns-in_err-stream-2 g c = rw (← c.self.view_is) (record {
  full = search rules;
  comes = inr (record {
    above = search rules;
    below = search rules;
    prepares = inr (c.set_no_delay-is_prompt.result, search rules);
    rest = search rules;
  });
  rest = search rules;
})

pub returns-in_err-admit : goal.returns-in_err-admit
returns-in_err-admit g c = rw (← c.self.view_is) (record {
  full = search rules;
  comes = inr (record {
    above = search rules;
    below = search rules;
    prepares = inr (c.set_no_delay-is_prompt.result, search rules);
    rest = search rules;
  });
  rest = search rules;
})
