use Rattle.std.proofs.Common.{rules, arith}
use Rattle.socket_wire.proofs.sockets.Sockets.look.Goals as goal
use Rattle.socket_wire.proofs.sockets.Sockets.look.Goals.{then-not-is_empty, else-not-is_empty}

pub returns-then-saturating_sub-ge-PAUSE : goal.returns-then-saturating_sub-ge-PAUSE
returns-then-saturating_sub-ge-PAUSE g c = rw (← c.self.view_is) (record {
  due = λ late. record {
    between = c.if-not-is_empty.self;
    events = elim c.if-not-is_empty.branch [
      | then-not-is_empty w ↦ record {
        some = λ some. search rules;
        none = λ none. search rules;
      }
      | else-not-is_empty w ↦ record {
        some = λ some. absurd (some (search rules));
        none = λ none. w.self-is;
      }
    ];
    others = c.try_others.ensures;
  };
  none = λ early. absurd (omega arith);
  goes_on = λ early. absurd (omega arith);
})
