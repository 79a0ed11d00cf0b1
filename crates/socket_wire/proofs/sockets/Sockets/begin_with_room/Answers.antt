use Rattle.std.proofs.Common.{refl, true, false}
use Rattle.socket_wire.proofs.Rooms.{freed_by}
use Rattle.socket_wire.proofs.sockets.Sockets.begin_with_room.Goals as goal

pub returns-then-frees_for-clause-begins : goal.returns-then-frees_for-clause-begins
returns-then-frees_for-clause-begins g c = record {
  first = c.begin-begun.result;
  tried = c.begin-begun.new.self.calls;
  is_freed = true;
  freed = c.frees_for.new.self;
  begins = c.begin-begun.ensures.begins;
  frees = freed_by c.begin-begun.result c.args.now c.frees_for.result true c.args.self.now
      c.begin-begun.new.self c.frees_for.new.self c.begin-begun.ensures.rest c.if-frees_for.true
      c.frees_for.ensures.by;
  again = c.begin.ensures.begins;
  rest = c.begin.ensures.rest;
}

pub returns-clause-begins : goal.returns-clause-begins
returns-clause-begins g c = record {
  first = c.begin-begun.result;
  tried = c.begin-begun.new.self.calls;
  is_freed = false;
  freed = c.frees_for.new.self;
  begins = c.begin-begun.ensures.begins;
  frees = freed_by c.begin-begun.result c.args.now c.frees_for.result false c.args.self.now
      c.begin-begun.new.self c.frees_for.new.self c.begin-begun.ensures.rest c.if-frees_for.false
      c.frees_for.ensures.by;
  again = (refl, refl);
  rest = refl;
}
