use Rattle.std.proofs.Common.{refl, true, false}
use Rattle.socket_wire.proofs.Rooms.{freed_by}
use Rattle.socket_wire.proofs.sockets.Sockets.open_with_room.Goals as goal

pub returns-then-frees_for : goal.returns-then-frees_for
returns-then-frees_for g c = record {
  first = c.open-opened.result;
  tried = c.open-opened.new.self.calls;
  is_freed = true;
  freed = c.frees_for.new.self;
  opens = c.open-opened.ensures.opens;
  frees = freed_by c.open-opened.result c.args.now c.frees_for.result true c.args.self.now
      c.open-opened.new.self c.frees_for.new.self c.open-opened.ensures.rest c.if-frees_for.true
      c.frees_for.ensures.by;
  again = c.open.ensures.opens;
  rest = c.open.ensures.rest;
}

pub returns : goal.returns
returns g c = record {
  first = c.open-opened.result;
  tried = c.open-opened.new.self.calls;
  is_freed = false;
  freed = c.frees_for.new.self;
  opens = c.open-opened.ensures.opens;
  frees = freed_by c.open-opened.result c.args.now c.frees_for.result false c.args.self.now
      c.open-opened.new.self c.frees_for.new.self c.open-opened.ensures.rest c.if-frees_for.false
      c.frees_for.ensures.by;
  again = (refl, refl);
  rest = refl;
}
