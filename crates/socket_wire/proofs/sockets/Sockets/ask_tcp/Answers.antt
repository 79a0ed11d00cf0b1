use Rattle.std.proofs.Common.{◌≡◌, rules, refl, is_ok, inr, false}
use Rattle.std.specs.Prelude.{Ok, Err}
use Rattle.socket_wire.proofs.Rooms.{begun_in_room}
use Rattle.socket_wire.proofs.sockets.Sockets.ask_tcp.Goals as goal

pub returns-in_err-stream : goal.returns-in_err-stream
returns-in_err-stream g c =
    let begun : c.begin_with_room.result ≡ Err c.in_err-stream.field-0.0 = search rules in
    let refused : is_ok c.from_residual-in_err-stream.result ≡ false = search rules in
    inr (record {
      begun = Err c.in_err-stream.field-0.0;
      between = c.begin_with_room.new.self;
      begins = begun_in_room c.args.conn c.args.server c.args.query.now c.args.now
          c.begin_with_room.result _ _ _ _ c.keep_room.new.self begun c.self.view_is
          c.keep_room.ensures.rest c.in_ok-keep_room.ensures.ok c.begin_with_room.ensures.begins;
      lists = (refused, refl);
    })

pub returns-in_err-list_server : goal.returns-in_err-list_server
returns-in_err-list_server g c =
    let begun : c.begin_with_room.result ≡ Ok c.in_ok-stream.stream = search rules in
    let refused : is_ok c.from_residual-in_err-list_server.result ≡ false = search rules in
    inr (record {
      begun = Ok c.in_ok-stream.stream;
      between = c.begin_with_room.new.self;
      begins = begun_in_room c.args.conn c.args.server c.args.query.now c.args.now
          c.begin_with_room.result _ _ _ _ c.keep_room.new.self begun c.self.view_is
          c.keep_room.ensures.rest c.in_ok-keep_room.ensures.ok c.begin_with_room.ensures.begins;
      lists = rw (refused, ← c.self-2.view_is) (search rules);
    })

pub returns : goal.returns
returns g c =
    let begun : c.begin_with_room.result ≡ Ok c.in_ok-stream.stream = search rules in
    inr (record {
      begun = Ok c.in_ok-stream.stream;
      between = c.begin_with_room.new.self;
      begins = begun_in_room c.args.conn c.args.server c.args.query.now c.args.now
          c.begin_with_room.result _ _ _ _ c.keep_room.new.self begun c.self.view_is
          c.keep_room.ensures.rest c.in_ok-keep_room.ensures.ok c.begin_with_room.ensures.begins;
      lists = rw (← c.self-2.view_is) (search rules);
    })
