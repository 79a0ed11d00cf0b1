use Rattle.std.proofs.Common.{◌≡◌, ◌+◌, ◌≤◌, ◌^◌, ◌++◌, false, length, rules}
use Rattle.std.specs.Prelude.{nat_lt}
use Rattle.tcp_frames.specs.Frames.{framed}
use Rattle.stream_connections.specs.Serving.{with_frame}
use Rattle.stream_connections.proofs.Replying.{answers_by, bounded}
use Rattle.stream_connections.proofs.client_stream.ClientStream.reply.Goals as goal

pub returns : goal.returns
returns g c =
    let is : c.list.new.self ≡ with_frame (framed c.args.reply.now) c.args.now c.args.self.now = search rules in
    let few : nat_lt (2 ^ 20) (length c.args.self.now.unsent.left + length c.args.reply.now + 2) ≡ false =
    search rules
    in
    let fewer : length c.send-sent.new.self.unsent.left
    ≤ length (c.args.self.now.unsent.left ++ framed c.args.reply.now) =
    rw is at c.send-sent.ensures.fewer
    in
    let bound : length c.send-sent.new.self.unsent.left ≤ 2 ^ 20 = bounded _ _ _ fewer few in
    record {
      answers = answers_by c.send-sent.result c.args.reply.now c.args.now c.goes_on_after.result
          c.args.calls.now c.send-sent.new.calls c.args.self.now c.list.new.self c.send-sent.new.self is
          c.send-sent.ensures.sends c.goes_on_after.ensures.ok c.goes_on_after.ensures.err bound;
      much = search rules;
    }
