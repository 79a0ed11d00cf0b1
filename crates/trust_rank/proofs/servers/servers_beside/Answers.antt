use Rattle.std.proofs.Common.{◌++◌, ◌∙◌, List, ap, sym, subst}
use Rattle.dns_message.specs.Messages.{AreShaped}
use Rattle.trust_rank.specs.Values.{Piece}
use Rattle.trust_rank.specs.Walks.{begins_set, servers_from}
use Rattle.trust_rank.proofs.ServerLaws.{go_further, none_put, one_put, all_put}
use Rattle.trust_rank.proofs.servers.servers_beside.Goals as goal

pub loop-first-preserved-in_ok-push : goal.loop-first-preserved-in_ok-push
loop-first-preserved-in_ok-push g c =
    let now = c.loop-first.invariant in
    record {
      shaped = (subst AreShaped c.in-Some.ensures.cases.0 now.shaped).1;
      left = go_further c.args.reply.now c.args.pieces.now c.loop-first.sets c.push.new.self (servers_from c.args.reply.now c.args.pieces.now c.args.reply.now.authority) c.loop-first.rest.now c.in-Some.others.now c.in-Some.first.now now.left c.in-Some.ensures.cases.0
          (c.in_ok-push.ensures.ok ∙ one_put c.args.reply.now (c.args.pieces.now ++ c.loop-first.sets) c.loop-first.sets c.in-Some.first.now c.in-Some.others.now _ (ap (λ (ps : List Piece). begins_set c.args.reply.now (c.args.pieces.now ++ ps) c.in-Some.first.now) (sym c.as_slice.ensures) ∙ sym c.begins_set.ensures ∙ c.if-begins_set.true) c.in_ok-servers_with.ensures);
    }

pub loop-first-preserved : goal.loop-first-preserved
loop-first-preserved g c =
    let now = c.loop-first.invariant in
    record {
      shaped = (subst AreShaped c.in-Some.ensures.cases.0 now.shaped).1;
      left = go_further c.args.reply.now c.args.pieces.now c.loop-first.sets c.loop-first.sets (servers_from c.args.reply.now c.args.pieces.now c.args.reply.now.authority) c.loop-first.rest.now c.in-Some.others.now c.in-Some.first.now now.left c.in-Some.ensures.cases.0
          (none_put c.args.reply.now (c.args.pieces.now ++ c.loop-first.sets) c.loop-first.sets c.in-Some.first.now c.in-Some.others.now (ap (λ (ps : List Piece). begins_set c.args.reply.now (c.args.pieces.now ++ ps) c.in-Some.first.now) (sym c.as_slice.ensures) ∙ sym c.begins_set.ensures ∙ c.if-begins_set.false));
    }

pub returns : goal.returns
returns g c =
    all_put c.args.reply.now c.args.pieces.now c.loop-first.sets (servers_from c.args.reply.now c.args.pieces.now c.args.reply.now.authority) c.loop-first.rest.now c.loop-first.invariant.left c.in_default.ensures.cases
