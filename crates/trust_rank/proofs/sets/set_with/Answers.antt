use Rattle.std.proofs.Common.{ap, ◌∙◌}
use Rattle.dns_message.specs.Values.{Record}
use Rattle.trust_rank.proofs.PieceLaws.{gathered_is_piece, gathered_is_set}
use Rattle.trust_rank.proofs.sets.set_with.Goals as goal

pub invariant_of-result : goal.invariant_of-result
invariant_of-result g c =
    gathered_is_piece c.args.source.rank c.args.source.route c.args.first.now c.args.key.now c.args.others.now c.first.inside.class c.first.inside.kind c.in_ok-owner.owner c.in_ok-rows.rows c.in_ok-rows.lifetime
    (ap (λ (r : Record). r.kind) c.first.view_is) c.in_ok-rows.ensures.rows c.in_ok-rows.ensures.lifetime c.requires.shaped c.requires.others_shaped c.requires.kind

pub returns : goal.returns
returns g c =
    gathered_is_set c.args.source.rank c.args.source.route c.args.first.now c.args.key.now c.args.others.now c.first.inside.class c.first.inside.kind c.in_ok-owner.owner c.in_ok-rows.rows c.in_ok-rows.lifetime
    (ap (λ (r : Record). r.class) c.first.view_is) (ap (λ (r : Record). r.kind) c.first.view_is) (c.in_ok-owner.ensures.name ∙ ap (λ (r : Record). r.owner) c.first.view_is) c.in_ok-rows.ensures.rows c.in_ok-rows.ensures.lifetime
