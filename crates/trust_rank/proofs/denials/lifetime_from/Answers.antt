use Rattle.std.proofs.Common.{ℕ, ◌≤◌, List, length, sym, ap, ◌∙◌, subst, rules}
use Rattle.dns_message.specs.Values.{Record}
use Rattle.trust_rank.proofs.PieceLaws.{soa_has_minimum}
use Rattle.trust_rank.proofs.denials.lifetime_from.Goals as goal

pub minimum_from-requires : goal.minimum_from-requires
minimum_from-requires g c =
    subst (λ (xs : List ℕ). 4 ≤ length xs) (sym (c.octets.ensures ∙ ap (λ (r : Record). r.rdata) c.soa.view_is))
    (soa_has_minimum c.args.soa.now c.requires)

pub returns : goal.returns
returns g c = search rules
