use Rattle.trust_rank.proofs.PieceLaws.{copy_is_soa, found_is_soa}
use Rattle.trust_rank.proofs.denials.soa_for.Goals as goal

pub returns-in_ok-boxed_copy-in-Some-clause-soa : goal.returns-in_ok-boxed_copy-in-Some-clause-soa
returns-in_ok-boxed_copy-in-Some-clause-soa g c =
    copy_is_soa c.in-Some.soa.now c.in_ok-boxed_copy-in-Some.field-0.value (found_is_soa c.args.name.now c.args.class c.args.authority.now c.in-Some.soa.now c.requires c.in-Some.ensures) c.in_ok-boxed_copy-in-Some.ensures
