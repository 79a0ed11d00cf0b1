use Rattle.std.proofs.Common.{sym, ap, ◌∙◌, arith}
use Rattle.std.proofs.lemmas.Bool.Decides.{Decides-eqb}
use Rattle.std.proofs.lemmas.Slice.Eq.{slice_eq-Decides}
use Rattle.dns_name.specs.Key.{padded}
use Rattle.dns_name.proofs.KeyOf.{padded_same}
use Rattle.dns_name.proofs.key.is_same_in_lower_case.Goals as goal

pub returns-then-a-b : goal.returns-then-a-b
returns-then-a-b c =
    let equal = slice_eq-Decides Decides-eqb _ _ c.eq.result c.eq.ensures in (
      λ yes. padded_same c.args.a.now c.args.b.now (omega arith) (sym c.lower_with_zeros.ensures ∙ equal.0 yes ∙ c.lower_with_zeros-then-a-b.ensures),
      λ same. equal.1 (c.lower_with_zeros.ensures ∙ ap padded same ∙ sym c.lower_with_zeros-then-a-b.ensures),
    )
