use Rattle.std.proofs.Common.{ℕ, ◌+◌, ◌*◌, ◌%◌, ◌^◌, refl, sym, ◌∙◌, ap₂}
use Rattle.std.proofs.Math.Nat.{mod-add-mod}
use Rattle.std.proofs.lemmas.List.Sums.{fold_more}
use Rattle.outstanding.specs.Orders.{octets_number}
use Rattle.outstanding.proofs.keyed.number_of.Goals as goal

pub loop-octet-init : goal.loop-octet-init
unfolding octets_number
loop-octet-init c = refl

pub loop-octet-preserved : goal.loop-octet-preserved
unfolding octets_number
loop-octet-preserved c =
    let step : ℕ → ℕ → ℕ = λ number octet. (number * 16777619 + octet) % 2 ^ 32 in
    mod-add-mod (c.loop-octet.number * 16777619) (2 ^ 32) c.from.result
    ∙ ap₂ step c.loop-octet.invariant c.from.ensures
    ∙ sym (fold_more step 0 c.args.octets.now c.loop-octet.octet-index 0 c.loop-octet-test.true)
