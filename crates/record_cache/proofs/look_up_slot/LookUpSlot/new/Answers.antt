use Rattle.std.proofs.Common.{List, ℕ, None, ap, ◌∙◌}
use Rattle.dns_name.specs.Labels.{lowered}
use Rattle.dns_name.proofs.CallerLemmas.{labels_of_nothing}
use Rattle.trust_rank.specs.declared.slot.Slot.{Slot}
use Rattle.record_cache.proofs.look_up_slot.LookUpSlot.new.Goals as goal

pub returns : goal.returns
returns c =
    let slot : List (List ℕ) → Slot = λ key. record { class = 0; kind = None; key = key } in
    ap slot (c.from_octets.ensures ∙ ap lowered labels_of_nothing)
