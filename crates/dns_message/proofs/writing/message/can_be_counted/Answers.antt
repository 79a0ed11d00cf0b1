use Rattle.std.proofs.Common.{◌∙◌, ap, ℕ, max, length}
use Rattle.dns_message.proofs.writing.WriterMessages.{most_counted}
use Rattle.dns_message.proofs.writing.message.can_be_counted.Goals as goal

pub returns : goal.returns
returns g c =
    rw (← c.message.view_is)
    (most_counted _ _ _ _ _ c.max-2.result (ap length c.as_slice.ensures) (ap length c.as_slice-2.ensures) (ap length c.as_slice-3.ensures) (ap length c.as_slice-4.ensures)
    (c.max-2.ensures ∙ ap (max (length c.as_slice-4.result.now)) (c.max-records.ensures ∙ ap (λ (k : ℕ). max k (length c.as_slice-3.result.now)) c.max.ensures)))
