-- Slots of equal names.
use Rattle.std.proofs.Common.{◌≡◌, ℕ, List, true, sym, ap, ◌∙◌, Option}
use Rattle.dns_name.specs.Labels.{IsSame, lowered}
use Rattle.dns_name.proofs.CallerLemmas.{lowered_again}
use Rattle.trust_rank.specs.declared.slot.Slot.{Slot}
use Rattle.trust_rank.specs.Values.{Piece}
use Rattle.trust_rank.specs.Replacing.{same_slot}
use Rattle.step_history.specs.CacheLaws.Replacing.{AreOfOneSlot}
use Rattle.step_history.proofs.CacheLaws.CallerLemmas.{one_slot}
use Rattle.step_history.specs.Answers.{IsOf}

pub slot_turned : (a b : Slot) → same_slot a b ≡ true → AreOfOneSlot b a
slot_turned a b e =
    let one = one_slot a b e in
    record { name = sym one.name; class = sym one.class; kind = sym one.kind }

-- A piece carried for a name is in the slot of each equal name: a piece for the ask's spelling
-- serves the spelling of each client.
pub slot_carried_over : (p : Piece) (name other : List (List ℕ)) (class : ℕ) (kind : Option ℕ) → p.slot ≡ record { key = lowered name; class = class; kind = kind } → IsSame other name
    → IsOf p other class kind
slot_carried_over p name other class kind slot alike = record {
  name = ap (λ (s : Slot). lowered s.key) slot ∙ lowered_again name ∙ sym alike;
  class = ap (λ (s : Slot). s.class) slot;
  kind = ap (λ (s : Slot). s.kind) slot;
}
