use Rattle.std.proofs.Common.{◌≡◌, ◌∙◌, ℕ, Option, Some, ap}
use Rattle.dns_name.specs.Labels.{lowered}
use Rattle.dns_message.specs.Values.{Question}
use Rattle.record_cache.specs.TrustRank.declared.slot.Slot.{Slot}
use Rattle.record_cache.specs.Values.{Held}
use Rattle.negative_cache.specs.Entries.{is_set}
use Rattle.negative_cache.specs.Stale.{is_within}
use Rattle.negative_cache.specs.BySlot.{alias_within, only, slots_of}
use Rattle.negative_cache.proofs.Ways.{past_rows, past_alias, past_miss}
use Rattle.negative_cache.proofs.stale.look_up.Goals as goal

abbrev slot_of : Question → Slot
slot_of q = record { key = lowered q.name; class = q.class; kind = Some q.kind }

-- the alias of a question's slot is the alias at the question's name
beside : (window moment : ℕ) (at : Slot → Option Held) (slot : Slot) (q : Question) (kind : ℕ) → slot ≡ slot_of q → kind ≡ q.kind
    → alias_within window moment at slot.key slot.class kind ≡ alias_within window moment at (lowered q.name) q.class q.kind
beside window moment at slot q kind same asked = λ i. alias_within window moment at ((same i).key) ((same i).class) (asked i)

pub returns-in-Some : goal.returns-in-Some
returns-in-Some g c =
    let set : c.set.new.self ≡ slot_of c.args.question.now = c.set.ensures ∙ (λ i. record { key = lowered (c.name.ensures.labels i); class = c.class.ensures i; kind = Some (c.kind-kind.ensures i) }) in
    let own = c.entry_within.ensures.found ∙ ap (λ slot. only (is_within c.args.window c.args.moment) (slots_of c.args.cache.now.entries slot)) set in
    past_rows c.args.cache.now c.args.moment c.args.question.now c.entry_within.ensures.held c.args.window c.in-Some.held.now (c.in-Some.ensures ∙ ap (only is_set) own)

pub returns-in-Some-alias_within : goal.returns-in-Some-alias_within
returns-in-Some-alias_within g c =
    let set : c.set.new.self ≡ slot_of c.args.question.now = c.set.ensures ∙ (λ i. record { key = lowered (c.name.ensures.labels i); class = c.class.ensures i; kind = Some (c.kind-kind.ensures i) }) in
    let own = c.entry_within.ensures.found ∙ ap (λ slot. only (is_within c.args.window c.args.moment) (slots_of c.args.cache.now.entries slot)) set in
    past_alias c.args.cache.now c.args.moment c.args.question.now c.entry_within.ensures.held c.args.window c.in-Some-alias_within.held.now (c.in_default.ensures ∙ ap (only is_set) own)
    (c.in-Some-alias_within.ensures ∙ beside c.args.window c.args.moment (slots_of c.args.cache.now.entries) _ c.args.question.now _ (c.entry_within.ensures.same ∙ set) c.kind-kind.ensures)

pub returns-in-None : goal.returns-in-None
returns-in-None g c =
    let set : c.set.new.self ≡ slot_of c.args.question.now = c.set.ensures ∙ (λ i. record { key = lowered (c.name.ensures.labels i); class = c.class.ensures i; kind = Some (c.kind-kind.ensures i) }) in
    let own = c.entry_within.ensures.found ∙ ap (λ slot. only (is_within c.args.window c.args.moment) (slots_of c.args.cache.now.entries slot)) set in
    past_miss c.args.cache.now c.args.moment c.args.question.now c.entry_within.ensures.held c.args.window (c.in_default.ensures ∙ ap (only is_set) own)
    (c.in-None.ensures ∙ beside c.args.window c.args.moment (slots_of c.args.cache.now.entries) _ c.args.question.now _ (c.entry_within.ensures.same ∙ set) c.kind-kind.ensures)
