use Rattle.std.proofs.Common.{◌≡◌, ◌∙◌, ℕ, Option, Some, ap, rules}
use Rattle.dns_name.specs.Labels.{lowered}
use Rattle.dns_message.specs.Values.{Question}
use Rattle.record_cache.specs.TrustRank.declared.slot.Slot.{Slot}
use Rattle.record_cache.specs.Values.{Held}
use Rattle.record_cache.specs.Entries.{ending}
use Rattle.negative_cache.specs.Entries.{is_set, is_no_data}
use Rattle.negative_cache.specs.BySlot.{alias_at, living_entry, only, slots_of}
use Rattle.negative_cache.proofs.Ways.{at_rows, at_alias, at_no_data, at_denied, at_miss}
use Rattle.negative_cache.proofs.cache_at.CacheAt.find.Goals as goal

abbrev slot_of : Question → Slot
slot_of q = record { key = lowered q.name; class = q.class; kind = Some q.kind }

-- the alias of a question's slot is the alias at the question's name
beside : (moment : ℕ) (at : Slot → Option Held) (slot : Slot) (q : Question) (kind : ℕ) → slot ≡ slot_of q → kind ≡ q.kind
    → alias_at moment at slot.key slot.class kind ≡ alias_at moment at (lowered q.name) q.class q.kind
beside moment at slot q kind same asked = λ i. alias_at moment at ((same i).key) ((same i).class) (asked i)

pub returns-in-Some-clause-found : goal.returns-in-Some-clause-found
returns-in-Some-clause-found g c =
    let at = c.args.self.now in
    let set : c.set.new.self ≡ slot_of c.args.question.now = c.set.ensures ∙ (λ i. record { key = lowered (c.name.ensures.labels i); class = c.class.ensures i; kind = Some (c.kind-kind.ensures i) }) in
    let own = c.living_entry-own.ensures.found ∙ ap (living_entry at.moment (slots_of at.cache.entries)) set in
    at_rows at c.args.question.now c.living_entry-own.ensures.held c.in-Some.held.now (c.in-Some.ensures ∙ ap (only is_set) own)

pub returns-in-Some-alias_beside-clause-found : goal.returns-in-Some-alias_beside-clause-found
returns-in-Some-alias_beside-clause-found g c =
    let at = c.args.self.now in
    let set : c.set.new.self ≡ slot_of c.args.question.now = c.set.ensures ∙ (λ i. record { key = lowered (c.name.ensures.labels i); class = c.class.ensures i; kind = Some (c.kind-kind.ensures i) }) in
    let own = c.living_entry-own.ensures.found ∙ ap (living_entry at.moment (slots_of at.cache.entries)) set in
    at_alias at c.args.question.now c.living_entry-own.ensures.held c.in-Some-alias_beside.held.now (c.in_default.ensures ∙ ap (only is_set) own) (c.in-Some-alias_beside.ensures.alias ∙ beside at.moment (slots_of at.cache.entries) _ c.args.question.now _ (c.living_entry-own.ensures.same ∙ set) c.kind-kind.ensures)

pub returns-in-Some-no_data_in-clause-found : goal.returns-in-Some-no_data_in-clause-found
returns-in-Some-no_data_in-clause-found g c =
    let at = c.args.self.now in
    let set : c.set.new.self ≡ slot_of c.args.question.now = c.set.ensures ∙ (λ i. record { key = lowered (c.name.ensures.labels i); class = c.class.ensures i; kind = Some (c.kind-kind.ensures i) }) in
    let own = c.living_entry-own.ensures.found ∙ ap (living_entry at.moment (slots_of at.cache.entries)) set in
    at_no_data at c.args.question.now c.living_entry-own.ensures.held c.in-Some-no_data_in.held.now (c.in_default.ensures ∙ ap (only is_set) own) (c.in_default-alias_beside.ensures.alias ∙ beside at.moment (slots_of at.cache.entries) _ c.args.question.now _ (c.living_entry-own.ensures.same ∙ set) c.kind-kind.ensures)
    (c.in-Some-no_data_in.ensures ∙ ap (only is_no_data) own)

pub returns-in-Some-no_data_in-clause-slot : goal.returns-in-Some-no_data_in-clause-slot
returns-in-Some-no_data_in-clause-slot g c = search rules

pub nearest_name_error-requires : goal.nearest_name_error-requires
nearest_name_error-requires g c =
    c.key_ending-end.ensures.ending
    ∙ ap ending (c.key.ensures ∙ ap (λ (slot : Slot). slot.key) (c.living_entry-own.ensures.same ∙ c.set.ensures) ∙ ap lowered c.name.ensures.labels)

pub returns-in-Some-nearest_name_error-clause-found : goal.returns-in-Some-nearest_name_error-clause-found
returns-in-Some-nearest_name_error-clause-found g c =
    let at = c.args.self.now in
    let set : c.set.new.self ≡ slot_of c.args.question.now = c.set.ensures ∙ (λ i. record { key = lowered (c.name.ensures.labels i); class = c.class.ensures i; kind = Some (c.kind-kind.ensures i) }) in
    let own = c.living_entry-own.ensures.found ∙ ap (living_entry at.moment (slots_of at.cache.entries)) set in
    at_denied at c.args.question.now c.living_entry-own.ensures.held c.in-Some-nearest_name_error.held.now (c.in_default.ensures ∙ ap (only is_set) own) (c.in_default-alias_beside.ensures.alias ∙ beside at.moment (slots_of at.cache.entries) _ c.args.question.now _ (c.living_entry-own.ensures.same ∙ set) c.kind-kind.ensures)
    (c.in_default-no_data_in.ensures ∙ ap (only is_no_data) own) c.in-Some-nearest_name_error.ensures.found

pub returns-in-None-clause-found : goal.returns-in-None-clause-found
returns-in-None-clause-found g c =
    let at = c.args.self.now in
    let set : c.set.new.self ≡ slot_of c.args.question.now = c.set.ensures ∙ (λ i. record { key = lowered (c.name.ensures.labels i); class = c.class.ensures i; kind = Some (c.kind-kind.ensures i) }) in
    let own = c.living_entry-own.ensures.found ∙ ap (living_entry at.moment (slots_of at.cache.entries)) set in
    at_miss at c.args.question.now c.living_entry-own.ensures.held (c.in_default.ensures ∙ ap (only is_set) own) (c.in_default-alias_beside.ensures.alias ∙ beside at.moment (slots_of at.cache.entries) _ c.args.question.now _ (c.living_entry-own.ensures.same ∙ set) c.kind-kind.ensures)
    (c.in_default-no_data_in.ensures ∙ ap (only is_no_data) own) c.in-None.ensures.found
