-- If no name error has a name's size, and no alias its ending, none is found.
use Rattle.std.proofs.Common.{◌≡◌, ℕ, true, false, if◌then◌else◌, ◌==◌, List, length, Option, None, Some, refl, ap}
use Rattle.dns_name.specs.Labels.{octets_of}
use Rattle.record_cache.specs.TrustRank.declared.slot.Slot.{Slot}
use Rattle.record_cache.specs.Values.{Held}
use Rattle.record_cache.specs.Entries.{entry_of, ending, name_error_size, name_error_ending, alias_ending, has_name_error, may_deny, may_have_alias}
use Rattle.record_cache.specs.Ageing.{is_alive}
use Rattle.record_cache.proofs.CallerLemmas.{no_entry, none_at_ending}
use Rattle.negative_cache.specs.Entries.{is_set}
use Rattle.negative_cache.specs.BySlot.{slots_of, only, name_error_of, typed_entry, alias_at}
use Rattle.negative_cache.proofs.Denying.{error_slot}

pub no_error_entry : (class : ℕ) (key : List (List ℕ)) (entries : List Held) → has_name_error (length (octets_of key)) entries ≡ false → entry_of (error_slot class key) entries ≡ None
no_error_entry class key entries none = no_entry name_error_size (length (octets_of key)) (error_slot class key) entries refl none

pub no_name_error : (moment class : ℕ) (key : List (List ℕ)) (entries : List Held) → has_name_error (length (octets_of key)) entries ≡ false → name_error_of moment (slots_of entries) class key ≡ None
no_name_error moment class key entries none = ap (only (is_alive moment)) (no_error_entry class key entries none)

pub no_denial : (moment class : ℕ) (key : List (List ℕ)) (entries : List Held) → may_deny key entries ≡ false → name_error_of moment (slots_of entries) class key ≡ None
no_denial moment class key entries none =
    ap (only (is_alive moment)) (no_entry name_error_ending (ending key) (error_slot class key) entries refl (none_at_ending key entries none))

abbrev alias_slot : ℕ → List (List ℕ) → Slot
alias_slot class key = record { key = key; class = class; kind = Some 5 }

pub no_alias : (moment class kind : ℕ) (key : List (List ℕ)) (entries : List Held) → may_have_alias key entries ≡ false → alias_at moment (slots_of entries) key class kind ≡ None
no_alias moment class kind key entries none = (elim (kind == 5) as (λ b. (if b then None else only is_set (typed_entry moment (slots_of entries) key class 5)) ≡ None) [
  | true ↦ refl
  | false ↦ ap (λ (o : Option Held). only is_set (only (is_alive moment) o)) (no_entry alias_ending (ending key) (alias_slot class key) entries refl none)
])
