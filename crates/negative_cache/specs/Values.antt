-- The outcome of a look-up in contracts.
use Rattle.std.specs.Prelude.{◌≡◌}
use Rattle.record_cache.specs.TrustRank.declared.slot.Slot.{Slot}
use Rattle.record_cache.specs.Values.{Held}
use Rattle.negative_cache.specs.declared.found.Found.{Found as OwnedFound}
use Rattle.negative_cache.specs.declared.found.Found.TheVariants as owned

-- a denial by the configuration, a set, an alias (RFC 1034 3.6.2), NODATA (RFC 2308 2.2), a name
-- error (RFC 2308 2.1, RFC 8020 2), or nothing alive
pub data Found : Type 0 where
  local : Found
  rows : Held → Found
  alias : Held → Found
  no_data : Held → Found
  denied : Held → Found
  miss : Found

-- the result of the code's look-up as a plain value
abbrev pub found_of : {A : Type 0} → OwnedFound A → Found
found_of owned.Local = local
found_of (owned.Rows held) = rows held.now
found_of (owned.Alias held) = alias held.now
found_of (owned.NoData held) = no_data held.now
found_of (owned.Denied held) = denied held.now
found_of owned.Miss = miss

-- the slot of the found entry; any slot after a miss
abbrev pub IsSlotOf : Slot → Found → Type 0
IsSlotOf slot local = Unit {0}
IsSlotOf slot (rows h) = slot ≡ h.piece.slot
IsSlotOf slot (alias h) = slot ≡ h.piece.slot
IsSlotOf slot (no_data h) = slot ≡ h.piece.slot
IsSlotOf slot (denied h) = slot ≡ h.piece.slot
IsSlotOf slot miss = Unit {0}
