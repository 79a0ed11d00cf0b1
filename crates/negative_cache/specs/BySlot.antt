-- Look-ups in the code's order: slot by slot, from a name upwards. Names are keys here: in lower
-- case.
use Rattle.std.specs.Prelude.{ℕ, Bool, nat_eq, if◌then◌else◌, ◌==◌, List, [], ◌∷◌, Option, Some, None}
use Rattle.std.specs.Option.{option_eq, option_or}
use Rattle.suffix_routes.specs.Values.{Route}
use Rattle.suffix_routes.specs.Routes.{route_of}
use Rattle.record_cache.specs.TrustRank.declared.slot.Slot.{Slot}
use Rattle.record_cache.specs.Values.{Held}
use Rattle.record_cache.specs.Ageing.{is_alive}
use Rattle.record_cache.specs.Entries.{entry_of}
use Rattle.negative_cache.specs.Values.{Found, rows, alias, no_data, denied, miss}
use Rattle.negative_cache.specs.Entries.{is_set, is_no_data}
use Rattle.negative_cache.specs.Finding.{found_or}
use Rattle.negative_cache.specs.Stale.{is_within}

-- the entries as a function of the slot
abbrev pub Slots : Type 0
Slots = Slot → Option Held

-- the entries, found by their slots
abbrev pub slots_of : List Held → Slots
slots_of entries slot = entry_of slot entries

-- the entry, if it passes the test
abbrev pub only : (Held → Bool) → Option Held → Option Held
only test None = None
only test (Some h) = if test h then Some h else None

-- the entry of a slot, if alive
abbrev pub living_entry : ℕ → Slots → Slot → Option Held
living_entry moment slots slot = only (is_alive moment) (slots slot)

-- the entry of a name, class and type, if alive
abbrev pub typed_entry : ℕ → Slots → List (List ℕ) → ℕ → ℕ → Option Held
typed_entry moment slots key class kind =
    living_entry moment slots (record { key = key; class = class; kind = Some kind })

-- the alias at a name
abbrev pub alias_at : ℕ → Slots → List (List ℕ) → ℕ → ℕ → Option Held
alias_at moment slots key class kind = if kind == 5 then None else only is_set (typed_entry moment slots key class 5)

-- the name error of exactly this name, if alive
abbrev pub name_error_of : ℕ → Slots → ℕ → List (List ℕ) → Option Held
name_error_of moment slots class key = living_entry moment slots (record { key = key; class = class; kind = None })

-- the name of an entry has this route
abbrev pub is_on : List Route → Option ℕ → Held → Bool
is_on routes route h = option_eq nat_eq (route_of routes h.piece.slot.key) route

-- this name error, if its name has the route
abbrev pub name_error_on : List Route → Option ℕ → ℕ → Slots → ℕ → List (List ℕ) → Option Held
name_error_on routes route moment slots class key = only (is_on routes route) (name_error_of moment slots class key)

-- the entry of the first name with an entry, from a name upwards
abbrev pub climbed : (List (List ℕ) → Option Held) → List (List ℕ) → Option Held
climbed there [] = there []
climbed there (label ∷ key) = option_or (there (label ∷ key)) (climbed there key)

-- the entry of the first name with an entry, from the name above upwards
abbrev pub above : (List (List ℕ) → Option Held) → List (List ℕ) → Option Held
above there [] = None
above there (label ∷ key) = climbed there key

-- the nearest name error for a name
abbrev pub nearest_error : List Route → ℕ → Slots → ℕ → List (List ℕ) → Option Held
nearest_error routes moment slots class key =
    climbed (name_error_on routes (route_of routes key) moment slots class) key

-- the outcome of a look-up
abbrev pub found_by_slot : List Route → ℕ → Slots → List (List ℕ) → ℕ → ℕ → Found
found_by_slot routes moment slots key class kind =
    found_or rows (only is_set (typed_entry moment slots key class kind))
    (found_or alias (alias_at moment slots key class kind)
    (found_or no_data (only is_no_data (typed_entry moment slots key class kind))
    (found_or denied (nearest_error routes moment slots class key) miss)))

-- the entry of a name, class and type, if within the window
abbrev pub entry_within : ℕ → ℕ → Slots → List (List ℕ) → ℕ → ℕ → Option Held
entry_within window moment slots key class kind =
    only (is_within window moment) (slots (record { key = key; class = class; kind = Some kind }))

-- the alias at a name within the window
abbrev pub alias_within : ℕ → ℕ → Slots → List (List ℕ) → ℕ → ℕ → Option Held
alias_within window moment slots key class kind =
    if kind == 5 then None else only is_set (entry_within window moment slots key class 5)

-- the outcome of a look-up of stale entries
abbrev pub stale_by_slot : ℕ → ℕ → Slots → List (List ℕ) → ℕ → ℕ → Found
stale_by_slot window moment slots key class kind =
    found_or rows (only is_set (entry_within window moment slots key class kind))
    (found_or alias (alias_within window moment slots key class kind) miss)
