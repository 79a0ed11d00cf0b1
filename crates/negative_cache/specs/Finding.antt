-- Look-ups among the entries: RFC 1034 3.6.2, RFC 2308 2, RFC 8020 2. No two entries have equal
-- slots.
use Rattle.std.specs.Prelude.{ℕ, Bool, nat_eq, nat_lt, if◌then◌else◌, ◌==◌, ◌&&◌, List, [], ◌∷◌, length, filter, Option}
use Rattle.std.specs.Prelude.{Some, None}
use Rattle.std.specs.List.{find}
use Rattle.std.specs.Option.{option_eq}
use Rattle.dns_message.specs.Values.{Question}
use Rattle.suffix_routes.specs.Values.{Route}
use Rattle.suffix_routes.specs.Routes.{route_of, is_denied}
use Rattle.record_cache.specs.TrustRank.Replacing.{same_slot}
use Rattle.record_cache.specs.Values.{Held}
use Rattle.record_cache.specs.Ageing.{is_alive}
use Rattle.negative_cache.specs.Values.{Found, local, rows, alias, no_data, denied, miss}
use Rattle.negative_cache.specs.Entries.{is_set, is_no_data, denies}

-- of the question's name and class, and of this type
abbrev pub is_of_type : Question → ℕ → Held → Bool
is_of_type q kind h = same_slot (record { key = q.name; class = q.class; kind = Some kind }) h.piece.slot

-- the entry's name has the route of the question's name
abbrev pub is_on_route : List Route → Question → Held → Bool
is_on_route routes q h = option_eq nat_eq (route_of routes h.piece.slot.key) (route_of routes q.name)

-- the living set of this type
abbrev pub set_for : ℕ → List Held → Question → ℕ → Option Held
set_for moment entries q kind = find (λ h. is_of_type q kind h && (is_alive moment h && is_set h)) entries

-- the living alias of the name; a question for aliases follows none (RFC 1034 3.6.2)
abbrev pub alias_for : ℕ → List Held → Question → Option Held
alias_for moment entries q = if q.kind == 5 then None else set_for moment entries q 5

-- the living NODATA of the type
abbrev pub no_data_for : ℕ → List Held → Question → Option Held
no_data_for moment entries q = find (λ h. is_of_type q q.kind h && (is_alive moment h && is_no_data h)) entries

-- a living name error at or above the question's name, of its route
abbrev pub is_denial_for : List Route → ℕ → Question → Held → Bool
is_denial_for routes moment q h = is_alive moment h && is_on_route routes q h && denies q.name q.class h

-- the entry whose name has more labels
abbrev pub nearer : Held → Option Held → Held
nearer h None = h
nearer h (Some other) = if nat_lt (length h.piece.slot.key) (length other.piece.slot.key) then other else h

-- the entry whose name has the most labels
abbrev pub nearest : List Held → Option Held
nearest [] = None
nearest (h ∷ entries) = Some (nearer h (nearest entries))

-- the nearest name error for the question
abbrev pub denial_for : List Route → ℕ → List Held → Question → Option Held
denial_for routes moment entries q = nearest (filter (is_denial_for routes moment q) entries)

-- the first, if found, otherwise the next
abbrev pub found_or : (Held → Found) → Option Held → Found → Found
found_or so (Some h) next = so h
found_or so None next = next

-- The first living entry of: set of the type, alias, NODATA of the type, nearest name error at or
-- above the name and on its route. So a set below a name error is found until it expires.
abbrev pub found : List Route → ℕ → List Held → Question → Found
found routes moment entries q =
    found_or rows (set_for moment entries q q.kind)
    (found_or alias (alias_for moment entries q)
    (found_or no_data (no_data_for moment entries q)
    (found_or denied (denial_for routes moment entries q) miss)))

-- The outcome of a look-up of a question: `local` if the route of its name denies, otherwise the
-- found entry.
abbrev pub found_or_local : List Route → ℕ → List Held → Question → Found
found_or_local routes moment entries q = if is_denied routes q.name then local else found routes moment entries q
