-- The list of entries after an offer.
use Rattle.std.specs.Prelude.{ℕ, Bool, true, false, if◌then◌else◌, ◌==◌, ◌&&◌, ◌||◌, not, nat_lt, List, ◌∷◌, take}
use Rattle.std.specs.List.{list_any}
use Rattle.trust_rank.specs.Values.{Piece}
use Rattle.trust_rank.specs.Replacing.{is_name_error}
use Rattle.record_cache.specs.Values.{Held}
use Rattle.record_cache.specs.Ageing.{is_alive}
use Rattle.record_cache.specs.Entries.{of_slot, has_slot, without}
use Rattle.record_cache.specs.declared.cache.Offered.{Offered}
use Rattle.record_cache.specs.declared.cache.Offered.TheVariants.{Kept, Outranked, NotKept, Unkept}

-- a living entry of the piece's slot has a higher rank (RFC 2181 5.4.1)
abbrev pub outranks : ℕ → Piece → Held → Bool
outranks moment piece h = of_slot piece.slot h && (is_alive moment h && nat_lt piece.rank h.piece.rank)

-- a name error is never outranked
abbrev pub is_outranked : ℕ → Piece → List Held → Bool
is_outranked moment piece entries = not (is_name_error piece) && list_any (outranks moment piece) entries

-- the result of an offer; `room` is true if there is memory for one more entry
abbrev pub answer : ℕ → Bool → Piece → List Held → Offered
answer moment room piece entries =
    if is_outranked moment piece entries
    then Outranked
    else
    if piece.lifetime == 0
    then NotKept
    else if room || has_slot piece.slot entries then Kept else Unkept

-- the entry goes to the front: its slot's old entry is replaced, or the last entry of a full cache
-- is dropped
abbrev pub kept : ℕ → Held → List Held → List Held
kept capacity h entries = take capacity (h ∷ without h.piece.slot entries)

-- the list after an offer with this result
abbrev pub offered : Offered → ℕ → ℕ → Piece → List Held → List Held
offered Kept capacity moment piece entries = kept capacity (record { piece = piece; accepted = moment }) entries
offered Outranked capacity moment piece entries = entries
offered NotKept capacity moment piece entries = without piece.slot entries
offered Unkept capacity moment piece entries = entries

-- memory was found: every offer but `Unkept`
abbrev pub found_room : Offered → Bool
found_room Kept = true
found_room Outranked = true
found_room NotKept = true
found_room Unkept = false
