-- The content of an entry: a set, NODATA (RFC 2308 2.2), or a name error (RFC 2308 2.1).
use Rattle.std.specs.Prelude.{ℕ, Bool, true, false, ◌==◌, ◌&&◌, List}
use Rattle.dns_name.specs.Labels.{is_under}
use Rattle.record_cache.specs.TrustRank.Values.{Body, rows, no_data, denied}
use Rattle.record_cache.specs.TrustRank.Replacing.{is_name_error}
use Rattle.record_cache.specs.Values.{Held}

-- the content is a record set
abbrev pub are_rows : Body → Bool
are_rows (rows each) = true
are_rows (no_data soa) = false
are_rows (denied soa) = false

-- the content is a NODATA (RFC 2308 2.2)
abbrev pub tells_no_data : Body → Bool
tells_no_data (rows each) = false
tells_no_data (no_data soa) = true
tells_no_data (denied soa) = false

-- the entry is a record set
abbrev pub is_set : Held → Bool
is_set h = are_rows h.piece.body

-- the entry is a NODATA (RFC 2308 2.2)
abbrev pub is_no_data : Held → Bool
is_no_data h = tells_no_data h.piece.body

-- a name error of the class, of the name or of a name above: there is no such name (RFC 8020 2)
abbrev pub denies : List (List ℕ) → ℕ → Held → Bool
denies name class h = is_name_error h.piece && (class == h.piece.slot.class) && is_under name h.piece.slot.key
