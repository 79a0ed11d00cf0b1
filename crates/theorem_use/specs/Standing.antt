-- The standing pieces, of all pieces in an era's replies.
use Rattle.std.specs.Prelude.{ℕ, Bool, true, false, ◌&&◌, ◌||◌, not, nat_lt, List, [], ◌∷◌, filter}
use Rattle.std.specs.List.{list_any}
use Rattle.trust_rank.specs.Replacing.{same_slot, is_name_error, takes_place_of}
use Rattle.record_cache.specs.Values.{Held}
use Rattle.record_cache.specs.Ageing.{is_alive}

-- of the slot of o, and of a higher rank (RFC 2181 5.4.1)
abbrev pub ranks_above : Held → Held → Bool
ranks_above o h = same_slot o.piece.slot h.piece.slot && nat_lt o.piece.rank h.piece.rank

-- o is believed next to these standing pieces: none of its slot has a higher rank; a name error is
-- always believed
abbrev pub is_believed : Held → List Held → Bool
is_believed o stood = is_name_error o.piece || not (list_any (ranks_above o) stood)

-- the standing pieces, with o if o stands
abbrev pub with_this : Bool → Held → List Held → List Held
with_this true o others = o ∷ others
with_this false o others = others

-- The pieces that stand at the moment n, of the carried pieces, the newest first: a piece stands if
-- it is alive then, was believed on arrival, and nothing carried since took its place (RFC 2181
-- 5.4, RFC 8020 2).
abbrev pub standing : ℕ → List Held → List Held
standing n [] = []
standing n (o ∷ os) =
    with_this (is_alive n o && is_believed o (standing o.accepted os)) o
    (filter (λ h. not (takes_place_of o.piece h.piece)) (standing n os))
