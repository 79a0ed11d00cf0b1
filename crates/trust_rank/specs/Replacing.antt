-- When a piece takes the place of another: RFC 2181 5.4, RFC 8020 2. Both history and cache cite
-- this rule.
use Rattle.std.specs.Prelude.{ℕ, Bool, true, false, not, if◌then◌else◌, ◌==◌, ◌&&◌, ◌||◌, nat_le, Option, Some, None}
use Rattle.std.specs.Prelude.{is_none}
use Rattle.dns_message.specs.DnsName.Labels.{same, is_under}
use Rattle.trust_rank.specs.declared.slot.Slot.{Slot}
use Rattle.trust_rank.specs.Values.{Piece}

-- equal types, or none in both
abbrev pub same_kind : Option ℕ → Option ℕ → Bool
same_kind None None = true
same_kind None (Some b) = false
same_kind (Some a) None = false
same_kind (Some a) (Some b) = a == b

-- equal names, letter case aside, equal classes and types
abbrev pub same_slot : Slot → Slot → Bool
same_slot a b = same a.key b.key && (a.class == b.class) && same_kind a.kind b.kind

-- a denial of a whole name (NXDOMAIN, RFC 2308 2.1), and so of all names below (RFC 8020), without
-- a type
abbrev pub is_name_error : Piece → Bool
is_name_error p = is_none p.slot.kind

-- a set or NODATA of the class of p, at or under its name, which shows that the name of p exists
-- (RFC 8020 2)
abbrev pub shows_name : Piece → Piece → Bool
shows_name q p = not (is_name_error q) && (q.slot.class == p.slot.class) && is_under q.slot.key p.slot.key

-- q is of p's slot and of no lower rank. For a name error p: of its slot at any rank, or a set or
-- NODATA of the class, at or under the name.
abbrev pub takes_place_of : Piece → Piece → Bool
takes_place_of q p =
    if is_name_error p then same_slot q.slot p.slot || shows_name q p
    else same_slot q.slot p.slot && nat_le p.rank q.rank
