-- Positions in a text.
use Rattle.std.specs.Prelude.{ℕ, ◌+◌, Bool, not, ◌&&◌, ◌==◌, nat_le, List, reverse, take_while, count_by}
use Rattle.suffix_routes.specs.declared.position.Position.{Position}

-- the octet ends a line
abbrev pub is_line_feed : ℕ → Bool
is_line_feed octet = octet == 10

-- the first octet of a character in UTF-8 (RFC 3629 3)
abbrev pub begins_character : ℕ → Bool
begins_character octet = not (nat_le 128 octet && nat_le octet 191)

-- the octets after the last line feed, the last of them first
abbrev pub last_line : List ℕ → List ℕ
last_line octets = take_while (λ octet. not (is_line_feed octet)) (reverse octets)

-- the position after these octets: a line for each line feed, and a column for each character after
-- the last line feed
abbrev pub position_of : List ℕ → Position
position_of octets = record {
  line = 1 + count_by is_line_feed octets;
  column = 1 + count_by begins_character (last_line octets);
}
