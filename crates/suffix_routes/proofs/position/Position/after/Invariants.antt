use Rattle.std.proofs.Common.{◌≡◌, ◌+◌, ◌≤◌, take}
use Rattle.std.specs.Prelude.{count_by}
use Rattle.suffix_routes.specs.Positions.{begins_character, is_line_feed, last_line}
use Rattle.suffix_routes.proofs.position.Position.after.Given as goal

abbrev pub invariant-loop-octet : goal.invariant-loop-octet
invariant-loop-octet l =
    (l.line ≡ 1 + count_by is_line_feed (take l.octet-index l.octets)) × (l.column ≡ 1 + count_by begins_character (last_line (take l.octet-index l.octets))) × (l.line ≤ 1 + l.octet-index)
    × (l.column ≤ 1 + l.octet-index)
