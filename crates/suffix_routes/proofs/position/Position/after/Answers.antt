use Rattle.std.proofs.Common.{◌≡◌, ◌+◌, ◌∙◌, ap, arith, sym, take, get_or}
use Rattle.std.specs.Prelude.{count_by}
use Rattle.std.proofs.lemmas.List.Sums.{count_by_more_yes, count_by_more_no}
use Rattle.suffix_routes.specs.Positions.{is_line_feed, begins_character, last_line}
use Rattle.suffix_routes.proofs.PositionLaws.{line_begins, column_begins, column_goes_on, no_line_feed}
use Rattle.suffix_routes.proofs.position.Position.after.Goals as goal
use Rattle.suffix_routes.proofs.position.Position.after.Goals.{then-octet-eq10, else-octet-eq10+then-begins_character, else-octet-eq10+else-begins_character}

pub loop-octet-preserved : goal.loop-octet-preserved
loop-octet-preserved c =
    let octets = c.args.octets.now in
    let i = c.loop-octet.octet-index in
    let before = c.loop-octet.invariant in
    elim c.if-octet-eq10.branch [
      | then-octet-eq10 w ↦
          let lines = count_by_more_yes is_line_feed octets i 0 c.loop-octet-test.true (ap is_line_feed w.if-octet-eq10.true) in
          let columns = ap (count_by begins_character) (line_begins i octets c.loop-octet-test.true w.if-octet-eq10.true) in (
            omega (arith, lines, before, w.line-is),
            omega (arith, columns, w.column-is),
            omega (arith, before, w.line-is),
            omega (arith, w.column-is),
          )
      | else-octet-eq10+then-begins_character w ↦
          let none = no_line_feed (get_or octets i 0) w.if-octet-eq10.false in
          let lines = count_by_more_no is_line_feed octets i 0 c.loop-octet-test.true none in
          let columns = column_begins i octets c.loop-octet-test.true none (sym w.begins_character.ensures ∙ w.if-begins_character.true) in (
            omega (arith, lines, before, w.line-is),
            omega (arith, columns, before, w.column-is),
            omega (arith, before, w.line-is),
            omega (arith, before, w.column-is),
          )
      | else-octet-eq10+else-begins_character w ↦
          let none = no_line_feed (get_or octets i 0) w.if-octet-eq10.false in
          let lines = count_by_more_no is_line_feed octets i 0 c.loop-octet-test.true none in
          let columns = column_goes_on i octets c.loop-octet-test.true none (sym w.begins_character.ensures ∙ w.if-begins_character.false) in (
            omega (arith, lines, before, w.line-is),
            omega (arith, columns, before, w.column-is),
            omega (arith, before, w.line-is),
            omega (arith, before, w.column-is),
          )
    ]
