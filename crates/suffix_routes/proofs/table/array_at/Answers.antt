use Rattle.std.proofs.Common.{◌≡◌, Some, Ok, ap, map}
use Rattle.toml.specs.Data.{as_array}
use Rattle.toml.specs.View.{view, items_of}
use Rattle.suffix_routes.proofs.ReadLaws.{list-of-items}
use Rattle.suffix_routes.proofs.table.array_at.Goals as goal

pub returns-in-Some : goal.returns-in-Some
returns-in-Some c =
    let found : Some (items_of (map view c.in-Some.array.now.items)) ≡ as_array (view c.args.value.now) = rw c.in-Some.is at c.as_array.ensures in
    rw (← found, c.as_slice.ensures.value) (ap Ok (list-of-items (map view c.in-Some.array.now.items)))
