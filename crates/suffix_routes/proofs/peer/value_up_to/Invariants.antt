use Rattle.std.proofs.Common.{◌≡◌, ◌≤◌, take}
use Rattle.suffix_routes.specs.Peers.{decimal_value}
use Rattle.suffix_routes.proofs.peer.value_up_to.Given as goal

abbrev pub invariant-loop-digit : goal.invariant-loop-digit
invariant-loop-digit l = (l.value ≡ decimal_value (take l.digit-index l.digits)) × (l.value ≤ l.high)
