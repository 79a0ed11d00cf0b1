use Rattle.std.proofs.Common.{◌≡◌, take}
use Rattle.outstanding.specs.Orders.{octets_number}
use Rattle.outstanding.proofs.keyed.number_of.Given as goal

abbrev pub invariant-loop-octet : goal.invariant-loop-octet
invariant-loop-octet l = l.number ≡ octets_number (take l.octet-index l.octets)
