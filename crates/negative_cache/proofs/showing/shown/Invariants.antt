use Rattle.std.proofs.Common.{◌≡◌, length}
use Rattle.dns_name.specs.Labels.{labels_of, IsLaidOut}
use Rattle.negative_cache.proofs.Forgetting.{forgotten, forgotten_above}
use Rattle.negative_cache.proofs.showing.shown.Given as goal

abbrev pub invariant-loop-higher : goal.invariant-loop-higher
invariant-loop-higher g l = record {
  laid : IsLaidOut l.rest;
  capacity : l.cache.capacity ≡ l.fn.cache.capacity;
  left : forgotten_above l.class (labels_of l.rest) l.cache.entries ≡ forgotten l.class l.name l.fn.cache.entries;
}

abbrev pub decreases-loop-higher : goal.decreases-loop-higher
decreases-loop-higher g l = length l.rest
