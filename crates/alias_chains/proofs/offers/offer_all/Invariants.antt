use Rattle.std.proofs.Common.{◌≡◌}
use Rattle.std.specs.Prelude.{map}
use Rattle.alias_chains.proofs.Offering.{AreLeft}
use Rattle.alias_chains.proofs.offers.offer_all.Given as goal

abbrev pub invariant-loop-entry : goal.invariant-loop-entry
invariant-loop-entry g l = record {
  goes_on : (goal.iterator-loop-entry g).can_next l.entry-iterator;
  ends : (goal.iterator-loop-entry g).is_finite l.entry-iterator;
  capacity : l.cache.capacity ≡ l.initial.cache.capacity;
  left : AreLeft l.initial.cache.capacity l.moment (map (λ h. h.piece) l.fn.held.items) l.initial.cache.entries (map (λ h. h.piece) l.entry-iterator.rest.items) l.cache.entries l.unkept;
}
