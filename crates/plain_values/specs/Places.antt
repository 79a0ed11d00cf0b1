-- Octets, in place or on the heap.
use Rattle.std.specs.Prelude.{ℕ, List}
use Rattle.plain_values.specs.declared.short_octets.Place.{Place}
use Rattle.plain_values.specs.declared.short_octets.Place.TheVariants.{Here, Heap}

-- the octets, wherever they are kept
abbrev pub octets_at : {A : Type 0} → Place A → List ℕ
octets_at (Here octets) = octets
octets_at (Heap octets) = octets.items
