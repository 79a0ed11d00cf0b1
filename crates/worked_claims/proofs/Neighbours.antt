-- Neighbours of an example: a single part fails.

-- the whole fails, but would hold with this part: the part alone fails
abbrev pub HoldsButFor : Type 0 → Type 0 → Type 0
HoldsButFor part whole = (part → whole) × (whole → ⊥)
