-- How a neighbour is told from an example.

-- with this part the whole holds, and it does not hold: the part alone fails
abbrev pub HoldsButFor : Type 0 → Type 0 → Type 0
HoldsButFor part whole = (part → whole) × (whole → ⊥)
