-- The types with names in their data: RFC 1035 3.3, RFC 1183, RFC 2163, RFC 2782, RFC 3403.
use Rattle.std.specs.Prelude.{ℕ, List, [], ◌∷◌, Bool, true, false, Option, Some, None, ◌==◌, if◌then◌else◌}
use Rattle.dns_message.specs.declared.reading.shape.Part.{Part}
use Rattle.dns_message.specs.declared.reading.shape.Part.TheVariants.{Name, Number16, SoaNumbers, Text}

-- the parts of the data, and whether its names may be written with pointers
pub record Shape : Type 0 where
  pub parts : List Part
  pub compressed : Bool

-- a type, and the shape of its data
pub record Row : Type 0 where
  pub kind : ℕ
  pub shape : Shape

-- a type whose names may be written with pointers (RFC 3597 4)
abbrev pub with_pointers : ℕ → List Part → Row
with_pointers kind parts = record { kind = kind; shape = record { parts = parts; compressed = true } }

-- a type whose names are written in full (RFC 3597 4)
abbrev pub in_full : ℕ → List Part → Row
in_full kind parts = record { kind = kind; shape = record { parts = parts; compressed = false } }

-- MNAME, RNAME, SERIAL, REFRESH, RETRY, EXPIRE, MINIMUM: RFC 1035 3.3.13
abbrev pub soa_parts : List Part
soa_parts = Name ∷ Name ∷ SoaNumbers ∷ []

-- priority, weight, port, target: RFC 2782
abbrev pub srv_parts : List Part
srv_parts = Number16 ∷ Number16 ∷ Number16 ∷ Name ∷ []

-- order, preference, flags, services, regular expression, replacement: RFC 3403 4.1
abbrev pub naptr_parts : List Part
naptr_parts = Number16 ∷ Number16 ∷ Text ∷ Text ∷ Text ∷ Name ∷ []

-- the types with names in their data, with the parts of the data
abbrev pub table : List Row
table =
    with_pointers 2 (Name ∷ []) ∷  -- NS
    with_pointers 3 (Name ∷ []) ∷  -- MD
    with_pointers 4 (Name ∷ []) ∷  -- MF
    with_pointers 5 (Name ∷ []) ∷  -- CNAME
    with_pointers 6 soa_parts ∷  -- SOA
    with_pointers 7 (Name ∷ []) ∷  -- MB
    with_pointers 8 (Name ∷ []) ∷  -- MG
    with_pointers 9 (Name ∷ []) ∷  -- MR
    with_pointers 12 (Name ∷ []) ∷  -- PTR
    with_pointers 14 (Name ∷ Name ∷ []) ∷  -- MINFO
    with_pointers 15 (Number16 ∷ Name ∷ []) ∷  -- MX
    in_full 17 (Name ∷ Name ∷ []) ∷  -- RP
    in_full 18 (Number16 ∷ Name ∷ []) ∷  -- AFSDB
    in_full 21 (Number16 ∷ Name ∷ []) ∷  -- RT
    in_full 26 (Number16 ∷ Name ∷ Name ∷ []) ∷  -- PX
    in_full 33 srv_parts ∷  -- SRV
    in_full 35 naptr_parts ∷  -- NAPTR
    []

-- the shape of a type among rows
abbrev pub row_of : ℕ → List Row → Option Shape
row_of kind [] = None
row_of kind (row ∷ rows) = if kind == row.kind then Some row.shape else row_of kind rows

-- the shape of a type's data; None: opaque octets (RFC 3597)
unfoldable pub shape_of : ℕ → Option Shape
shape_of kind = row_of kind table
