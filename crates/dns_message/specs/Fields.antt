-- The data of a record in memory, by its parts: names written out in full, and octets.
use Rattle.std.specs.Prelude.{ℕ, Bool, true, false, ◌+◌, List, [], ◌∷◌, length, take, drop, Option, Some, None, Result}
use Rattle.std.specs.Prelude.{Ok, Err, nat_lt, if◌then◌else◌}
use Rattle.std.specs.Option.{option_map}
use Rattle.dns_message.specs.declared.names.fault.Fault.{Fault}
use Rattle.dns_message.specs.declared.reading.shape.Part.{Part}
use Rattle.dns_message.specs.declared.reading.shape.Part.TheVariants.{Name, Number16, SoaNumbers, Text}
use Rattle.dns_message.specs.Shapes.{Shape, shape_of}
use Rattle.dns_message.specs.Names.{name_within, inside}

-- a part of record data: a name, or octets
pub data Field : Type 0 where
  named : List (List ℕ) → Field
  plain : List ℕ → Field

-- The name in front of octets, and the octets after. No place is before the first octet, so no
-- pointer is read.
abbrev pub first_name : Result (List (List ℕ) × ℕ) Fault → List ℕ → Option (Field × List ℕ)
first_name (Ok name) xs = Some (named name.0, drop name.1 xs)
first_name (Err fault) xs = None

-- the first `count` octets, and the rest
abbrev pub first_octets : ℕ → List ℕ → Option (Field × List ℕ)
first_octets n xs = if nat_lt (length xs) n then None else Some (plain (take n xs), drop n xs)

-- a character-string with its length: RFC 1035 3.3
abbrev pub first_text : List ℕ → Option (Field × List ℕ)
first_text [] = None
first_text (len ∷ xs) = first_octets (len + 1) (len ∷ xs)

-- the part in front of octets, and the octets after
unfoldable pub first_field : Part → List ℕ → Option (Field × List ℕ)
first_field Name xs = first_name (name_within xs (inside (length xs)) 0) xs
first_field Number16 xs = first_octets 2 xs
first_field SoaNumbers xs = first_octets 20 xs
first_field Text xs = first_text xs

-- the first part with the parts of the rest
abbrev pub and_others : Option (Field × List ℕ) → (List ℕ → Option (List Field)) → Option (List Field)
and_others None others = None
and_others (Some first) others = option_map (λ fields. first.0 ∷ fields) (others first.1)

-- no parts, if no octets are left
abbrev pub no_more : List ℕ → Option (List Field)
no_more [] = Some []
no_more (x ∷ xs) = None

-- octets by these parts, without a rest
unfoldable pub fields_of : List Part → List ℕ → Option (List Field)
fields_of [] xs = no_more xs
fields_of (part ∷ parts) xs = and_others (first_field part xs) (λ after. fields_of parts after)

-- a name is among the parts
unfoldable pub has_name : List Part → Bool
has_name [] = false
has_name (Name ∷ parts) = true
has_name (part ∷ parts) = has_name parts

-- the octets of these parts, if equally many in all data: no part, and the numbers of an SOA
unfoldable pub size_of_parts : List Part → Option ℕ
size_of_parts [] = Some 0
size_of_parts (SoaNumbers ∷ []) = Some 20
size_of_parts parts = None

-- the parts of data whose names may be written with pointers
abbrev pub if_compressed : Option Shape → List ℕ → Option (List Field)
if_compressed None rdata = None
if_compressed (Some shape) rdata = if shape.compressed then fields_of shape.parts rdata else None

-- data of a type whose names may be written with pointers, by its parts
abbrev pub fields_of_kind : ℕ → List ℕ → Option (List Field)
fields_of_kind kind rdata = if_compressed (shape_of kind) rdata
