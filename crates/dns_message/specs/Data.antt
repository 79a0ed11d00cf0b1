-- The data of a record, by the shape of its type: RFC 1035 3.3, RFC 3597.
use Rattle.std.specs.Prelude.{◌≡◌, ℕ, ◌+◌, ◌≤◌, List, [], ◌∷◌, ◌++◌, length, take, drop, Option, Some, None, Result, Ok}
use Rattle.std.specs.Prelude.{Err, nat_lt, nat_le, ◌==◌, if◌then◌else◌, slice_index}
use Rattle.dns_name.specs.Labels.{IsName, label_octets, octets_of, size_of}
use Rattle.dns_message.specs.declared.names.fault.Fault.{Fault}
use Rattle.dns_message.specs.declared.names.fault.Fault.TheVariants.{Short, Rdata}
use Rattle.dns_message.specs.declared.reading.shape.Part.{Part}
use Rattle.dns_message.specs.declared.reading.shape.Part.TheVariants.{Name, Number16, SoaNumbers, Text}
use Rattle.dns_message.specs.Shapes.{Shape, shape_of}
use Rattle.dns_message.specs.Reading.{◌>>=◌}
use Rattle.dns_message.specs.Names.{NameAt, name_at, name_within, inside}

-- a name written out in full, with the final zero
abbrev pub name_octets : List (List ℕ) → List ℕ
name_octets labels = octets_of labels ++ 0 ∷ []

-- ---- data as it is held: every name written out in full

-- these octets are a part
abbrev pub IsPart : Part → List ℕ → Type 0
IsPart Name octets = (labels : List (List ℕ)) × IsName labels × (octets ≡ name_octets labels)
IsPart Number16 octets = length octets ≡ 2
IsPart SoaNumbers octets = length octets ≡ 20
IsPart Text octets = (text : List ℕ) × (octets ≡ label_octets text)

-- these octets are the parts, in order
pub data HasParts : List Part → List ℕ → Type 0 where
  no_parts : HasParts [] []
  more_parts : {part : Part} {parts : List Part} {octets : List ℕ} (first rest : List ℕ) → IsPart part first
      → HasParts parts rest → octets ≡ first ++ rest → HasParts (part ∷ parts) octets

-- the data has the parts of a shape; any data has no shape
abbrev pub IsOfShape : Option Shape → List ℕ → Type 0
IsOfShape None octets = Unit {0}
IsOfShape (Some shape) octets = HasParts shape.parts octets

-- these octets have the shape of the type's data
abbrev pub IsShaped : ℕ → List ℕ → Type 0
IsShaped kind octets = IsOfShape (shape_of kind) octets

-- ---- data in a message: RDLENGTH octets, in which names may be written with pointers

-- a part of data is from o to e, ends before stop, and is these octets when written out in full
abbrev pub PartAt : Part → List ℕ → ℕ → ℕ → List ℕ → ℕ → Type 0
PartAt Name bytes stop o octets e = (labels : List (List ℕ)) × NameAt bytes o o labels e × (size_of labels ≤ 255)
    × (e ≤ stop) × (octets ≡ name_octets labels)
PartAt Number16 bytes stop o octets e = (o + 2 ≤ stop) × (octets ≡ take 2 (drop o bytes)) × (e ≡ o + 2)
PartAt SoaNumbers bytes stop o octets e = (o + 20 ≤ stop) × (octets ≡ take 20 (drop o bytes)) × (e ≡ o + 20)
PartAt Text bytes stop o octets e = (o + (slice_index bytes o + 1) ≤ stop)
    × (octets ≡ take (slice_index bytes o + 1) (drop o bytes)) × (e ≡ o + (slice_index bytes o + 1))

-- the parts fill the data from o to stop
pub data PartsAt (bytes : List ℕ) (stop : ℕ) : List Part → ℕ → List ℕ → Type 0 where
  parts_end : {o : ℕ} → o ≡ stop → PartsAt bytes stop [] o []
  parts_go_on : {part : Part} {parts : List Part} {o : ℕ} {octets : List ℕ} (e : ℕ) (first rest : List ℕ)
      → PartAt part bytes stop o first e → PartsAt bytes stop parts e rest → octets ≡ first ++ rest
      → PartsAt bytes stop (part ∷ parts) o octets

-- the data at a place, by its shape
abbrev pub ShapedAt : Option Shape → List ℕ → ℕ → ℕ → List ℕ → Type 0
ShapedAt None bytes o len octets = octets ≡ take len (drop o bytes)
ShapedAt (Some shape) bytes o len octets = PartsAt bytes (o + len) shape.parts o octets

-- at o there is data of `len` octets, these octets when written out in full
abbrev pub DataAt : ℕ → List ℕ → ℕ → ℕ → List ℕ → Type 0
DataAt kind bytes o len octets = (o + len ≤ length bytes) × ShapedAt (shape_of kind) bytes o len octets

-- ---- how it is read: written out in full and the place after it, or the first fault

-- octets up to a stop, or the fault Rdata
unfoldable pub octets_within : List ℕ → ℕ → ℕ → ℕ → Result (List ℕ × ℕ) Fault
octets_within bytes stop o count = if nat_lt stop (o + count) then Err Rdata
    else Ok (take count (drop o bytes), o + count)

-- a name read, as octets without pointers
abbrev pub written_out : Result (List (List ℕ) × ℕ) Fault → Result (List ℕ × ℕ) Fault
written_out (Ok name) = Ok (name_octets name.0, name.1)
written_out (Err fault) = Err fault

-- octets read, after the octets read before
abbrev pub prefixed : List ℕ → Result (List ℕ × ℕ) Fault → Result (List ℕ × ℕ) Fault
prefixed front (Ok read) = Ok (front ++ read.0, read.1)
prefixed front (Err fault) = Err fault

-- a text after its length octet, up to a stop (RFC 1035 3.3)
unfoldable pub text_within : List ℕ → ℕ → ℕ → Result (List ℕ × ℕ) Fault
text_within bytes stop o = if nat_le stop o then Err Rdata else octets_within bytes stop o (slice_index bytes o + 1)

-- a part of record data at a place
abbrev pub part_at : Part → List ℕ → ℕ → ℕ → Result (List ℕ × ℕ) Fault
part_at Name bytes stop o = written_out (name_within bytes (inside stop) o)
part_at Number16 bytes stop o = octets_within bytes stop o 2
part_at SoaNumbers bytes stop o = octets_within bytes stop o 20
part_at Text bytes stop o = text_within bytes stop o

-- a part of this many octets, or a name
abbrev pub laid_at : Option ℕ → List ℕ → ℕ → ℕ → Result (List ℕ × ℕ) Fault
laid_at None bytes stop o = written_out (name_within bytes (inside stop) o)
laid_at (Some count) bytes stop o = octets_within bytes stop o count

-- the parts, which must end at stop
unfoldable pub parts_at : List Part → List ℕ → ℕ → ℕ → Result (List ℕ × ℕ) Fault
parts_at [] bytes stop o = if o == stop then Ok ([], o) else Err Rdata
parts_at (part ∷ parts) bytes stop o = part_at part bytes stop o
    >>= λ first. prefixed first.0 (parts_at parts bytes stop first.1)

-- record data at a place, by its shape (RFC 3597)
abbrev pub shaped_at : Option Shape → List ℕ → ℕ → ℕ → Result (List ℕ × ℕ) Fault
shaped_at None bytes o len = Ok (take len (drop o bytes), o + len)
shaped_at (Some shape) bytes o len = parts_at shape.parts bytes (o + len) o

-- the data of `len` octets of a record of this type
unfoldable pub data_at : ℕ → List ℕ → ℕ → ℕ → Result (List ℕ × ℕ) Fault
data_at kind bytes o len = if nat_lt (length bytes) (o + len) then Err Short else shaped_at (shape_of kind) bytes o len

-- ---- data that is one name

-- a name of exactly these octets
abbrev pub name_if_all : ℕ → Result (List (List ℕ) × ℕ) Fault → Option (List (List ℕ))
name_if_all len (Ok name) = if name.1 == len then Some name.0 else None
name_if_all len (Err fault) = None

-- the name in these octets, written out in full
unfoldable pub name_of_rdata : List ℕ → Option (List (List ℕ))
name_of_rdata octets = name_if_all (length octets) (name_at octets 0)
