-- The only text of a message: RFC 1035 4.1. The longest end of a name that was written before is a
-- pointer to its first place: RFC 1035 4.1.4.
use Rattle.std.specs.Prelude.{ℕ, ◌+◌, ◌*◌, ◌/◌, ◌%◌, ◌≤◌, List, [], ◌∷◌, ◌++◌, length, Option, Some, None, Result, Ok}
use Rattle.std.specs.Prelude.{Err, Bool, true, false, nat_le, nat_lt, slice_index, if◌then◌else◌}
use Rattle.std.specs.List.{flat_map}
use Rattle.std.specs.Str.{bytes_eq}
use Rattle.std.specs.Cmp.Lexicographic.{pointwise}
use Rattle.dns_name.specs.Labels.{label_octets}
use Rattle.dns_message.specs.declared.names.fault.Fault.{Fault}
use Rattle.dns_message.specs.declared.names.fault.Fault.TheVariants.{TooLarge}
use Rattle.dns_message.specs.declared.reading.header.Header.{Header}
use Rattle.dns_message.specs.Values.{Question, Record, Message}
use Rattle.dns_message.specs.Fields.{Field, named, plain, fields_of_kind}

-- the offset of a label written out, and the name from there on
pub record Place : Type 0 where
  pub offset : ℕ
  pub name : List (List ℕ)

-- octets, and the places in them, the earliest first
pub record Text : Type 0 where
  pub octets : List ℕ
  pub places : List Place

-- the text of a thing at an offset, after these places
abbrev pub Writing : Type 0
Writing = List Place → ℕ → Text

-- octets with no place in them
abbrev pub as_is : List ℕ → Writing
as_is xs places o = record { octets = xs; places = [] }

-- two texts in order
abbrev pub joined : Text → Text → Text
joined t u = record { octets = t.octets ++ u.octets; places = t.places ++ u.places }

-- a text, followed by a writing
unfoldable pub after : Text → Writing → Text
after t w = joined t (w t.places (length t.octets))

infixl 20 ◌▹◌
-- two writings in order
unfoldable pub ◌▹◌ : Writing → Writing → Writing
(a ▹ b) places o = let first = a places o in joined first (b (places ++ first.places) (o + length first.octets))

-- each of these, in order
unfoldable pub each : {X : Type 0} → (X → Writing) → List X → Writing
each w [] = as_is []
each w (x ∷ xs) = w x ▹ each w xs

-- ---- numbers, the high octet first: RFC 1035 2.3.2

-- the two octets of a number, high octet first
abbrev pub octets16 : ℕ → List ℕ
octets16 n = n / 256 % 256 ∷ n % 256 ∷ []

-- the four octets of a number, the highest first
abbrev pub octets32 : ℕ → List ℕ
octets32 n = n / 16777216 % 256 ∷ n / 65536 % 256 ∷ n / 256 % 256 ∷ n % 256 ∷ []

-- ---- names

-- labels are equal if their octets are, letter case included
abbrev pub labels_eq : List (List ℕ) → List (List ℕ) → Bool
labels_eq = pointwise bytes_eq

-- the earliest place of this name
abbrev pub place_of : List Place → List (List ℕ) → Option ℕ
place_of [] name = None
place_of (place ∷ places) name = if labels_eq place.name name then Some place.offset else place_of places name

-- a pointer is the bits 11 and 14 bits of offset: RFC 1035 4.1.4
abbrev pub pointer_to : ℕ → ℕ
pointer_to offset = 49152 + offset

-- a pointer reaches no further than 14 bits
abbrev pub places_at : ℕ → List (List ℕ) → List Place
places_at o name = if nat_le o 16383 then record { offset = o; name = name } ∷ [] else []

-- the first label of a name, written out
abbrev pub label_text : List ℕ → List (List ℕ) → Writing
label_text label rest places o = record { octets = label_octets label; places = places_at o (label ∷ rest) }

-- the pointer to an offset, if any, otherwise the text
abbrev pub pointer_or : Option ℕ → Writing → Writing
pointer_or (Some offset) written = as_is (octets16 (pointer_to offset))
pointer_or None written = written

-- A name: its longest end with a place is a pointer to the earliest place. The root is its zero
-- octet.
unfoldable pub name_text : List (List ℕ) → Writing
name_text [] places o = as_is (0 ∷ []) places o
name_text (label ∷ rest) places o =
    pointer_or (place_of places (label ∷ rest)) (label_text label rest ▹ name_text rest) places o

-- ---- questions and records

-- RFC 1035 4.1.2
abbrev pub question_text : Question → Writing
question_text q = name_text q.name ▹ as_is (octets16 q.kind) ▹ as_is (octets16 q.class)

-- the text of a part of record data
abbrev pub field_text : Field → Writing
field_text (named labels) = name_text labels
field_text (plain xs) = as_is xs

-- the text of record data: by its parts, or unchanged
abbrev pub by_fields : Option (List Field) → List ℕ → Writing
by_fields (Some fields) rdata = each field_text fields
by_fields None rdata = as_is rdata

-- Data with the shape of a type whose names may be pointers is written part by part, all further
-- data unchanged.
unfoldable pub data_text : ℕ → List ℕ → Writing
data_text kind rdata = by_fields (fields_of_kind kind rdata) rdata

-- RDLENGTH, and the counted octets
unfoldable pub with_length : Writing → Writing
with_length w places o =
    let text = w places (o + 2) in
    record { octets = octets16 (length text.octets) ++ text.octets; places = text.places }

-- the text before the data of a record and its length
abbrev pub head_text : Record → Writing
head_text r = name_text r.owner ▹ as_is (octets16 r.kind) ▹ as_is (octets16 r.class) ▹ as_is (octets32 r.ttl)

-- RFC 1035 4.1.3
abbrev pub record_text : Record → Writing
record_text r = head_text r ▹ with_length (data_text r.kind r.rdata)

-- ---- the whole

-- a bit of this weight
abbrev pub bit : Bool → ℕ → ℕ
bit true weight = weight
bit false weight = 0

-- QR, Opcode, AA, TC, RD, RA, Z, RCODE, from the high bit down: RFC 1035 4.1.1
abbrev pub flags_of : Header → ℕ
flags_of h = bit h.qr 32768 + h.opcode * 2048 + bit h.aa 1024 + bit h.tc 512 + bit h.rd 256 + bit h.ra 128 + h.z * 16
    + h.rcode

-- identifier, flags and these counts, each in two octets: RFC 1035 4.1.1
abbrev pub header_octets : Header → List ℕ → List ℕ
header_octets h counts = octets16 h.id ++ octets16 (flags_of h) ++ flat_map octets16 counts

-- the first three octets of a reply's header: identifier, QR, this opcode, AA clear, the TC of
-- these flags, RD
abbrev pub reply_front : ℕ → ℕ → ℕ → Bool → List ℕ
reply_front id opcode flags rd = octets16 id ++ (128 + opcode * 8 + flags / 2 % 2 * 2 + bit rd 1) ∷ []

-- the header, with these counts: RFC 1035 4.1.1
abbrev pub counted_header : Header → List ℕ → Writing
counted_header h counts =
    as_is (octets16 h.id) ▹ as_is (octets16 (flags_of h)) ▹ as_is (octets16 (slice_index counts 0))
    ▹ as_is (octets16 (slice_index counts 1))
    ▹ as_is (octets16 (slice_index counts 2)) ▹ as_is (octets16 (slice_index counts 3))

-- the counts of a header: questions, answers, authority, additional
abbrev pub list_counts : Message → List ℕ
list_counts m = length m.questions ∷ length m.answers ∷ length m.authority ∷ length m.additional ∷ []

-- the header, with the counts of the lists
abbrev pub header_text : Message → Writing
header_text m = counted_header m.header (list_counts m)

-- the text of a message: header, question, answers, authority, additional
abbrev pub message_text : Message → Writing
message_text m =
    header_text m ▹ each question_text m.questions ▹ each record_text m.answers ▹ each record_text m.authority
    ▹ each record_text m.additional

-- the octets of a message; in each name that may have a pointer, the longest end written before
-- within a pointer's reach is a pointer (RFC 1035 4.1.4)
unfoldable pub written : Message → List ℕ
written m = (message_text m [] 0).octets

-- the octets, if they are at most `limit`
unfoldable pub written_within : ℕ → Message → Result (List ℕ) Fault
written_within limit m = if nat_lt limit (length (written m)) then Err TooLarge else Ok (written m)

-- a header has room for the counts of the lists: 16 bits each
pub record CanBeCounted (m : Message) : Type 0 where
  pub questions : length m.questions ≤ 65535
  pub answers : length m.answers ≤ 65535
  pub authority : length m.authority ≤ 65535
  pub additional : length m.additional ≤ 65535
