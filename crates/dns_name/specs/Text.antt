-- A name in text: its labels, parted by dots (RFC 1035 5.1).
use Rattle.std.specs.Prelude.{ℕ, ◌-◌, Bool, not, ◌==◌, ◌&&◌, ◌||◌, nat_lt, if◌then◌else◌, List, [], length, take}
use Rattle.std.specs.Prelude.{slice_index, Option, Some, None, Result}
use Rattle.std.specs.List.{slice_split, list_all}
use Rattle.std.specs.Char.{is_ascii_alphanumeric}
use Rattle.dns_name.specs.declared.fault.NameFault.{NameFault}
use Rattle.dns_name.specs.declared.fault.NameFault.TheVariants.{EmptyLabel, LabelLong, BadCharacter}
use Rattle.dns_name.specs.Faults.{judged}

-- the octet is a dot
abbrev pub is_dot : ℕ → Bool
is_dot octet = octet == 46

-- letters, digits and the hyphen (RFC 1035 2.3.1), and the underscore (RFC 2782)
abbrev pub is_label_character : ℕ → Bool
is_label_character octet = is_ascii_alphanumeric octet || octet == 45 || octet == 95

-- the parts of a text between its dots
abbrev pub parts_of : List ℕ → List (List ℕ)
parts_of text = slice_split is_dot text

-- the parts of the rest of a text
abbrev pub parts_left : Option (List ℕ) → List (List ℕ)
parts_left None = []
parts_left (Some text) = parts_of text

-- a dot alone, the text of the root
abbrev pub is_root_text : List ℕ → Bool
is_root_text text = length text == 1 && is_dot (slice_index text 0)

-- the text without its last dot, if the text ends in a dot
abbrev pub without_last_dot : List ℕ → List ℕ
without_last_dot text = if is_dot (slice_index text (length text - 1)) then take (length text - 1) text else text

-- the labels of a text
abbrev pub labels_in : List ℕ → List (List ℕ)
labels_in text = if is_root_text text then [] else parts_of (without_last_dot text)

-- the first fault of a label in text: a bad character comes before the label's end, where the
-- length is judged
abbrev pub written_label_fault : List ℕ → Option NameFault
written_label_fault label =
    if length label == 0 then Some EmptyLabel
    else (if not (list_all is_label_character label) then Some BadCharacter
    else (if nat_lt 63 (length label) then Some LabelLong else None))

-- the name of a text: labels parted by dots, with or without a dot at the end; a dot alone is the
-- root
abbrev pub name_in : List ℕ → Result (List (List ℕ)) NameFault
name_in text = judged written_label_fault (labels_in text)
