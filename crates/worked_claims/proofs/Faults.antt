-- The first fault found, computed: in names of messages, in names, numbers and texts of data, and
-- in names of texts.
use Rattle.std.proofs.Common.{◌≡◌, ℕ, List, [], ◌∷◌, ◌++◌, replicate, Some, None, Ok, Err, refl}
use Rattle.dns_name.specs.declared.fault.NameFault.TheVariants as name_fault
use Rattle.dns_name.specs.Text.{written_label_fault, name_in}
use Rattle.dns_message.specs.Data.{data_at, octets_within, text_within, parts_at}
use Rattle.dns_message.specs.declared.names.fault.Fault.TheVariants.{Short, LabelForm, Pointer, NameLong, Rdata}
use Rattle.dns_message.specs.Names.{step as name_step, walk_in, name_within, name_at}
use Rattle.dns_message.specs.Shapes.{shape_of}

-- ---- names in messages

-- a pointer lacks the second octet; with a second octet the pointer leads to itself; and a pointer
-- back to the root ends the name
second_octet_absent : name_at (0 ∷ 192 ∷ []) 1 ≡ Err Short
unfolding name_within walk_in name_step
second_octet_absent = refl

pointer_to_itself : name_at (0 ∷ 192 ∷ 1 ∷ []) 1 ≡ Err Pointer
unfolding name_within walk_in name_step
pointer_to_itself = refl

pointer_back : name_at (0 ∷ 192 ∷ 0 ∷ []) 1 ≡ Ok ([], 3)
unfolding name_within walk_in name_step
pointer_back = refl

-- a label with this many octets
abbrev label : ℕ → List ℕ
label n = n ∷ replicate n 97

-- three labels of 63 octets, 192 octets in all
abbrev three : List ℕ
three = label 63 ++ (label 63 ++ label 63)

abbrev labels_of : ℕ → List (List ℕ)
labels_of last = replicate 63 97 ∷ replicate 63 97 ∷ replicate 63 97 ∷ replicate last 97 ∷ []

-- a fourth label of 62 octets would make 256, but the last octet is missing, and this fault comes
-- first
end_before_length : name_at (three ++ (62 ∷ replicate 61 97)) 0 ≡ Err Short
unfolding name_within walk_in name_step
end_before_length = refl

length_behind_end : name_at (three ++ (62 ∷ replicate 62 97)) 0 ≡ Err NameLong
unfolding name_within walk_in name_step
length_behind_end = refl

just_short_enough : name_at (three ++ (label 61 ++ 0 ∷ [])) 0 ≡ Ok (labels_of 61, 255)
unfolding name_within walk_in name_step
just_short_enough = refl

-- ---- names in data

-- no label and no pointer begins with 64 in an alias, nor with 191; a pointer begins with 192
label_form_in_data : data_at 5 (0 ∷ 64 ∷ 0 ∷ []) 1 2 ≡ Err LabelForm
unfolding data_at shape_of parts_at name_within walk_in name_step
label_form_in_data = refl

other_form_in_data : data_at 5 (0 ∷ 191 ∷ 0 ∷ []) 1 2 ≡ Err LabelForm
unfolding data_at shape_of parts_at name_within walk_in name_step
other_form_in_data = refl

pointer_in_data : data_at 5 (0 ∷ 192 ∷ 0 ∷ []) 1 2 ≡ Ok (0 ∷ [], 3)
unfolding data_at shape_of parts_at name_within walk_in name_step
pointer_in_data = refl

-- a name of 255 octets is at 0, and an alias leads there; a label before the pointer makes the name
-- too long
abbrev longest : List ℕ
longest = three ++ (label 61 ++ 0 ∷ [])

name_long_in_data : data_at 5 (longest ++ 1 ∷ 98 ∷ 192 ∷ 0 ∷ []) 255 4 ≡ Err NameLong
unfolding data_at shape_of parts_at name_within walk_in name_step
name_long_in_data = refl

longest_in_data : data_at 5 (longest ++ 192 ∷ 0 ∷ []) 255 2 ≡ Ok (longest, 257)
unfolding data_at shape_of parts_at name_within walk_in name_step
longest_in_data = refl

-- a label continued after the data is the data's fault, even in a name too long
data_before_length : data_at 5 (longest ++ 1 ∷ 98 ∷ 62 ∷ []) 255 3 ≡ Err Rdata
unfolding data_at shape_of parts_at name_within walk_in name_step
data_before_length = refl

-- ---- numbers and texts in data

-- a number of an MX has a single octet of two in the data, though the message goes on
number_cut : data_at 15 (0 ∷ 10 ∷ 0 ∷ []) 0 1 ≡ Err Rdata
unfolding data_at shape_of parts_at octets_within
number_cut = refl

number_and_root : data_at 15 (0 ∷ 10 ∷ 0 ∷ []) 0 3 ≡ Ok (0 ∷ 10 ∷ 0 ∷ [], 3)
unfolding data_at shape_of parts_at octets_within name_within walk_in name_step
number_and_root = refl

-- nothing follows the number; and an octet too many follows the name
name_missing : data_at 15 (0 ∷ 10 ∷ 0 ∷ []) 0 2 ≡ Err Rdata
unfolding data_at shape_of parts_at octets_within name_within walk_in name_step
name_missing = refl

octet_left_over : data_at 15 (0 ∷ 10 ∷ 0 ∷ 0 ∷ []) 0 4 ≡ Err Rdata
unfolding data_at shape_of parts_at octets_within name_within walk_in name_step
octet_left_over = refl

-- the numbers of an SOA have 20 octets
abbrev soa : ℕ → List ℕ
soa n = 0 ∷ 0 ∷ replicate n 7

soa_numbers : data_at 6 (soa 20) 0 22 ≡ Ok (soa 20, 22)
unfolding data_at shape_of parts_at octets_within name_within walk_in name_step
soa_numbers = refl

soa_numbers_cut : data_at 6 (soa 20) 0 21 ≡ Err Rdata
unfolding data_at shape_of parts_at octets_within name_within walk_in name_step
soa_numbers_cut = refl

-- a NAPTR has three texts, here of one octet and twice none, and then the root
abbrev naptr : ℕ → List ℕ
naptr n = 0 ∷ 1 ∷ 0 ∷ 2 ∷ n ∷ 115 ∷ 0 ∷ 0 ∷ 0 ∷ []

texts : data_at 35 (naptr 1) 0 9 ≡ Ok (naptr 1, 9)
unfolding data_at shape_of parts_at octets_within text_within name_within walk_in name_step
texts = refl

-- a text continued after the data, and a text begun there
text_too_long : data_at 35 (naptr 5) 0 9 ≡ Err Rdata
unfolding data_at shape_of parts_at octets_within text_within name_within walk_in name_step
text_too_long = refl

text_missing : data_at 35 (naptr 1) 0 7 ≡ Err Rdata
unfolding data_at shape_of parts_at octets_within text_within name_within walk_in name_step
text_missing = refl

-- if octets of the data are missing, this fault comes first
end_before_shape : data_at 15 (0 ∷ 10 ∷ 64 ∷ []) 0 4 ≡ Err Short
unfolding data_at
end_before_shape = refl

-- ---- names in text

-- 64 characters, one not allowed in labels: the fault is this character, not the length
abbrev with_a_star : List ℕ
with_a_star = replicate 63 97 ++ 42 ∷ []

character_before_length : written_label_fault with_a_star ≡ Some name_fault.BadCharacter
character_before_length = refl

too_long : written_label_fault (replicate 64 97) ≡ Some name_fault.LabelLong
too_long = refl

long_enough : written_label_fault (replicate 63 97) ≡ None
long_enough = refl

in_a_text : (name_in with_a_star ≡ Err name_fault.BadCharacter) × (name_in (replicate 64 97) ≡ Err name_fault.LabelLong)
in_a_text = (refl, refl)

-- but the first label's fault comes before the later labels' faults
the_first_label_first : (name_in (replicate 64 97 ++ (46 ∷ 42 ∷ [])) ≡ Err name_fault.LabelLong)
    × (name_in (42 ∷ 46 ∷ replicate 64 97) ≡ Err name_fault.BadCharacter)
the_first_label_first = (refl, refl)
