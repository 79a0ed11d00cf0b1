-- A whole message, written within a limit.
use Rattle.std.proofs.Common.{◌≡◌, ℕ, ◌+◌, ◌<◌, ◌≤◌, max, leb, true, List, [], ◌∷◌, ◌++◌, length, Result, Ok, Err, refl, ap, ◌∙◌, arith, ◌⊎◌, inl, inr}
use Rattle.std.specs.List.{flat_map}
use Rattle.std.proofs.lemmas.List.{length-append}
use Rattle.std.proofs.lemmas.Bool.{cases_lt, lt-ltb, le-ltb, leb-true, le-leb}
use Rattle.dns_message.specs.declared.names.fault.Fault.{Fault}
use Rattle.dns_message.specs.declared.names.fault.Fault.TheVariants.{Short, LabelForm, Pointer, NameLong, Rdata, TooLarge, Memory, NoQuestion}
use Rattle.dns_message.specs.declared.writing.writer.Writer.{Writer}
use Rattle.std.specs.Prelude.{MatchResult}
use Rattle.dns_message.specs.declared.reading.header.Header.{Header}
use Rattle.dns_message.specs.Values.{Question, Record, Message}
use Rattle.dns_message.specs.Reading.{Fails}
use Rattle.dns_message.specs.Writing.{Text, Place, Writing, as_is, after, ◌▹◌, each, octets16, octets32, with_length, name_text, question_text, head_text, record_text, data_text, counted_header, list_counts, header_text, message_text, written, written_within, flags_of, CanBeCounted}
use Rattle.dns_message.specs.Writer.{Writes, IsEmpty, Puts, Refused}
use Rattle.dns_message.proofs.writing.WriterLaws.{after_both, both}
use Rattle.dns_message.proofs.writing.WriterSets.{none_written}
use Rattle.dns_message.proofs.writing.WriterRecords.{after_long, refused_behind, refused_as, writes_as}

-- ---- the least length of a text

abbrev AtLeast : ℕ → Writing → Type 0
AtLeast n w = (places : List Place) (o : ℕ) → n ≤ length (w places o).octets

front_long : (n : ℕ) (a b : Writing) → AtLeast n a → AtLeast n (a ▹ b)
unfolding ◌▹◌
front_long n a b long places o =
    omega (arith, long places o, length-append (a places o).octets (b (places ++ (a places o).places) (o + length (a places o).octets)).octets)

back_long : (n : ℕ) (a b : Writing) → AtLeast n b → AtLeast n (a ▹ b)
unfolding ◌▹◌
back_long n a b long places o =
    omega (arith, long (places ++ (a places o).places) (o + length (a places o).octets), length-append (a places o).octets (b (places ++ (a places o).places) (o + length (a places o).octets)).octets)

-- a list takes at least an octet for each element
each_long : {X : Type 0} (w : X → Writing) → ((x : X) → AtLeast 1 (w x)) → (xs : List X) → AtLeast (length xs) (each w xs)
unfolding each ◌▹◌
each_long w some [] places o = omega arith
each_long w some (x ∷ xs) places o =
    let first : Text = w x places o in
    omega (arith, some x places o, each_long w some xs (places ++ first.places) (o + length first.octets), length-append first.octets (each w xs (places ++ first.places) (o + length first.octets)).octets)

question_some : (q : Question) → AtLeast 1 (question_text q)
question_some q = back_long 1 (name_text q.name ▹ as_is (octets16 q.kind)) (as_is (octets16 q.class)) (λ places o. omega arith)

record_some : (r : Record) → AtLeast 1 (record_text r)
record_some r =
    front_long 1 (head_text r) (with_length (data_text r.kind r.rdata))
    (back_long 1 (name_text r.owner ▹ as_is (octets16 r.kind) ▹ as_is (octets16 r.class)) (as_is (octets32 r.ttl)) (λ places o. omega arith))

abbrev pub AllCounted : ℕ → Message → Type 0
AllCounted n m = (length m.questions ≤ n) × (length m.answers ≤ n) × (length m.authority ≤ n) × (length m.additional ≤ n)

lists_within : (m : Message) (places : List Place) (o : ℕ) → AllCounted (length (message_text m places o).octets) m
lists_within m places o =
    let q : Writing = each question_text m.questions in
    let a : Writing = each record_text m.answers in
    let n : Writing = each record_text m.authority in
    let d : Writing = each record_text m.additional in
    let h : Writing = header_text m in (
      front_long _ (h ▹ q ▹ a ▹ n) d (front_long _ (h ▹ q ▹ a) n (front_long _ (h ▹ q) a (back_long _ h q (each_long question_text question_some m.questions)))) places o,
      front_long _ (h ▹ q ▹ a ▹ n) d (front_long _ (h ▹ q ▹ a) n (back_long _ (h ▹ q) a (each_long record_text record_some m.answers))) places o,
      front_long _ (h ▹ q ▹ a ▹ n) d (back_long _ (h ▹ q ▹ a) n (each_long record_text record_some m.authority)) places o,
      back_long _ (h ▹ q ▹ a ▹ n) d (each_long record_text record_some m.additional) places o,
    )

pub lists_short : (m : Message) → AllCounted (length (written m)) m
unfolding written
lists_short m = lists_within m [] 0

too_long : (limit : ℕ) (m : Message) → limit < length (written m) → written_within limit m ≡ Err TooLarge
unfolding written_within
too_long limit m passed = rw (lt-ltb limit (length (written m)) passed) refl

fits_in : (limit : ℕ) (m : Message) → length (written m) ≤ limit → written_within limit m ≡ Ok (written m)
unfolding written_within
fits_in limit m within = rw (le-ltb limit (length (written m)) within) refl

-- a message with lists too long for a header's counts is too large for every limit
pub uncounted : (limit : ℕ) (m : Message) → limit ≤ 65535 → (CanBeCounted m → ⊥) → written_within limit m ≡ Err TooLarge
uncounted limit m le not_ = by (cases_lt limit (length (written m)))
  where
    by : (limit < length (written m)) ⊎ (length (written m) ≤ limit) → written_within limit m ≡ Err TooLarge
    by (inl passed) = too_long limit m passed
    by (inr within) =
        let short = lists_short m in
        absurd (not_ (record { questions = omega (arith, short.0, within); answers = omega (arith, short.1, within); authority = omega (arith, short.2, within); additional = omega (arith, short.3, within) }))

-- ---- the whole message

abbrev pub nothing : Text
nothing = record { octets = []; places = [] }

pub written_after : (m : Message) → (after nothing (message_text m)).octets ≡ written m
unfolding after written
written_after m = refl

pub refused_whole : {A : Type 0} (limit : ℕ) (fault : Fault) (w : Writer A) (m : Message) → IsEmpty w → Refused limit fault w (message_text m) → Fails fault (written_within limit m)
refused_whole limit Memory w m empty refused = tt
refused_whole limit TooLarge w m empty refused = too_long limit m (rw (← written_after m) (refused nothing empty))
refused_whole limit Short w m empty refused = absurd refused
refused_whole limit LabelForm w m empty refused = absurd refused
refused_whole limit Pointer w m empty refused = absurd refused
refused_whole limit NameLong w m empty refused = absurd refused
refused_whole limit Rdata w m empty refused = absurd refused
refused_whole limit NoQuestion w m empty refused = absurd refused

pub written_whole : {A : Type 0} (limit : ℕ) (old new : Writer A) (m : Message) → IsEmpty old → Writes old new (message_text m) → length new.octets.items ≤ limit → written_within limit m ≡ Ok new.octets.items
written_whole limit old new m empty step within =
    let whole : new.octets.items ≡ written m = (step nothing empty).octets ∙ written_after m in
    rw whole (fits_in limit m (rw (← whole) within))

-- the writer's result for the whole message
pub whole_done : {A : Type 0} (limit : ℕ) (done : Result (Unit {0}) Fault) (old new : Writer A) (m : Message) (fact : Type 0) → IsEmpty old → Puts limit done old new (message_text m) fact
    → MatchResult done (λ _. written_within limit m ≡ Ok new.octets.items) (λ fault. Fails fault (written_within limit m))
whole_done limit (Ok x) old new m fact empty puts = written_whole limit old new m empty puts.0 puts.1
whole_done limit (Err fault) old new m fact empty refused = refused_whole limit fault old m empty refused

-- ---- a refused part, with more after it

pub refused_more : {A : Type 0} (limit : ℕ) (fault : Fault) (old : Writer A) (a b : Writing) → Refused limit fault old a → Refused limit fault old (a ▹ b)
refused_more limit Memory old a b refused = tt
refused_more limit TooLarge old a b refused = λ t h. rw after_both (let long = after_long (after t a) b in omega (arith, refused t h, long))
refused_more limit Short old a b refused = absurd refused
refused_more limit LabelForm old a b refused = absurd refused
refused_more limit Pointer old a b refused = absurd refused
refused_more limit NameLong old a b refused = absurd refused
refused_more limit Rdata old a b refused = absurd refused
refused_more limit NoQuestion old a b refused = absurd refused

-- ---- the sections in turn

abbrev pub to_questions : Message → Writing
to_questions m = header_text m ▹ each question_text m.questions

abbrev pub to_answers : Message → Writing
to_answers m = to_questions m ▹ each record_text m.answers

abbrev pub to_authority : Message → Writing
to_authority m = to_answers m ▹ each record_text m.authority

pub header_refused : {A : Type 0} (limit : ℕ) (fault : Fault) (w : Writer A) (m : Message) → Refused limit fault w (header_text m) → Refused limit fault w (message_text m)
header_refused limit fault w m refused =
    refused_more limit fault w (to_authority m) (each record_text m.additional)
    (refused_more limit fault w (to_answers m) (each record_text m.authority)
    (refused_more limit fault w (to_questions m) (each record_text m.answers) (refused_more limit fault w (header_text m) (each question_text m.questions) refused)))

pub questions_refused : {A : Type 0} (limit : ℕ) (fault : Fault) (w v : Writer A) (m : Message) (qs : List Question) → qs ≡ m.questions → Writes w v (header_text m) → Refused limit fault v (each question_text qs) → Refused limit fault w (message_text m)
questions_refused limit fault w v m qs same step refused =
    refused_more limit fault w (to_authority m) (each record_text m.additional)
    (refused_more limit fault w (to_answers m) (each record_text m.authority)
    (refused_more limit fault w (to_questions m) (each record_text m.answers)
    (refused_behind limit fault w v (header_text m) (each question_text m.questions) step (refused_as limit fault v _ _ (ap (each question_text) same) refused))))

pub answers_refused : {A : Type 0} (limit : ℕ) (fault : Fault) (w v : Writer A) (m : Message) (rs : List Record) → rs ≡ m.answers → Writes w v (to_questions m) → Refused limit fault v (each record_text rs) → Refused limit fault w (message_text m)
answers_refused limit fault w v m rs same step refused =
    refused_more limit fault w (to_authority m) (each record_text m.additional)
    (refused_more limit fault w (to_answers m) (each record_text m.authority)
    (refused_behind limit fault w v (to_questions m) (each record_text m.answers) step (refused_as limit fault v _ _ (ap (each record_text) same) refused)))

pub authority_refused : {A : Type 0} (limit : ℕ) (fault : Fault) (w v : Writer A) (m : Message) (rs : List Record) → rs ≡ m.authority → Writes w v (to_answers m) → Refused limit fault v (each record_text rs) → Refused limit fault w (message_text m)
authority_refused limit fault w v m rs same step refused =
    refused_more limit fault w (to_authority m) (each record_text m.additional)
    (refused_behind limit fault w v (to_answers m) (each record_text m.authority) step (refused_as limit fault v _ _ (ap (each record_text) same) refused))

pub additional_refused : {A : Type 0} (limit : ℕ) (fault : Fault) (w v : Writer A) (m : Message) (rs : List Record) → rs ≡ m.additional → Writes w v (to_authority m) → Refused limit fault v (each record_text rs) → Refused limit fault w (message_text m)
additional_refused limit fault w v m rs same step refused =
    refused_behind limit fault w v (to_authority m) (each record_text m.additional) step (refused_as limit fault v _ _ (ap (each record_text) same) refused)

pub section_written : {A X : Type 0} (w u v : Writer A) (before : Writing) (text : X → Writing) (xs ys : List X) → xs ≡ ys → Writes w u before → Writes u v (each text xs) → Writes w v (before ▹ each text ys)
section_written w u v before text xs ys same first step =
    both w u v before (each text ys) first (writes_as u v (each text xs) (each text ys) (ap (each text) same) step)

-- six numbers, written at once
header_whole : (h : Header) (counts : List ℕ) → length counts ≡ 4 → as_is (octets16 h.id ++ (octets16 (flags_of h) ++ flat_map octets16 counts)) ≡ counted_header h counts
unfolding ◌▹◌
header_whole h (a ∷ b ∷ c ∷ d ∷ []) four = refl
header_whole h [] four = absurd (omega arith)
header_whole h (a ∷ []) four = absurd (omega arith)
header_whole h (a ∷ b ∷ []) four = absurd (omega arith)
header_whole h (a ∷ b ∷ c ∷ []) four = absurd (omega arith)
header_whole h (a ∷ b ∷ c ∷ d ∷ e ∷ more) four = absurd (omega arith)

pub header_written : {A : Type 0} (old new : Writer A) (h : Header) (flags : ℕ) (counts xs : List ℕ) → length counts ≡ 4 → flags ≡ flags_of h → xs ≡ octets16 h.id ++ (octets16 flags ++ flat_map octets16 counts)
    → Writes old new (as_is xs) → Writes old new (counted_header h counts)
header_written old new h flags counts xs four f is step =
    writes_as old new (as_is xs) (counted_header h counts) (ap as_is is ∙ rw f (header_whole h counts four)) step

-- a message's header, from the lists
pub header_of_lists : {A : Type 0} (w v : Writer A) (m : Message) (h : Header) (qs : List Question) (as_ ns ds : List Record) → h ≡ m.header → qs ≡ m.questions → as_ ≡ m.answers → ns ≡ m.authority → ds ≡ m.additional
    → Writes w v (counted_header h (length qs ∷ length as_ ∷ length ns ∷ length ds ∷ [])) → Writes w v (header_text m)
header_of_lists w v m h qs as_ ns ds eh eq ea en ed step = writes_as w v _ (header_text m) (rw (eh, eq, ea, en, ed) refl) step

-- and from the counts
pub header_of_counts : {A : Type 0} (w v : Writer A) (m : Message) (h : Header) (counts : List ℕ) → h ≡ m.header → counts ≡ list_counts m → Writes w v (counted_header h counts) → Writes w v (header_text m)
header_of_counts w v m h counts eh ec step = writes_as w v _ (header_text m) (rw (eh, ec) refl) step

-- without further records the writing is whole
pub no_more_written : {A : Type 0} (w v : Writer A) (m : Message) → [] ≡ m.additional → Writes w v (to_authority m) → Writes w v (message_text m)
no_more_written w v m none step = section_written w v v (to_authority m) record_text [] m.additional none step (none_written v record_text)

pub most_counted : (m : Message) (a b c d n : ℕ) → a ≡ length m.answers → b ≡ length m.authority → c ≡ length m.additional → d ≡ length m.questions → n ≡ max d (max (max a b) c)
    → (leb n 65535 ≡ true → CanBeCounted m) × (CanBeCounted m → leb n 65535 ≡ true)
most_counted m a b c d n ea eb ec ed en = (
  λ le. let short = leb-true n 65535 le in record { questions = omega (arith, short); answers = omega (arith, short); authority = omega (arith, short); additional = omega (arith, short) },
  λ counts. le-leb n 65535 (omega (arith, counts.questions, counts.answers, counts.authority, counts.additional)),
)

pub header_number : (m : Message) (number : ℕ) → number ≡ m.header.id → number < 65536 → m.header.id < 65536
header_number m number is small = omega (arith, is, small)
