-- Written questions, records and whole messages are laid out.
use Rattle.std.proofs.Common.{◌≡◌, ℕ, ◌+◌, ◌*◌, ◌/◌, ◌%◌, ◌<◌, ◌≤◌, Bool, true, false, List, [], ◌∷◌, ◌++◌, length, drop, get_or, Some, Result, Ok, Err, refl, sym, ap, subst, ◌∙◌, append_assoc, arith}
use Rattle.std.specs.Prelude.{OnOk}
use Rattle.std.specs.List.{AllByRecursion}
use Rattle.dns_message.specs.declared.names.fault.Fault.{Fault}
use Rattle.std.proofs.lemmas.List.{append-nil, length-append, get_or-drop}
use Rattle.std.proofs.lemmas.Bool.{le-ltb}
use Rattle.dns_message.specs.declared.reading.header.Header.{Header}
use Rattle.dns_message.specs.Values.{Question, Record, Message}
use Rattle.dns_message.specs.Numbers.{number16, number32}
use Rattle.dns_message.specs.Names.{NameAt}
use Rattle.dns_message.specs.Data.{DataAt, IsShaped}
use Rattle.dns_message.specs.Header.{flag, header_in, header_of, FitsBits}
use Rattle.dns_message.specs.Records.{QuestionAt, RecordAt, InRow}
use Rattle.dns_message.specs.Messages.{Spells, HasShapes}
use Rattle.dns_message.specs.Writing.{Text, Writing, as_is, after, ◌▹◌, each, octets16, octets32, name_text, question_text, head_text, record_text, data_text, with_length, bit, flags_of, header_text, message_text, written}
use Rattle.dns_message.specs.declared.writing.writer.Writer.{Writer}
use Rattle.dns_message.specs.Writer.{Writes, IsEmpty, Puts}
use Rattle.dns_message.specs.Written.{IsQuestion, IsRecord, IsMessage, IsCounted}
use Rattle.dns_message.proofs.writing.WriterLaws.{after_both}
use Rattle.dns_message.proofs.writing.WriterMessages.{nothing, written_after, lists_short}
use Rattle.dns_message.proofs.writing.RoundTrip.{Begins, begins_back, begins_long, behind_as_is, after_length, PlacesStand, stands_known, name_stands, name_places, as_is_stands}
use Rattle.dns_message.proofs.writing.RoundTripData.{data_stands}

-- ---- numbers

octet_behind : (all : List ℕ) (o k : ℕ) (xs : List ℕ) → drop o all ≡ xs → get_or all (o + k) 0 ≡ get_or xs k 0
octet_behind all o k xs rest = sym (get_or-drop o all k 0) ∙ ap (λ (x : List ℕ). get_or x k 0) rest

pub number16_stands : (all : List ℕ) (t : Text) (n : ℕ) → n < 65536 → Begins all (after t (as_is (octets16 n))).octets → number16 all (length t.octets) ≡ n
number16_stands all t n small b =
    let o : ℕ = length t.octets in
    let behind = behind_as_is all t (octets16 n) b in
    let plus : o + 0 ≡ o = omega arith in
    let first : get_or all (o + 0) 0 ≡ n / 256 % 256 = octet_behind all o 0 (octets16 n ++ behind.more) behind.rest in
    let second : get_or all (o + 1) 0 ≡ n % 256 = octet_behind all o 1 (octets16 n ++ behind.more) behind.rest in
    rw (sym (ap (λ (k : ℕ). get_or all k 0) plus) ∙ first, second) (omega (arith, small))

pub number32_stands : (all : List ℕ) (t : Text) (n : ℕ) → n < 4294967296 → Begins all (after t (as_is (octets32 n))).octets → number32 all (length t.octets) ≡ n
number32_stands all t n small b =
    let o : ℕ = length t.octets in
    let behind = behind_as_is all t (octets32 n) b in
    let plus : o + 0 ≡ o = omega arith in
    let third_place : o + 2 + 1 ≡ o + 3 = omega arith in
    let first : get_or all (o + 0) 0 ≡ n / 16777216 % 256 = octet_behind all o 0 (octets32 n ++ behind.more) behind.rest in
    let second : get_or all (o + 1) 0 ≡ n / 65536 % 256 = octet_behind all o 1 (octets32 n ++ behind.more) behind.rest in
    let third : get_or all (o + 2) 0 ≡ n / 256 % 256 = octet_behind all o 2 (octets32 n ++ behind.more) behind.rest in
    let fourth : get_or all (o + 3) 0 ≡ n % 256 = octet_behind all o 3 (octets32 n ++ behind.more) behind.rest in
    rw (sym (ap (λ (k : ℕ). get_or all k 0) plus) ∙ first, second, third, ap (λ (k : ℕ). get_or all k 0) third_place ∙ fourth) (omega (arith, small))

-- ---- questions

pub question_stands : (all : List ℕ) (q : Question) (t : Text) → IsQuestion q → PlacesStand all t → Begins all (after t (question_text q)).octets
    → QuestionAt all (length t.octets) q (length (after t (question_text q)).octets) × PlacesStand all (after t (question_text q))
question_stands all q t is stand b =
    let t1 : Text = after t (name_text q.name) in
    let t2 : Text = after t1 (as_is (octets16 q.kind)) in
    let t3 : Text = after t2 (as_is (octets16 q.class)) in
    let same : after t (question_text q) ≡ t3 = after_both t (name_text q.name ▹ as_is (octets16 q.kind)) (as_is (octets16 q.class)) ∙ ap (λ (x : Text). after x (as_is (octets16 q.class))) (after_both t (name_text q.name) (as_is (octets16 q.kind))) in
    let b3 : Begins all t3.octets = rw same at b in
    let b2 : Begins all t2.octets = begins_back all t2 (as_is (octets16 q.class)) b3 in
    let b1 : Begins all t1.octets = begins_back all t1 (as_is (octets16 q.kind)) b2 in
    let long2 : length t2.octets ≡ length t1.octets + 2 = after_length t1 (octets16 q.kind) in
    let long3 : length t3.octets ≡ length t2.octets + 2 = after_length t2 (octets16 q.class) in
    let class : number16 all (length t2.octets) ≡ q.class = number16_stands all t2 q.class is.class b3 in
    rw same (
      record {
        after = length t1.octets;
        name = name_stands all q.name t (length t.octets) is.name.each (stands_known all t q.name stand) b1;
        fits = is.name.short;
        there = omega (arith, long2, long3, begins_long all t3.octets b3);
        kind = sym (number16_stands all t1 q.kind is.kind b2);
        class = sym (rw long2 at class);
        ends = omega (arith, long2, long3);
      },
      as_is_stands all t2 (octets16 q.class) (as_is_stands all t1 (octets16 q.kind) (name_places all q.name t stand is.name.each b1)),
    )

-- ---- records

-- data with its length is the length, followed by the data
with_length_is : (t : Text) (w : Writing) → after t (with_length w) ≡ after (after t (as_is (octets16 (length (w t.places (length t.octets + 2)).octets)))) w
unfolding after with_length
with_length_is t w =
    let text : List ℕ = (w t.places (length t.octets + 2)).octets in
    rw (append-nil t.places, length-append t.octets (octets16 (length text)), append_assoc t.octets (octets16 (length text)) text) refl

-- the written head is laid out, and the places stay
record HeadStands (all : List ℕ) (r : Record) (t h : Text) : Type 0 where
  after : ℕ
  owner : NameAt all (length t.octets) (length t.octets) r.owner after
  long : length h.octets ≡ after + 8
  kind : r.kind ≡ number16 all after
  class : r.class ≡ number16 all (after + 2)
  ttl : r.ttl ≡ number32 all (after + 4)
  places : PlacesStand all h

head_stands : (all : List ℕ) (r : Record) (t : Text) → IsRecord r → PlacesStand all t → Begins all (after t (head_text r)).octets → HeadStands all r t (after t (head_text r))
head_stands all r t is stand b =
    let t1 : Text = after t (name_text r.owner) in
    let t2 : Text = after t1 (as_is (octets16 r.kind)) in
    let t3 : Text = after t2 (as_is (octets16 r.class)) in
    let t4 : Text = after t3 (as_is (octets32 r.ttl)) in
    let one : after t (name_text r.owner ▹ as_is (octets16 r.kind)) ≡ t2 = after_both t (name_text r.owner) (as_is (octets16 r.kind)) in
    let two : after t (name_text r.owner ▹ as_is (octets16 r.kind) ▹ as_is (octets16 r.class)) ≡ t3 =
    after_both t (name_text r.owner ▹ as_is (octets16 r.kind)) (as_is (octets16 r.class)) ∙ ap (λ (x : Text). after x (as_is (octets16 r.class))) one in
    let same : after t (head_text r) ≡ t4 = after_both t (name_text r.owner ▹ as_is (octets16 r.kind) ▹ as_is (octets16 r.class)) (as_is (octets32 r.ttl)) ∙ ap (λ (x : Text). after x (as_is (octets32 r.ttl))) two in
    let b4 : Begins all t4.octets = rw same at b in
    let b3 : Begins all t3.octets = begins_back all t3 (as_is (octets32 r.ttl)) b4 in
    let b2 : Begins all t2.octets = begins_back all t2 (as_is (octets16 r.class)) b3 in
    let b1 : Begins all t1.octets = begins_back all t1 (as_is (octets16 r.kind)) b2 in
    let long2 : length t2.octets ≡ length t1.octets + 2 = after_length t1 (octets16 r.kind) in
    let long3 : length t3.octets ≡ length t1.octets + 4 = omega (arith, after_length t2 (octets16 r.class), long2) in
    let long4 : length t4.octets ≡ length t1.octets + 8 = omega (arith, after_length t3 (octets32 r.ttl), long3) in
    let class : number16 all (length t2.octets) ≡ r.class = number16_stands all t2 r.class is.class b3 in
    let ttl : number32 all (length t3.octets) ≡ r.ttl = number32_stands all t3 r.ttl is.ttl b4 in
    rw same (record {
      after = length t1.octets;
      owner = name_stands all r.owner t (length t.octets) is.owner.each (stands_known all t r.owner stand) b1;
      long = long4;
      kind = sym (number16_stands all t1 r.kind is.kind b2);
      class = sym (rw long2 at class);
      ttl = sym (rw long3 at ttl);
      places = as_is_stands all t3 (octets32 r.ttl) (as_is_stands all t2 (octets16 r.class) (as_is_stands all t1 (octets16 r.kind) (name_places all r.owner t stand is.owner.each b1)));
    })

data_length : (h : Text) (w : Writing) → length (after (after h (as_is (octets16 (length (w h.places (length h.octets + 2)).octets)))) w).octets
    ≡ length (after h (as_is (octets16 (length (w h.places (length h.octets + 2)).octets)))).octets + length (w h.places (length h.octets + 2)).octets
unfolding after
data_length h w =
    let front : List ℕ = h.octets ++ octets16 (length (w h.places (length h.octets + 2)).octets) in
    length-append front (w (h.places ++ []) (length front)).octets ∙ ap (λ (k : ℕ). length front + k) (rw (append-nil h.places, length-append h.octets (octets16 (length (w h.places (length h.octets + 2)).octets))) refl)

pub record_stands : (all : List ℕ) (r : Record) (t : Text) → length all ≤ 65535 → IsRecord r × IsShaped r.kind r.rdata → PlacesStand all t → Begins all (after t (record_text r)).octets
    → RecordAt all (length t.octets) r (length (after t (record_text r)).octets) × PlacesStand all (after t (record_text r))
record_stands all r t short (is, shaped) stand b =
    let h : Text = after t (head_text r) in
    let w : Writing = data_text r.kind r.rdata in
    let n : ℕ = length (w h.places (length h.octets + 2)).octets in
    let t5 : Text = after h (as_is (octets16 n)) in
    let t6 : Text = after t5 w in
    let same : after t (record_text r) ≡ t6 = after_both t (head_text r) (with_length w) ∙ with_length_is h w in
    let b6 : Begins all t6.octets = rw same at b in
    let b5 : Begins all t5.octets = begins_back all t5 w b6 in
    let head = head_stands all r t is stand (begins_back all h (as_is (octets16 n)) b5) in
    let long5 : length t5.octets ≡ head.after + 10 = omega (arith, after_length h (octets16 n), head.long) in
    let long6 : length t6.octets ≡ length t5.octets + n = data_length h w in
    let inside = begins_long all t6.octets b6 in
    let counted : number16 all (head.after + 8) ≡ n = rw (← head.long) (number16_stands all h n (omega (arith, long6, inside, short)) b5) in
    let places5 = as_is_stands all h (octets16 n) head.places in
    let stands = data_stands r.kind r.rdata all t5 n shaped places5 b6 long6 in
    let P : ℕ → ℕ → Type 0 = λ o len. DataAt r.kind all o len r.rdata in
    let rdata : DataAt r.kind all (head.after + 10) (number16 all (head.after + 8)) r.rdata = rw (counted, ← long5) stands.0 in
    rw same (
      record {
        after = head.after;
        owner = head.owner;
        fits = is.owner.short;
        there = omega (arith, long5, long6, inside);
        kind = head.kind;
        class = head.class;
        ttl = head.ttl;
        rdata = rdata;
        ends = omega (arith, long5, long6, counted);
      },
      stands.1,
    )

-- ---- lists

abbrev pub ElementStands : {X : Type 0} → (List ℕ) → (X → Type 0) → (ℕ → X → ℕ → Type 0) → (X → Writing) → Type 0
ElementStands {X} all Is At text = (x : X) (t : Text) → Is x → PlacesStand all t → Begins all (after t (text x)).octets → At (length t.octets) x (length (after t (text x)).octets) × PlacesStand all (after t (text x))

row_stands : {X : Type 0} (all : List ℕ) (Is : X → Type 0) (At : ℕ → X → ℕ → Type 0) (text : X → Writing) → ElementStands all Is At text → (xs : List X) (t : Text) → AllByRecursion Is xs → PlacesStand all t → Begins all (after t (each text xs)).octets
    → InRow At (length t.octets) xs (length (after t (each text xs)).octets) × PlacesStand all (after t (each text xs))
unfolding each
row_stands all Is At text element [] t is stand b = (after_length t [] ∙ omega arith, as_is_stands all t [] stand)
row_stands all Is At text element (x ∷ xs) t is stand b =
    let t1 : Text = after t (text x) in
    let same : after t (text x ▹ each text xs) ≡ after t1 (each text xs) = after_both t (text x) (each text xs) in
    let b' : Begins all (after t1 (each text xs)).octets = rw same at b in
    let first = element x t is.0 stand (begins_back all t1 (each text xs) b') in
    let others = row_stands all Is At text element xs t1 is.1 first.1 b' in
    rw same ((length t1.octets, first.0, others.0), others.1)

-- ---- the header

flag_is : (x weight : ℕ) (b : Bool) → x / weight % 2 ≡ bit b 1 → flag x weight ≡ b
flag_is x weight true is = rw is refl
flag_is x weight false is = rw is refl

weighed : (b : Bool) (weight : ℕ) → bit b weight ≡ bit b 1 * weight
weighed true weight = omega arith
weighed false weight = omega arith

one_bit : (b : Bool) → bit b 1 ≤ 1
one_bit true = omega arith
one_bit false = omega arith

-- the two octets of the flags
record FlagOctets (h : Header) : Type 0 where
  high : flags_of h / 256 % 256 ≡ bit h.qr 1 * 128 + h.opcode * 8 + bit h.aa 1 * 4 + bit h.tc 1 * 2 + bit h.rd 1
  low : flags_of h % 256 ≡ bit h.ra 1 * 128 + h.z * 16 + h.rcode

octets_high : (n q p a t r v z c : ℕ) → q ≤ 1 → p < 16 → a ≤ 1 → t ≤ 1 → r ≤ 1 → v ≤ 1 → z < 8 → c < 16 → n ≡ q * 32768 + p * 2048 + a * 1024 + t * 512 + r * 256 + v * 128 + z * 16 + c
    → n / 256 % 256 ≡ q * 128 + p * 8 + a * 4 + t * 2 + r
octets_high n q p a t r v z c hq hp ha ht hr hv hz hc is = omega arith

octets_low : (n q p a t r v z c : ℕ) → v ≤ 1 → z < 8 → c < 16 → n ≡ q * 32768 + p * 2048 + a * 1024 + t * 512 + r * 256 + v * 128 + z * 16 + c → n % 256 ≡ v * 128 + z * 16 + c
octets_low n q p a t r v z c hv hz hc is = omega arith

flag_octets : (h : Header) → FitsBits h → FlagOctets h
flag_octets h fits =
    let sum : flags_of h ≡ bit h.qr 1 * 32768 + h.opcode * 2048 + bit h.aa 1 * 1024 + bit h.tc 1 * 512 + bit h.rd 1 * 256 + bit h.ra 1 * 128 + h.z * 16 + h.rcode =
    omega (arith, weighed h.qr 32768, weighed h.aa 1024, weighed h.tc 512, weighed h.rd 256, weighed h.ra 128) in
    record {
      high = octets_high (flags_of h) (bit h.qr 1) h.opcode (bit h.aa 1) (bit h.tc 1) (bit h.rd 1) (bit h.ra 1) h.z h.rcode (one_bit h.qr) fits.opcode (one_bit h.aa) (one_bit h.tc) (one_bit h.rd) (one_bit h.ra) fits.z fits.rcode sum;
      low = octets_low (flags_of h) (bit h.qr 1) h.opcode (bit h.aa 1) (bit h.tc 1) (bit h.rd 1) (bit h.ra 1) h.z h.rcode (one_bit h.ra) fits.z fits.rcode sum;
    }

fields_are : (h : Header) (i : ℕ) (q : Bool) (p : ℕ) (a t r v : Bool) (z c : ℕ) (n : List ℕ) → i ≡ h.id → q ≡ h.qr → p ≡ h.opcode → a ≡ h.aa → t ≡ h.tc → r ≡ h.rd → v ≡ h.ra → z ≡ h.z → c ≡ h.rcode → n ≡ h.counts
    → record { id = i; qr = q; opcode = p; aa = a; tc = t; rd = r; ra = v; z = z; rcode = c; counts = n } ≡ h
fields_are h i q p a t r v z c n ei eq ep ea et er ev ez ec en = rw (ei, eq, ep, ea, et, er, ev, ez, ec, en) refl

header_from : (all : List ℕ) (h : Header) → number16 all 0 ≡ h.id → flag (get_or all 2 0) 128 ≡ h.qr → get_or all 2 0 / 8 % 16 ≡ h.opcode → flag (get_or all 2 0) 4 ≡ h.aa → flag (get_or all 2 0) 2 ≡ h.tc → flag (get_or all 2 0) 1 ≡ h.rd
    → flag (get_or all 3 0) 128 ≡ h.ra → get_or all 3 0 / 16 % 8 ≡ h.z → get_or all 3 0 % 16 ≡ h.rcode → (number16 all 4 ∷ number16 all 6 ∷ number16 all 8 ∷ number16 all 10 ∷ []) ≡ h.counts → header_in all ≡ h
header_from all h i q p a t r v z c n =
    fields_are h (number16 all 0) (flag (get_or all 2 0) 128) (get_or all 2 0 / 8 % 16) (flag (get_or all 2 0) 4) (flag (get_or all 2 0) 2) (flag (get_or all 2 0) 1) (flag (get_or all 3 0) 128) (get_or all 3 0 / 16 % 8) (get_or all 3 0 % 16)
    (number16 all 4 ∷ number16 all 6 ∷ number16 all 8 ∷ number16 all 10 ∷ []) i q p a t r v z c n

abbrev header_octets : Message → List ℕ
header_octets m =
    octets16 m.header.id ++ octets16 (flags_of m.header) ++ octets16 (length m.questions) ++ octets16 (length m.answers) ++ octets16 (length m.authority) ++ octets16 (length m.additional)

abbrev AllShort : Message → Type 0
AllShort m = (length m.questions < 65536) × (length m.answers < 65536) × (length m.authority < 65536) × (length m.additional < 65536)

number_back : (n : ℕ) → n < 65536 → n / 256 % 256 * 256 + n % 256 ≡ n
number_back n small = omega arith

counts_back : (q a n d : ℕ) → q < 65536 → a < 65536 → n < 65536 → d < 65536
    → ((q / 256 % 256 * 256 + q % 256) ∷ (a / 256 % 256 * 256 + a % 256) ∷ (n / 256 % 256 * 256 + n % 256) ∷ (d / 256 % 256 * 256 + d % 256) ∷ []) ≡ q ∷ a ∷ n ∷ d ∷ []
counts_back q a n d hq ha hn hd = rw (number_back q hq, number_back a ha, number_back n hn, number_back d hd) refl

header_whole : (all : List ℕ) (m : Message) → header_in all ≡ m.header → 12 ≤ length all → header_of all ≡ Some m.header
unfolding header_of
header_whole all m is long = rw (le-ltb (length all) 12 long, is) refl

header_by : (all more : List ℕ) (m : Message) → IsMessage m → IsCounted m → length all ≤ 65535 → all ≡ header_octets m ++ more → AllShort m → header_in all ≡ m.header
header_by all more m is counted short whole few =
    let octets = flag_octets m.header is.bits in
    let high : get_or all 2 0 ≡ bit m.header.qr 1 * 128 + m.header.opcode * 8 + bit m.header.aa 1 * 4 + bit m.header.tc 1 * 2 + bit m.header.rd 1 = ap (λ (x : List ℕ). get_or x 2 0) whole ∙ octets.high in
    let low : get_or all 3 0 ≡ bit m.header.ra 1 * 128 + m.header.z * 16 + m.header.rcode = ap (λ (x : List ℕ). get_or x 3 0) whole ∙ octets.low in
    header_from all m.header (ap (λ (x : List ℕ). number16 x 0) whole ∙ omega (arith, is.id))
    (flag_is (get_or all 2 0) 128 m.header.qr (rw high (omega (arith, is.bits.opcode, one_bit m.header.qr, one_bit m.header.aa, one_bit m.header.tc, one_bit m.header.rd))))
    (rw high (omega (arith, is.bits.opcode, one_bit m.header.qr, one_bit m.header.aa, one_bit m.header.tc, one_bit m.header.rd)))
    (flag_is (get_or all 2 0) 4 m.header.aa (rw high (omega (arith, is.bits.opcode, one_bit m.header.qr, one_bit m.header.aa, one_bit m.header.tc, one_bit m.header.rd))))
    (flag_is (get_or all 2 0) 2 m.header.tc (rw high (omega (arith, is.bits.opcode, one_bit m.header.qr, one_bit m.header.aa, one_bit m.header.tc, one_bit m.header.rd))))
    (flag_is (get_or all 2 0) 1 m.header.rd (rw high (omega (arith, is.bits.opcode, one_bit m.header.qr, one_bit m.header.aa, one_bit m.header.tc, one_bit m.header.rd))))
    (flag_is (get_or all 3 0) 128 m.header.ra (rw low (omega (arith, is.bits.z, is.bits.rcode, one_bit m.header.ra))))
    (rw low (omega (arith, is.bits.z, is.bits.rcode, one_bit m.header.ra)))
    (rw low (omega (arith, is.bits.z, is.bits.rcode, one_bit m.header.ra)))
    (ap (λ (x : List ℕ). number16 x 4 ∷ number16 x 6 ∷ number16 x 8 ∷ number16 x 10 ∷ []) whole ∙ counts_back (length m.questions) (length m.answers) (length m.authority) (length m.additional) few.0 few.1 few.2 few.3 ∙ sym counted)

header_here : (m : Message) → (after nothing (header_text m)).octets ≡ header_octets m
unfolding after ◌▹◌
header_here m = refl

header_places : (m : Message) → (after nothing (header_text m)).places ≡ []
unfolding after ◌▹◌
header_places m = refl

-- ---- the whole message

both_all : {X : Type 0} (P Q : X → Type 0) (xs : List X) → AllByRecursion P xs → AllByRecursion Q xs → AllByRecursion (λ x. P x × Q x) xs
both_all P Q [] ps qs = tt
both_all P Q (x ∷ xs) ps qs = ((ps.0, qs.0), both_all P Q xs ps.1 qs.1)

sections : (m : Message) → after nothing (message_text m) ≡ after (after (after (after (after nothing (header_text m)) (each question_text m.questions)) (each record_text m.answers)) (each record_text m.authority)) (each record_text m.additional)
sections m =
    let h : Writing = header_text m in
    let q : Writing = each question_text m.questions in
    let a : Writing = each record_text m.answers in
    let n : Writing = each record_text m.authority in
    let d : Writing = each record_text m.additional in
    after_both nothing (h ▹ q ▹ a ▹ n) d ∙ ap (λ (x : Text). after x d) (after_both nothing (h ▹ q ▹ a) n ∙ ap (λ (x : Text). after x n) (after_both nothing (h ▹ q) a ∙ ap (λ (x : Text). after x a) (after_both nothing h q)))

pub message_spelled : (m : Message) → IsMessage m → IsCounted m → HasShapes m → length (written m) ≤ 65535 → Spells (written m) m
message_spelled m is counted shapes short =
    let all : List ℕ = written m in
    let th : Text = after nothing (header_text m) in
    let tq : Text = after th (each question_text m.questions) in
    let ta : Text = after tq (each record_text m.answers) in
    let tn : Text = after ta (each record_text m.authority) in
    let td : Text = after tn (each record_text m.additional) in
    let whole : all ≡ td.octets = sym (written_after m) ∙ ap (λ (x : Text). x.octets) (sections m) in
    let bd : Begins all td.octets = record { more = []; whole = whole ∙ sym (append-nil td.octets) } in
    let bn : Begins all tn.octets = begins_back all tn (each record_text m.additional) bd in
    let ba : Begins all ta.octets = begins_back all ta (each record_text m.authority) bn in
    let bq : Begins all tq.octets = begins_back all tq (each record_text m.answers) ba in
    let bh : Begins all th.octets = begins_back all th (each question_text m.questions) bq in
    let front : all ≡ header_octets m ++ bh.more = bh.whole ∙ ap (λ (x : List ℕ). x ++ bh.more) (header_here m) in
    let long : length th.octets ≡ 12 = ap length (header_here m) in
    let lists = lists_short m in
    let records : (r : Record) (t : Text) → IsRecord r × IsShaped r.kind r.rdata → PlacesStand all t → Begins all (after t (record_text r)).octets → RecordAt all (length t.octets) r (length (after t (record_text r)).octets) × PlacesStand all (after t (record_text r)) =
    λ r t is' stand b. record_stands all r t short is' stand b in
    let none : PlacesStand all th = rw header_places tt in
    let qs = row_stands all IsQuestion (QuestionAt all) question_text (λ q t is' stand b. question_stands all q t is' stand b) m.questions th is.questions none bq in
    let as_ = row_stands all (λ r. IsRecord r × IsShaped r.kind r.rdata) (RecordAt all) record_text records m.answers tq (both_all IsRecord (λ r. IsShaped r.kind r.rdata) m.answers is.answers shapes.answers) qs.1 ba in
    let ns = row_stands all (λ r. IsRecord r × IsShaped r.kind r.rdata) (RecordAt all) record_text records m.authority ta (both_all IsRecord (λ r. IsShaped r.kind r.rdata) m.authority is.authority shapes.authority) as_.1 bn in
    let ds = row_stands all (λ r. IsRecord r × IsShaped r.kind r.rdata) (RecordAt all) record_text records m.additional tn (both_all IsRecord (λ r. IsShaped r.kind r.rdata) m.additional is.additional shapes.additional) ns.1 bd in
    record {
      header = header_whole all m (header_by all bh.more m is counted short front (omega (arith, lists.0, short), omega (arith, lists.1, short), omega (arith, lists.2, short), omega (arith, lists.3, short))) (omega (arith, begins_long all th.octets bh, long));
      counts = counted;
      questions_end = length tq.octets;
      answers_end = length ta.octets;
      authority_end = length tn.octets;
      additional_end = length td.octets;
      questions = rw (← long) qs.0;
      answers = as_.0;
      authority = ns.0;
      additional = ds.0;
    }

-- a writer's octets at the end spell the message
pub spelled_whole : {A : Type 0} (limit : ℕ) (old new : Writer A) (m : Message) → limit ≤ 65535 → IsEmpty old → Writes old new (message_text m) → length new.octets.items ≤ limit → IsMessage m → IsCounted m → HasShapes m → Spells new.octets.items m
spelled_whole limit old new m le empty step within is counted shapes =
    let whole : new.octets.items ≡ written m = (step nothing empty).octets ∙ written_after m in
    let P : List ℕ → Type 0 = λ bytes. Spells bytes m in
    subst P (sym whole) (message_spelled m is counted shapes (omega (arith, within, le, ap length whole)))

-- a writer's result without a fault spells the message
pub spelled_done : {A : Type 0} (limit : ℕ) (done : Result (Unit {0}) Fault) (old new : Writer A) (m : Message) → limit ≤ 65535 → IsEmpty old → Puts limit done old new (message_text m) (IsMessage m)
    → OnOk done (IsCounted m → HasShapes m → Spells new.octets.items m)
spelled_done limit (Ok x) old new m le empty puts = λ counted shapes. spelled_whole limit old new m le empty puts.0 puts.1 puts.2 counted shapes
spelled_done limit (Err fault) old new m le empty refused = tt
