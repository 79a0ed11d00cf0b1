-- A name in a message: RFC 1035 4.1.4, with pointers to places before their own run.
use Rattle.std.specs.Prelude.{◌≡◌, ℕ, zero, suc, ◌+◌, ◌-◌, ◌*◌, ◌<◌, ◌≤◌, List, [], ◌∷◌, length, take, drop, Option}
use Rattle.std.specs.Prelude.{Some, None, Result, Ok, Err, nat_lt, nat_le, ◌==◌, if◌then◌else◌, slice_index}
use Rattle.dns_name.specs.Labels.{IsLabel, IsSame, label_octets, lowered}
use Rattle.dns_message.specs.declared.names.fault.Fault.{Fault}
use Rattle.dns_message.specs.declared.names.fault.Fault.TheVariants.{Short, LabelForm, Pointer, NameLong, Rdata}
use Rattle.dns_message.specs.declared.names.walk.Bound.{Bound}
use Rattle.dns_message.specs.declared.names.walk.NameOctet.{NameOctet}
use Rattle.dns_message.specs.declared.names.walk.NameOctet.TheVariants as steps
use Rattle.dns_message.specs.declared.names.walk.NameCursor.{NameCursor}
use Rattle.dns_message.specs.declared.names.walk.NextLabel.{NextLabel}
use Rattle.dns_message.specs.declared.names.walk.NextLabel.TheVariants as nexts
use Rattle.dns_message.specs.Reading.{◌>>=◌}

-- ---- what a name is

-- the target of the pointer at o
abbrev pub target : List ℕ → ℕ → ℕ
target bytes o = (slice_index bytes o - 192) * 256 + slice_index bytes (o + 1)

-- The run of labels began at f, and from o on the name goes on with these labels, and ends before
-- e. A zero octet ends the name, an octet of 1 to 63 begins a label of this length. An octet of 192
-- or more begins a pointer of two octets to a place before f, where a new run begins (RFC 1035
-- 4.1.4).
pub data NameAt (bytes : List ℕ) : ℕ → ℕ → List (List ℕ) → ℕ → Type 0 where
  at_root : {o f e : ℕ} → o < length bytes → slice_index bytes o ≡ 0 → e ≡ o + 1 → NameAt bytes o f [] e
  at_label : {o f e : ℕ} {l : List ℕ} {ls : List (List ℕ)} → 0 < slice_index bytes o → slice_index bytes o < 64
      → o + 1 + slice_index bytes o ≤ length bytes
      → l ≡ take (slice_index bytes o) (drop (o + 1) bytes) → NameAt bytes (o + 1 + slice_index bytes o) f ls e
      → NameAt bytes o f (l ∷ ls) e
  at_pointer : {o f e : ℕ} {e' : ℕ} {ls : List (List ℕ)} → 192 ≤ slice_index bytes o → o + 1 < length bytes
      → target bytes o < f
      → NameAt bytes (target bytes o) (target bytes o) ls e' → e ≡ o + 2 → NameAt bytes o f ls e

-- ---- how it is read, with the first fault

-- the run may go on to the end of the message
abbrev pub whole : List ℕ → Bound
whole bytes = record { stop = length bytes; beyond = Short }

-- the run must end within a record's data, which ends before stop
abbrev pub inside : ℕ → Bound
inside stop = record { stop = stop; beyond = Rdata }

-- the place after this many octets in front of a bound, or the fault beyond it
abbrev pub skipped : Bound → ℕ → ℕ → Result ℕ Fault
skipped bound o count = if nat_lt bound.stop (o + count) then Err bound.beyond else Ok (o + count)

-- the octet at o in a run from f, to end before b, after labels of `used` octets
unfoldable pub step : List ℕ → Bound → ℕ → ℕ → ℕ → Result NameOctet Fault
step bytes b o f used =
    if nat_le b.stop o then Err b.beyond
    else (if slice_index bytes o == 0 then Ok steps.End
    else (if nat_lt (slice_index bytes o) 64
    then (if nat_lt b.stop (o + 1 + slice_index bytes o) then Err b.beyond
    else (if nat_lt 255 (used + slice_index bytes o + 2) then Err NameLong else Ok (steps.Label (slice_index bytes o))))
    else (if nat_lt (slice_index bytes o) 192 then Err LabelForm
    else (if nat_lt b.stop (o + 2) then Err b.beyond
    else (if nat_lt (target bytes o) f then Ok (steps.Pointer (target bytes o)) else Err Pointer)))))

-- the octets at this step
abbrev pub Stays : List ℕ → Bound → ℕ → ℕ → ℕ → NameOctet → Type 0
Stays bytes b o f used steps.End = o < b.stop
Stays bytes b o f used (steps.Label len) = (0 < len) × (len < 64) × (o + 1 + len ≤ b.stop) × (used + len + 2 ≤ 255)
Stays bytes b o f used (steps.Pointer p) = (p < f) × (o + 2 ≤ b.stop)

-- a name read, with a label in front
abbrev pub with_label : List ℕ → Result (List (List ℕ) × ℕ) Fault → Result (List (List ℕ) × ℕ) Fault
with_label l (Ok n) = Ok (l ∷ n.0, n.1)
with_label l (Err fault) = Err fault

-- the name ends here, whatever a pointer led to
abbrev pub ending : ℕ → Result (List (List ℕ) × ℕ) Fault → Result (List (List ℕ) × ℕ) Fault
ending e (Ok n) = Ok (n.0, e)
ending e (Err fault) = Err fault

-- the rest of a name after the octet at its place: the end, a label or a pointer (RFC 1035 4.1.4)
abbrev pub go_on : (Bound → ℕ → ℕ → ℕ → Result (List (List ℕ) × ℕ) Fault) → List ℕ → Bound → ℕ → ℕ → ℕ → NameOctet
    → Result (List (List ℕ) × ℕ) Fault
go_on rest bytes b o f used steps.End = Ok ([], o + 1)
go_on rest bytes b o f used (steps.Label len) =
    with_label (take len (drop (o + 1) bytes)) (rest b (o + 1 + len) f (used + len + 1))
go_on rest bytes b o f used (steps.Pointer p) = ending (o + 2) (rest (whole bytes) p p used)

-- the name from o on, in at most this many labels and pointers
unfoldable pub walk_in : ℕ → List ℕ → Bound → ℕ → ℕ → ℕ → Result (List (List ℕ) × ℕ) Fault
walk_in zero bytes b o f used = Err Short
walk_in (suc k) bytes b o f used = step bytes b o f used >>= go_on
    (λ b' o' f' used'. walk_in k bytes b' o' f' used') bytes b o f used

-- Each label takes of the 255 octets and each pointer leads back, so this number is never passed.
abbrev pub steps_left : ℕ → ℕ → ℕ
steps_left f used = f + (255 - used)

-- the name at a place in a run to end before a bound, and the place after
unfoldable pub name_within : List ℕ → Bound → ℕ → Result (List (List ℕ) × ℕ) Fault
name_within bytes b o = walk_in (steps_left o 0) bytes b o o 0

-- the name at a place, and the place after
abbrev pub name_at : List ℕ → ℕ → Result (List (List ℕ) × ℕ) Fault
name_at bytes o = name_within bytes (whole bytes) o

-- ---- a name that is read in part

-- a name read, with the end of its first pointer, if any
abbrev pub end_of : Option ℕ → Result (List (List ℕ) × ℕ) Fault → Result (List (List ℕ) × ℕ) Fault
end_of None read = read
end_of (Some e) read = ending e read

-- the name read from a cursor on
unfoldable pub resume : List ℕ → NameCursor → Result (List (List ℕ) × ℕ) Fault
resume bytes w = end_of w.end (walk_in (steps_left w.run w.used) bytes w.bound w.offset w.run w.used)

-- the cursor at a pointer's target, after labels of `used` octets
abbrev pub after_labels : List ℕ → ℕ → ℕ → NameCursor
after_labels bytes o used = record { offset = o; run = o; used = used; bound = whole bytes; end = None }

-- the cursor w moves over this label to v
pub record Advances (bytes label : List ℕ) (w v : NameCursor) : Type 0 where
  pub read : resume bytes w ≡ with_label label (resume bytes v)
  pub is_label : IsLabel label
  pub place : length label + 1 ≤ v.offset
  pub octets : take (length label + 1) (drop (v.offset - length label - 1) bytes) ≡ label_octets label
  pub inside : v.offset ≤ length bytes
  pub used : v.used ≡ w.used + length label + 1
  pub room : v.used ≤ 254
  pub stop : v.bound.stop ≤ length bytes
  pub fewer : steps_left v.run v.used < steps_left w.run w.used

-- the result of reading on from the cursor w
abbrev pub Resumes : List ℕ → NameCursor → Result NextLabel Fault → Type 0
Resumes bytes w (Ok (nexts.Label l v)) = Advances bytes l.now w v
Resumes bytes w (Ok (nexts.End e)) = resume bytes w ≡ Ok ([], e)
Resumes bytes w (Err fault) = resume bytes w ≡ Err fault

-- the name read is this name, letter case aside
abbrev pub NameIs : Result (List (List ℕ) × ℕ) Fault → List (List ℕ) → Type 0
NameIs (Ok n) labels = IsSame n.0 labels
NameIs (Err fault) labels = ⊥

-- the key of the name read
abbrev pub keyed : Result (List (List ℕ) × ℕ) Fault → Result (List (List ℕ)) Fault
keyed (Ok n) = Ok (lowered n.0)
keyed (Err fault) = Err fault
