-- The text in a writer.
use Rattle.std.specs.Prelude.{◌≡◌, ◌≤◌, ◌<◌, ℕ, List, [], ◌∷◌, length, Option, Some, None, Result, Ok, Err, nat_le}
use Rattle.std.specs.Prelude.{◌&&◌, if◌then◌else◌}
use Rattle.std.specs.Borrow.{Bor}
use Rattle.std.specs.Option.{option_map, option_or}
use Rattle.std.specs.Str.{bytes_eq}
use Rattle.std.specs.Ordering.{nat_cmp}
use Rattle.std.specs.Cmp.Lexicographic.{slice_cmp}
use Rattle.std.specs.BTreeMap.{get_by}
use Rattle.dns_name.specs.Labels.{octets_of, labels_of, IsLaidOut}
use Rattle.dns_message.specs.declared.names.fault.Fault.{Fault}
use Rattle.dns_message.specs.declared.names.fault.Fault.TheVariants.{TooLarge, Memory}
use Rattle.dns_message.specs.declared.reading.shape.Part.{Part}
use Rattle.dns_message.specs.declared.reading.shape.Part.TheVariants.{Name}
use Rattle.dns_message.specs.Fields.{Field, named, plain, first_field}
use Rattle.dns_message.specs.declared.writing.pointers.Pointers.{Pointers}
use Rattle.dns_message.specs.declared.writing.writer.Writer.{Writer}
use Rattle.dns_message.specs.Writing.{Text, Writing, place_of, pointer_to, after}

-- a name that begins in the octets, and its pointer
abbrev pub KnownName : Type 0
KnownName = Bor (List ℕ) × ℕ

-- the pointer next to these octets
unfoldable pub pointer_among : List KnownName → List ℕ → Option ℕ
pointer_among [] octets = None
pointer_among (entry ∷ entries) octets = if bytes_eq entry.0.now octets then Some entry.1
    else pointer_among entries octets

-- the pointer to a name with these octets
abbrev pub pointer_known : {A : Type 0} → Pointers A → List ℕ → Option ℕ
pointer_known ps octets = option_or (pointer_among ps.few.items octets)
    (get_by (λ k. slice_cmp nat_cmp octets k.now) ps.many)

-- the pointer to a name that begins in the written octets
abbrev pub pointer_in : {A : Type 0} → Writer A → List ℕ → Option ℕ
pointer_in w octets = pointer_known w.pointers octets

-- known names stay known, and this name is known
abbrev pub IsPointed : {A : Type 0} → Pointers A → Pointers A → List ℕ → ℕ → Type 0
IsPointed old new octets pointer = (other : List ℕ) → pointer_known new other
    ≡ (if bytes_eq octets other then Some pointer else pointer_known old other)

-- known names stay known, and this name is known if a pointer reaches its offset
abbrev pub IsPutIn : {A : Type 0} → Pointers A → Pointers A → List ℕ → ℕ → Type 0
IsPutIn old new octets offset = (other : List ℕ) → pointer_known new other
    ≡ (if nat_le offset 16383 && bytes_eq octets other then Some (pointer_to offset) else pointer_known old other)

-- this is the pointer to a name that is not the root
pub record IsKnown {A : Type 0} (w : Writer A) (octets : List ℕ) (pointer : ℕ) : Type 0 where
  pub is : pointer_in w octets ≡ Some pointer
  pub some : 0 < length octets

-- The writer holds this text: its octets, and for each name that begins in them a pointer to the
-- earliest place.
pub record Holds {A : Type 0} (w : Writer A) (t : Text) : Type 0 where
  pub octets : w.octets.items ≡ t.octets
  pub pointers : (name : List (List ℕ)) → pointer_in w (octets_of name) ≡ option_map pointer_to (place_of t.places name)

-- if the first writer holds a text, the second holds the text, followed by this writing
abbrev pub Writes : {A : Type 0} → Writer A → Writer A → Writing → Type 0
Writes old new written = (t : Text) → Holds old t → Holds new (after t written)

-- the writer holds some text
abbrev pub HoldsText : {A : Type 0} → Writer A → Type 0
HoldsText w = (t : Text) × Holds w t

-- Why a writing is not whole: the text would exceed the limit, or memory ran out.
abbrev pub Refused : {A : Type 0} → ℕ → Fault → Writer A → Writing → Type 0
Refused limit Memory old written = Unit {0}
Refused limit TooLarge old written = (t : Text) → Holds old t → limit < length (after t written).octets
Refused limit fault old written = ⊥

-- a writing with a fact is whole within the limit, or refused
abbrev pub Puts : {A : Type 0} → ℕ → Result (Unit {0}) Fault → Writer A → Writer A → Writing → Type 0 → Type 0
Puts limit (Ok x) old new written fact = Writes old new written × (length new.octets.items ≤ limit) × fact
Puts limit (Err fault) old new written fact = Refused limit fault old written

-- nothing was written
abbrev pub IsEmpty : {A : Type 0} → Writer A → Type 0
IsEmpty w = Holds w (record { octets = []; places = [] })

-- a part with these octets, a name without the final zero
abbrev pub field_in : Part → List ℕ → Field
field_in Name first = named (labels_of first)
field_in part first = plain first

-- the octets are this part, followed by the rest
pub record IsFirst (part : Part) (octets first after : List ℕ) : Type 0 where
  pub is : first_field part octets ≡ Some (field_in part first, after)
  pub laid : part ≡ Name → IsLaidOut first
