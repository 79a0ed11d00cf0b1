-- The records of sets, written set after set.
use Rattle.std.proofs.Common.{◌≡◌, ℕ, ◌+◌, ◌<◌, ◌≤◌, List, [], ◌∷◌, ◌++◌, length, take, get_or, refl, sym, ap, subst, ◌∙◌, arith}
use Rattle.std.specs.Prelude.{Result, Ok, Err}
use Rattle.std.specs.List.{AllByRecursion}
use Rattle.std.proofs.lemmas.List.{append-nil, length-append, length-map, take_more}
use Rattle.std.proofs.lemmas.List.Folds.{length-flat_map-take}
use Rattle.std.proofs.lemmas.Grind.{flat_map-append}
use Rattle.dns_message.specs.declared.names.fault.Fault.{Fault}
use Rattle.dns_message.specs.declared.names.fault.Fault.TheVariants.{Short, LabelForm, Pointer, NameLong, Rdata, TooLarge, Memory, NoQuestion}
use Rattle.dns_message.specs.Values.{Record}
use Rattle.dns_message.specs.declared.writing.writer.Writer.{Writer}
use Rattle.dns_message.specs.Writing.{Text, Writing, as_is, after, ◌▹◌, each, record_text}
use Rattle.dns_message.specs.Written.{IsRecord}
use Rattle.dns_message.specs.Borrowed.{record_of, records_of, records_in, data_of}
use Rattle.dns_message.specs.declared.writing.borrowed.DataRef.{DataRef}
use Rattle.dns_message.specs.Writer.{Writes, Puts, Refused}
use Rattle.dns_message.proofs.writing.WriterLaws.{after_both, writes_nothing}

-- ---- writings with equal texts

-- after any text, both give equal texts
abbrev pub SameText : Writing → Writing → Type 0
SameText a b = (t : Text) → after t a ≡ after t b

pub same_written : {A : Type 0} (old new : Writer A) (a b : Writing) → SameText a b → Writes old new a → Writes old new b
same_written old new a b same step t h = rw (← same t) (step t h)

pub same_refused : {A : Type 0} (limit : ℕ) (fault : Fault) (old : Writer A) (a b : Writing) → SameText a b → Refused limit fault old a → Refused limit fault old b
same_refused limit Memory old a b same refused = tt
same_refused limit TooLarge old a b same refused = λ t h. rw (← same t) (refused t h)
same_refused limit Short old a b same refused = absurd refused
same_refused limit LabelForm old a b same refused = absurd refused
same_refused limit Pointer old a b same refused = absurd refused
same_refused limit NameLong old a b same refused = absurd refused
same_refused limit Rdata old a b same refused = absurd refused
same_refused limit NoQuestion old a b same refused = absurd refused

after_nothing : (t : Text) → after t (as_is []) ≡ t
unfolding after
after_nothing t = rw (append-nil t.octets, append-nil t.places) refl

-- ---- lists of none and of a single element

pub none_written : {A X : Type 0} (w : Writer A) (text : X → Writing) → Writes w w (each text [])
unfolding each
none_written w text = writes_nothing w

one_text : {X : Type 0} (text : X → Writing) (x : X) → SameText (text x) (each text (x ∷ []))
unfolding each
one_text text x t = sym (after_both t (text x) (as_is []) ∙ after_nothing (after t (text x)))

pub one_written : {A X : Type 0} (old new : Writer A) (text : X → Writing) (x : X) → Writes old new (text x) → Writes old new (each text (x ∷ []))
one_written old new text x step = same_written old new (text x) (each text (x ∷ [])) (one_text text x) step

pub one_refused : {A X : Type 0} (limit : ℕ) (fault : Fault) (old : Writer A) (text : X → Writing) (x : X) → Refused limit fault old (text x) → Refused limit fault old (each text (x ∷ []))
one_refused limit fault old text x refused = same_refused limit fault old (text x) (each text (x ∷ [])) (one_text text x) refused

-- ---- the rows of a set

abbrev pub row_text : List (List ℕ) → ℕ → ℕ → ℕ → List ℕ → Writing
row_text owner kind class ttl rdata = record_text (record_of owner kind class ttl rdata)

abbrev pub IsRow : List (List ℕ) → ℕ → ℕ → ℕ → List ℕ → Type 0
IsRow owner kind class ttl rdata = IsRecord (record_of owner kind class ttl rdata)

pub rows_text : (owner : List (List ℕ)) (kind class ttl : ℕ) (rows : List (List ℕ)) → each (row_text owner kind class ttl) rows ≡ each record_text (records_of owner kind class ttl rows)
unfolding each
rows_text owner kind class ttl [] = refl
rows_text owner kind class ttl (row ∷ rows) = ap (λ (rest : Writing). record_text (record_of owner kind class ttl row) ▹ rest) (rows_text owner kind class ttl rows)

pub all_rows : (owner : List (List ℕ)) (kind class ttl : ℕ) (rows : List (List ℕ)) → AllByRecursion (IsRow owner kind class ttl) rows → AllByRecursion IsRecord (records_of owner kind class ttl rows)
all_rows owner kind class ttl [] all = tt
all_rows owner kind class ttl (row ∷ rows) all = (all.0, all_rows owner kind class ttl rows all.1)

-- the records of a set, from the values of its fields
pub set_of_data : {A : Type 0} (records : List Record) (labels owner : List (List ℕ)) (kind class ttl : ℕ) (from given : DataRef A) → labels ≡ owner → from ≡ given → records_of owner kind class ttl (data_of from) ≡ records
    → records_of labels kind class ttl (data_of given) ≡ records
set_of_data {A = A} records labels owner kind class ttl from given named same is =
    ap (λ (name : List (List ℕ)). records_of name kind class ttl (data_of given)) named ∙ ap (λ (d : DataRef A). records_of owner kind class ttl (data_of d)) (sym same) ∙ is

pub puts_records : {A : Type 0} (limit : ℕ) (r : Result (Unit {0}) Fault) (old new : Writer A) (given records : List Record) → given ≡ records
    → Puts limit r old new (each record_text given) (AllByRecursion IsRecord given) → Puts limit r old new (each record_text records) (AllByRecursion IsRecord records)
puts_records limit r old new given records same puts = let P : List Record → Type 0 = λ rs. Puts limit r old new (each record_text rs) (AllByRecursion IsRecord rs) in subst P same puts

-- a set of a single record
pub puts_one : {A : Type 0} (limit : ℕ) (r : Result (Unit {0}) Fault) (old new : Writer A) (entry : Record)
    → Puts limit r old new (record_text entry) (IsRecord entry) → Puts limit r old new (each record_text (entry ∷ [])) (AllByRecursion IsRecord (entry ∷ []))
puts_one limit (Ok x) old new entry puts = (one_written old new record_text entry puts.0, puts.1, (puts.2, tt))
puts_one limit (Err fault) old new entry puts = one_refused limit fault old record_text entry puts

-- ---- a set after another

more_text : {X : Type 0} (text : X → Writing) (xs ys : List X) → SameText (each text xs ▹ each text ys) (each text (xs ++ ys))
unfolding each
more_text text [] ys t = after_both t (as_is []) (each text ys) ∙ ap (λ (u : Text). after u (each text ys)) (after_nothing t)
more_text text (x ∷ xs) ys t =
    after_both t (text x ▹ each text xs) (each text ys) ∙ ap (λ (u : Text). after u (each text ys)) (after_both t (text x) (each text xs))
    ∙ sym (after_both (after t (text x)) (each text xs) (each text ys)) ∙ more_text text xs ys (after t (text x)) ∙ sym (after_both t (text x) (each text (xs ++ ys)))

pub sets_text : (sets : List (List Record)) → SameText (each (each record_text) sets) (each record_text (records_in sets))
unfolding each
sets_text [] t = refl
sets_text (set ∷ sets) t =
    after_both t (each record_text set) (each (each record_text) sets) ∙ sets_text sets (after t (each record_text set)) ∙ sym (after_both t (each record_text set) (each record_text (records_in sets)))
    ∙ more_text record_text set (records_in sets) t

all_append : {X : Type 0} (P : X → Type 0) (xs ys : List X) → AllByRecursion P xs → AllByRecursion P ys → AllByRecursion P (xs ++ ys)
all_append P [] ys all more = more
all_append P (x ∷ xs) ys all more = (all.0, all_append P xs ys all.1 more)

pub all_sets : (sets : List (List Record)) → AllByRecursion (AllByRecursion IsRecord) sets → AllByRecursion IsRecord (records_in sets)
all_sets [] all = tt
all_sets (set ∷ sets) all = all_append IsRecord set (records_in sets) all.0 (all_sets sets all.1)

-- ---- the number of records

pub set_size : (records : List Record) (owner : List (List ℕ)) (kind class ttl : ℕ) (rows : List (List ℕ)) → records_of owner kind class ttl rows ≡ records → length records ≡ length rows
set_size records owner kind class ttl rows is = sym (ap length is) ∙ length-map rows (record_of owner kind class ttl)

-- the records of the sets up to a set, and of all
counted_push : (before : List (List Record)) (last : List Record) → length (records_in (before ++ last ∷ [])) ≡ length (records_in before) + length last
counted_push before last = rw (flat_map-append (λ (records : List Record). records) before (last ∷ []), append-nil last) (length-append (records_in before) last)

pub counted_more : (sets : List (List Record)) (i : ℕ) (set : List Record) → i < length sets → set ≡ get_or sets i set → length (records_in (take (i + 1) sets)) ≡ length (records_in (take i sets)) + length set
counted_more sets i set lt is = rw (take_more sets i set lt) (rw (← is) (counted_push (take i sets) set))

pub counted_at_least : (sets : List (List Record)) (i : ℕ) (set : List Record) → i < length sets → set ≡ get_or sets i set → length (records_in (take i sets)) + length set ≤ length (records_in sets)
counted_at_least sets i set lt is = omega (arith, length-flat_map-take (λ (records : List Record). records) sets i set lt, ap length is)
