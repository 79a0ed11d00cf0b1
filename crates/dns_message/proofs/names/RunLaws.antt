-- Labels put one after another.
use Rattle.std.proofs.Common.{◌≡◌, ℕ, suc, ◌+◌, ◌≤◌, List, [], ◌∷◌, ◌++◌, length, take, drop, get_or, Result, Ok, Err, refl, sym, ap, ◌∙◌, arith}
use Rattle.std.specs.Prelude.{unwrap_or, Some}
use Rattle.std.proofs.lemmas.List.{length-take, length-drop, length-append, append-nil}
use Rattle.std.proofs.Math.Seq.{drop-cons}
use Rattle.dns_name.specs.Labels.{label_octets, labels_of, IsLabel, IsLaidOut}
use Rattle.dns_name.proofs.CallerLemmas.{labels_of_nothing, no_octets_are_laid_out, label_put_last, labels_joined, size_with_labels}
use Rattle.dns_message.specs.declared.names.fault.Fault.{Fault}
use Rattle.dns_message.specs.declared.names.walk.NameOctet.TheVariants as steps
use Rattle.dns_message.specs.declared.names.walk.NameCursor.{NameCursor}
use Rattle.dns_message.specs.Names.{step, with_label, resume, whole}
use Rattle.dns_message.specs.Shortcuts.{SameRun}
use Rattle.dns_message.specs.Runs.{with_front, Passes, Begins}
use Rattle.dns_message.proofs.names.NameLaws.{did, takes_label, label_step, resume_fault, resume_end, resume_label, resume_pointer}
use Rattle.dns_message.proofs.names.ShortcutLaws.{resume_shortcut}
use Rattle.dns_message.proofs.names.Loops.{front_run, front_none}

-- the octets of a label
label_here : (bytes : List ℕ) (p len : ℕ) → p + 1 + len ≤ length bytes → get_or bytes p 0 ≡ len → take (len + 1) (drop p bytes) ≡ label_octets (take len (drop (p + 1) bytes))
label_here bytes p len inside is =
    let more : len + 1 ≡ suc len = omega arith in
    let next : p + 1 ≡ suc p = omega arith in
    let first : drop p bytes ≡ len ∷ drop (p + 1) bytes = drop-cons bytes p 0 (omega arith) ∙ rw (is, next) refl in
    let long : length (take len (drop (p + 1) bytes)) ≡ len = omega (arith, length-take len (drop (p + 1) bytes), length-drop (p + 1) bytes) in
    rw (more, first, long) refl

label_alone : (l : List ℕ) (r : Result (List (List ℕ) × ℕ) Fault) → with_label l r ≡ with_front (l ∷ []) r
label_alone l (Ok n) = refl
label_alone l (Err fault) = refl

-- a label is read
pub passes_label : (bytes : List ℕ) (w : NameCursor) (len : ℕ) → w.used ≤ 254 → w.bound.stop ≤ length bytes → step bytes w.bound w.offset w.run w.used ≡ did (steps.Label len)
    → Passes bytes (take (len + 1) (drop w.offset bytes)) w (record { offset = w.offset + 1 + len; run = w.run; used = w.used + len + 1; bound = w.bound; end = w.end })
passes_label bytes w len room stop is =
    let t = takes_label bytes w.bound w.offset w.run w.used len is in
    let label : List ℕ = take len (drop (w.offset + 1) bytes) in
    let inside : w.offset + 1 + len ≤ length bytes = omega (arith, stop, t) in
    let text : take (len + 1) (drop w.offset bytes) ≡ label_octets label = label_here bytes w.offset len inside (label_step bytes w.bound w.offset w.run w.used len is) in
    let long : length label ≡ len = omega (arith, length-take len (drop (w.offset + 1) bytes), length-drop (w.offset + 1) bytes, inside) in
    let one : IsLabel label = record { some = omega (arith, long, t); short = omega (arith, long, t) } in
    let grown = label_put_last [] (label_octets label) label no_octets_are_laid_out one (omega (arith, one.short)) refl in
    let alone : labels_of (label_octets label) ≡ label ∷ [] = grown.labels ∙ rw labels_of_nothing refl in
    let after : NameCursor = record { offset = w.offset + 1 + len; run = w.run; used = w.used + len + 1; bound = w.bound; end = w.end } in
    rw text
    (record {
      read = rw alone (resume_label bytes w len room is ∙ label_alone label (resume bytes after));
      laid = grown.laid;
      used = omega (arith, long);
      room = omega (arith, t);
      stop = stop;
    })

-- ---- labels copied one after another

-- the first of these octets are the labels read so far
pub record Filled (bytes octets : List ℕ) (w : NameCursor) (all : Result (List (List ℕ) × ℕ) Fault) : Type 0 where
  pub read : with_front (labels_of (take w.used octets)) (resume bytes w) ≡ all
  pub laid : IsLaidOut (take w.used octets)
  pub size : length (take w.used octets) ≡ w.used
  pub room : w.used ≤ 254
  pub stop : w.bound.stop ≤ length bytes

pub filled_first : (bytes octets : List ℕ) (w : NameCursor) (all : Result (List (List ℕ) × ℕ) Fault) → w.used ≡ 0 → w.bound.stop ≤ length bytes → resume bytes w ≡ all → Filled bytes octets w all
filled_first bytes octets w all none stop is = record {
  read = ap (λ (n : ℕ). with_front (labels_of (take n octets)) (resume bytes w)) none ∙ ap (λ (ls : List (List ℕ)). with_front ls (resume bytes w)) labels_of_nothing ∙ front_none (resume bytes w) ∙ is;
  laid = rw none no_octets_are_laid_out;
  size = rw none refl;
  room = omega (arith, none);
  stop = stop;
}

pub filled_more : (bytes old new labels : List ℕ) (w v : NameCursor) (all : Result (List (List ℕ) × ℕ) Fault) → Filled bytes old w all → Passes bytes labels w v → take v.used new ≡ take w.used old ++ labels → Filled bytes new v all
filled_more bytes old new labels w v all f p text =
    let both = labels_joined (take w.used old) labels f.laid p.laid (omega (arith, size_with_labels [] (take w.used old) f.laid, labels_of_nothing, f.size, p.used, p.room)) in
    record {
      read = rw (text, both.labels) (sym (front_run (labels_of (take w.used old)) (labels_of labels) (resume bytes v)) ∙ ap (with_front (labels_of (take w.used old))) (sym p.read) ∙ f.read);
      laid = rw text both.laid;
      size = rw text (length-append (take w.used old) labels ∙ omega (arith, f.size, p.used));
      room = p.room;
      stop = p.stop;
    }

-- room for a run's octets after the octets so far
pub room_behind : (octets : List ℕ) (used : ℕ) → length (take used octets) ≡ used → used ≤ length octets
room_behind octets used size = omega (arith, length-take used octets, size)

pub filled_fault : (bytes octets : List ℕ) (w : NameCursor) (all : Result (List (List ℕ) × ℕ) Fault) (fault : Fault) → Filled bytes octets w all → step bytes w.bound w.offset w.run w.used ≡ Err fault → all ≡ Err fault
filled_fault bytes octets w all fault f is = sym f.read ∙ ap (with_front (labels_of (take w.used octets))) (resume_fault bytes w fault f.room is)

pub filled_end : (bytes octets : List ℕ) (w : NameCursor) (all : Result (List (List ℕ) × ℕ) Fault) → Filled bytes octets w all → step bytes w.bound w.offset w.run w.used ≡ did steps.End → Begins octets w.used (unwrap_or w.end (w.offset + 1)) all
filled_end bytes octets w all f is = record {
  labels = sym f.read ∙ ap (with_front (labels_of (take w.used octets))) (resume_end bytes w f.room is) ∙ ap (λ (ls : List (List ℕ)). Ok (ls, unwrap_or w.end (w.offset + 1))) (append-nil (labels_of (take w.used octets)));
  laid = f.laid;
  room = f.room;
}

-- a pointer is followed to the end of its chain
pub filled_on : (bytes octets : List ℕ) (w : NameCursor) (p start : ℕ) (all : Result (List (List ℕ) × ℕ) Fault) → Filled bytes octets w all → step bytes w.bound w.offset w.run w.used ≡ did (steps.Pointer p) → SameRun bytes p start
    → Filled bytes octets (record { offset = start; run = start; used = w.used; bound = whole bytes; end = Some (unwrap_or w.end (w.offset + 2)) }) all
filled_on bytes octets w p start all f is leads =
    let read = resume_pointer bytes w p f.room is in
    let onward = resume_shortcut bytes p start w.used (unwrap_or w.end (w.offset + 2)) leads f.room in
    record {
      read = ap (with_front (labels_of (take w.used octets))) (sym onward ∙ sym read) ∙ f.read;
      laid = f.laid;
      size = f.size;
      room = f.room;
      stop = omega arith;
    }
