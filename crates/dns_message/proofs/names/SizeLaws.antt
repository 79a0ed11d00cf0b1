-- The sizes of names in octets, and the known sizes at pointers' targets.
use Rattle.std.proofs.Common.{◌≡◌, ℕ, zero, suc, ◌+◌, ◌-◌, ◌<◌, ◌≤◌, List, [], ◌∷◌, length, take, drop, get_or, set, replicate, Option, Some, None, Result, Ok, Err, refl, sym, ap, subst, ◌∙◌, arith, ⊎_elim}
use Rattle.std.specs.Prelude.{unwrap_or}
use Rattle.std.proofs.lemmas.List.{length-take, length-drop, get_or-set_other}
use Rattle.std.proofs.lemmas.Grind.{get_or-set_at}
use Rattle.std.proofs.lemmas.Bool.{cases_eq, cases_lt}
use Rattle.dns_name.specs.Labels.{size_of}
use Rattle.dns_message.specs.declared.names.fault.Fault.{Fault}
use Rattle.dns_message.specs.declared.names.fault.Fault.TheVariants.{NameLong}
use Rattle.dns_message.specs.declared.names.walk.NameOctet.TheVariants as steps
use Rattle.dns_message.specs.declared.names.walk.Bound.{Bound}
use Rattle.dns_message.specs.declared.names.walk.NameCursor.{NameCursor}
use Rattle.dns_message.specs.Reading.{end_read}
use Rattle.dns_message.specs.Names.{target, NameAt, at_root, at_label, at_pointer, step, with_label, ending, walk_in, steps_left, whole, end_of, resume, after_labels}
use Rattle.dns_message.specs.Sizes.{size_read, size_after, AreSizes}
use Rattle.dns_message.proofs.names.ShortcutLaws.{get_or-zeros}
use Rattle.dns_message.proofs.names.Loops.{behind_label}
use Rattle.dns_message.proofs.names.NameLaws.{did, takes_label, resume_fault, resume_end, resume_label, resume_pointer, ends_after, some_size, length_step, back_step, long_step, complete, sound}

-- `used` octets more
abbrev pub more : ℕ → Result ℕ Fault → Result ℕ Fault
more k (Ok size) = Ok (k + size)
more k (Err fault) = Err fault

pub more_again : (k j : ℕ) (r : Result ℕ Fault) → more k (more j r) ≡ more (k + j) r
more_again k j (Ok size) = ap (λ (n : ℕ). Ok n) (omega arith)
more_again k j (Err fault) = refl

pub more_none : (r : Result ℕ Fault) → more 0 r ≡ r
more_none (Ok size) = ap (λ (n : ℕ). Ok n) (omega arith)
more_none (Err fault) = refl

pub size_of_label : (l : List ℕ) (r : Result (List (List ℕ) × ℕ) Fault) → size_read (with_label l r) ≡ more (length l + 1) (size_read r)
size_of_label l (Ok n) = refl
size_of_label l (Err fault) = refl

-- the end of the name makes no difference
size_of_end : (end : Option ℕ) (r : Result (List (List ℕ) × ℕ) Fault) → size_read (end_of end r) ≡ size_read r
size_of_end None r = refl
size_of_end (Some e) (Ok n) = refl
size_of_end (Some e) (Err fault) = refl

-- the octets left from a pointer's target on
pub size_from : (bytes : List ℕ) (p used : ℕ) (end : Option ℕ) → size_read (resume bytes (record { offset = p; run = p; used = used; bound = whole bytes; end = end })) ≡ size_after bytes p used
unfolding resume size_after
size_from bytes p used end = size_of_end end (walk_in (steps_left p used) bytes (whole bytes) p p used)

-- ---- a known name, after labels

too_long : (bytes : List ℕ) (k : ℕ) (s : Bound) (o f used e : ℕ) (ls : List (List ℕ)) → e ≤ s.stop → used ≤ 254 → 255 < used + size_of ls → steps_left f used ≤ k → NameAt bytes o f ls e → walk_in k bytes s o f used ≡ Err NameLong
unfolding walk_in
too_long bytes zero s o f used e ls stop room long le at = absurd (omega arith)
too_long bytes (suc k) s o f used e [] stop room long le (at_root inside none here) = absurd (omega arith)
too_long bytes (suc k) s o f used e (l ∷ ls) stop room long le (at_label some short inside l-is rest) =
    let len : ℕ = get_or bytes o 0 in
    let size : length l ≡ len = omega (arith, ap length l-is, length-take len (drop (o + 1) bytes), length-drop (o + 1) bytes) in
    let after = ends_after bytes (o + 1 + len) f e ls rest in
    ⊎_elim
    (λ fits.
    let on = too_long bytes k s (o + 1 + len) f (used + len + 1) e ls stop (omega arith) (omega (arith, size)) (omega arith) rest in
    rw (length_step bytes s o f used some short (omega (arith, after.0)) (omega arith), on) refl)
    (λ no. rw (long_step bytes s o f used some short (omega (arith, after.0)) (omega arith)) refl)
    (cases_lt (used + len + 1) 255)
too_long bytes (suc k) s o f used e ls stop room long le (at_pointer {e' = e'} high inside back rest here) =
    let far = ends_after bytes (target bytes o) (target bytes o) e' ls rest in
    let on = too_long bytes k (whole bytes) (target bytes o) (target bytes o) used e' ls far.1 room long (omega arith) rest in
    rw (back_step bytes s o f used high (omega arith) back, on) refl

-- the name of a size
pub record Sized (bytes : List ℕ) (o f used size : ℕ) : Type 0 where
  pub labels : List (List ℕ)
  pub e : ℕ
  pub at : NameAt bytes o f labels e
  pub is : size_of labels ≡ size
  pub fits : used + size ≤ 255

sized_by : (bytes : List ℕ) (o f used size : ℕ) (r : Result (List (List ℕ) × ℕ) Fault) → used ≤ 254 → walk_in (steps_left f used) bytes (whole bytes) o f used ≡ r → size_read r ≡ Ok size → Sized bytes o f used size
sized_by bytes o f used size (Ok n) room read is =
    let h = sound (steps_left f used) bytes (whole bytes) o f used n.0 n.1 (omega arith) room read in
    let same : size_of n.0 ≡ size = cc in
    record { labels = n.0; e = n.1; at = h.0; is = same; fits = omega (arith, h.1, same) }
sized_by bytes o f used size (Err fault) room read is = absurd cc

pub sized : (bytes : List ℕ) (o used size : ℕ) → used ≤ 254 → size_after bytes o used ≡ Ok size → Sized bytes o o used size
unfolding size_after
sized bytes o used size room is = sized_by bytes o o used size (walk_in (steps_left o used) bytes (whole bytes) o o used) room refl is

pub known_fits : (bytes : List ℕ) (o used size : ℕ) → used ≤ 254 → size_after bytes o 0 ≡ Ok size → used + size ≤ 255 → size_after bytes o used ≡ Ok size
unfolding size_after
known_fits bytes o used size room known fits =
    let n = sized bytes o 0 size (omega arith) known in
    let read = complete bytes (steps_left o used) (whole bytes) o o used n.e n.labels (ends_after bytes o o n.e n.labels n.at).1 (omega (arith, n.is)) (omega arith) n.at in
    ap size_read read ∙ ap (λ (x : ℕ). Ok x) n.is

pub known_long : (bytes : List ℕ) (o used size : ℕ) → used ≤ 254 → size_after bytes o 0 ≡ Ok size → 255 < used + size → size_after bytes o used ≡ Err NameLong
unfolding size_after
known_long bytes o used size room known long =
    let n = sized bytes o 0 size (omega arith) known in
    ap size_read (too_long bytes (steps_left o used) (whole bytes) o o used n.e n.labels (ends_after bytes o o n.e n.labels n.at).1 room (omega (arith, n.is)) (omega arith) n.at)

-- ---- a place on the way

-- a run may begin later
later_run : (bytes : List ℕ) (o f f' e : ℕ) (ls : List (List ℕ)) → f ≤ f' → NameAt bytes o f ls e → NameAt bytes o f' ls e
later_run bytes o f f' e [] le (at_root inside none here) = at_root inside none here
later_run bytes o f f' e (l ∷ ls) le (at_label some short inside l-is rest) = at_label some short inside l-is (later_run bytes (o + 1 + get_or bytes o 0) f f' e ls le rest)
later_run bytes o f f' e ls le (at_pointer high inside back rest here) = at_pointer high inside (omega arith) rest here

-- a size from a run's front on is the size of a name at o
pub size_own : (bytes : List ℕ) (o f used size : ℕ) → f ≤ o → Sized bytes o f used size → size_after bytes o 0 ≡ Ok size
unfolding size_after
size_own bytes o f used size le n =
    let own = later_run bytes o f o n.e n.labels le n.at in
    let read = complete bytes (steps_left o 0) (whole bytes) o o 0 n.e n.labels (ends_after bytes o o n.e n.labels own).1 (omega (arith, n.is, n.fits)) (omega arith) own in
    ap size_read read ∙ ap (λ (x : ℕ). Ok x) n.is

-- ---- the table

pub kept : (bytes sizes : List ℕ) (place value : ℕ) → place < length sizes → AreSizes bytes sizes → (0 < value → size_after bytes place 0 ≡ Ok value) → AreSizes bytes (set sizes place value)
kept bytes sizes place value inside known is o some = ⊎_elim here elsewhere (cases_eq o place)
  where
    here : o ≡ place → size_after bytes o 0 ≡ Ok (get_or (set sizes place value) o 0)
    here at =
        let put : get_or (set sizes place value) o 0 ≡ value = get_or-set_at sizes place o value 0 at inside in
        rw (put, at) (is (subst (λ (n : ℕ). 0 < n) put some))

    elsewhere : (o ≡ place → ⊥) → size_after bytes o 0 ≡ Ok (get_or (set sizes place value) o 0)
    elsewhere other =
        let stays : get_or (set sizes place value) o 0 ≡ get_or sizes o 0 = get_or-set_other sizes place o value 0 other in
        rw stays (known o (subst (λ (n : ℕ). 0 < n) stays some))

-- ---- steps of a measuring walk

-- k octets, and the octets left from w on, are all
abbrev pub Left : List ℕ → NameCursor → ℕ → Result ℕ Fault → Type 0
Left bytes w k all = more k (size_read (resume bytes w)) ≡ all

pub left_first : (bytes : List ℕ) (o used k : ℕ) → k ≡ 0 → Left bytes (after_labels bytes o used) k (size_after bytes o used)
left_first bytes o used k none = rw none (more_none (size_read (resume bytes (after_labels bytes o used))) ∙ size_from bytes o used None)

pub left_fault : (bytes : List ℕ) (w : NameCursor) (k : ℕ) (all : Result ℕ Fault) (fault : Fault) → w.used ≤ 254 → step bytes w.bound w.offset w.run w.used ≡ Err fault → Left bytes w k all → all ≡ Err fault
left_fault bytes w k all fault room is left = sym left ∙ ap (λ (r : Result (List (List ℕ) × ℕ) Fault). more k (size_read r)) (resume_fault bytes w fault room is)

pub left_end : (bytes : List ℕ) (w : NameCursor) (k size : ℕ) (all : Result ℕ Fault) → w.used ≤ 254 → step bytes w.bound w.offset w.run w.used ≡ did steps.End → size ≡ k + 1 → Left bytes w k all → all ≡ Ok size
left_end bytes w k size all room is so left =
    sym left ∙ ap (λ (r : Result (List (List ℕ) × ℕ) Fault). more k (size_read r)) (resume_end bytes w room is) ∙ ap (λ (n : ℕ). Ok n) (sym so)

pub left_label : (bytes : List ℕ) (w : NameCursor) (len k j : ℕ) (all : Result ℕ Fault) → w.used ≤ 254 → w.bound.stop ≤ length bytes → step bytes w.bound w.offset w.run w.used ≡ did (steps.Label len) → j ≡ k + (len + 1) → Left bytes w k all
    → Left bytes (record { offset = w.offset + 1 + len; run = w.run; used = w.used + len + 1; bound = w.bound; end = w.end }) j all
left_label bytes w len k j all room stop is so left =
    let t = takes_label bytes w.bound w.offset w.run w.used len is in
    let label : List ℕ = take len (drop (w.offset + 1) bytes) in
    let long : length label ≡ len = omega (arith, length-take len (drop (w.offset + 1) bytes), length-drop (w.offset + 1) bytes, t) in
    let after : NameCursor = record { offset = w.offset + 1 + len; run = w.run; used = w.used + len + 1; bound = w.bound; end = w.end } in
    let on : size_read (resume bytes w) ≡ more (len + 1) (size_read (resume bytes after)) =
    ap size_read (resume_label bytes w len room is) ∙ size_of_label label (resume bytes after) ∙ ap (λ (n : ℕ). more (n + 1) (size_read (resume bytes after))) long in
    rw so (sym (more_again k (len + 1) (size_read (resume bytes after))) ∙ ap (more k) (sym on) ∙ left)

left_at : (bytes : List ℕ) (w : NameCursor) (p : ℕ) → w.used ≤ 254 → step bytes w.bound w.offset w.run w.used ≡ did (steps.Pointer p) → size_read (resume bytes w) ≡ size_after bytes p w.used
left_at bytes w p room is = ap size_read (resume_pointer bytes w p room is) ∙ size_from bytes p w.used (Some (unwrap_or w.end (w.offset + 2)))

pub left_pointer : (bytes : List ℕ) (w : NameCursor) (p k : ℕ) (all : Result ℕ Fault) → w.used ≤ 254 → step bytes w.bound w.offset w.run w.used ≡ did (steps.Pointer p) → Left bytes w k all → Left bytes (after_labels bytes p w.used) k all
left_pointer bytes w p k all room is left = ap (more k) (size_from bytes p w.used None ∙ sym (left_at bytes w p room is)) ∙ left

pub left_known : (bytes : List ℕ) (w : NameCursor) (p known k size : ℕ) (all : Result ℕ Fault) → w.used ≤ 254 → step bytes w.bound w.offset w.run w.used ≡ did (steps.Pointer p) → size_after bytes p 0 ≡ Ok known → w.used + known ≤ 255 → size ≡ k + known
    → Left bytes w k all → all ≡ Ok size
left_known bytes w p known k size all room is so fits sum left =
    sym left ∙ ap (more k) (left_at bytes w p room is ∙ known_fits bytes p w.used known room so fits) ∙ ap (λ (n : ℕ). Ok n) (sym sum)

pub left_long : (bytes : List ℕ) (w : NameCursor) (p known k : ℕ) (all : Result ℕ Fault) → w.used ≤ 254 → step bytes w.bound w.offset w.run w.used ≡ did (steps.Pointer p) → size_after bytes p 0 ≡ Ok known → 255 < w.used + known
    → Left bytes w k all → all ≡ Err NameLong
left_long bytes w p known k all room is so long left =
    sym left ∙ ap (more k) (left_at bytes w p room is ∙ known_long bytes p w.used known room so long)

-- the rest of the name at a walk's place, as a name at o
pub record Here (bytes : List ℕ) (o used size : ℕ) : Type 0 where
  pub own : size_after bytes o 0 ≡ Ok (size - used)
  pub short : size ≤ 255
  pub some : used < size

left_here_by : (bytes : List ℕ) (o f used size : ℕ) (r : Result (List (List ℕ) × ℕ) Fault) → f ≤ o → used ≤ 254 → walk_in (steps_left f used) bytes (whole bytes) o f used ≡ r → more used (size_read r) ≡ Ok size → Here bytes o used size
left_here_by bytes o f used size (Ok n) back room read is =
    let sum : used + size_of n.0 ≡ size = cc in
    let here = sized_by bytes o f used (size_of n.0) (Ok n) room read refl in
    let left : size_of n.0 ≡ size - used = omega arith in
    record {
      own = size_own bytes o f used (size_of n.0) back here ∙ ap (λ (x : ℕ). Ok x) left;
      short = omega (arith, here.fits);
      some = omega (arith, some_size n.0);
    }
left_here_by bytes o f used size (Err fault) back room read is = absurd cc

pub left_here : (bytes : List ℕ) (w : NameCursor) (size : ℕ) → w.bound ≡ whole bytes → w.run ≤ w.offset → w.used ≤ 254 → Left bytes w w.used (Ok size) → Here bytes w.offset w.used size
unfolding resume
left_here bytes w size bound back room left =
    let read : more w.used (size_read (walk_in (steps_left w.run w.used) bytes w.bound w.offset w.run w.used)) ≡ Ok size = ap (more w.used) (sym (size_of_end w.end (walk_in (steps_left w.run w.used) bytes w.bound w.offset w.run w.used))) ∙ left in
    let P : Bound → Type 0 = λ b. more w.used (size_read (walk_in (steps_left w.run w.used) bytes b w.offset w.run w.used)) ≡ Ok size in
    left_here_by bytes w.offset w.run w.used size (walk_in (steps_left w.run w.used) bytes (whole bytes) w.offset w.run w.used) back room refl (subst P bound read)

-- ---- a skipped name

pub skipped : (r : Result (List (List ℕ) × ℕ) Fault) (e size : ℕ) → size_read r ≡ Ok size → end_read (ending e r) ≡ Ok e
skipped (Ok n) e size is = refl
skipped (Err fault) e size is = absurd cc

pub not_skipped : (r : Result (List (List ℕ) × ℕ) Fault) (e : ℕ) (fault : Fault) → size_read r ≡ Err fault → end_read (ending e r) ≡ Err fault
not_skipped (Ok n) e fault is = absurd cc
not_skipped (Err other) e fault is = cc

-- after the octets read so far, the name ends here
abbrev pub Skips : List ℕ → NameCursor → Result ℕ Fault → Type 0
Skips bytes w all = end_read (resume bytes w) ≡ all

pub skip_fault : (bytes : List ℕ) (w : NameCursor) (fault : Fault) (all : Result ℕ Fault) → w.used ≤ 254 → step bytes w.bound w.offset w.run w.used ≡ Err fault → Skips bytes w all → Err fault ≡ all
skip_fault bytes w fault all room is read = sym (ap end_read (resume_fault bytes w fault room is)) ∙ read

pub skip_end : (bytes : List ℕ) (w : NameCursor) (all : Result ℕ Fault) → w.used ≤ 254 → w.end ≡ None → step bytes w.bound w.offset w.run w.used ≡ did steps.End → Skips bytes w all → Ok (w.offset + 1) ≡ all
skip_end bytes w all room own is read =
    let here : unwrap_or w.end (w.offset + 1) ≡ w.offset + 1 = ap (λ (x : Option ℕ). unwrap_or x (w.offset + 1)) own in
    sym (ap (λ (n : ℕ). Ok n) here) ∙ sym (ap end_read (resume_end bytes w room is)) ∙ read

pub skip_label : (bytes : List ℕ) (w : NameCursor) (len : ℕ) (all : Result ℕ Fault) → w.used ≤ 254 → step bytes w.bound w.offset w.run w.used ≡ did (steps.Label len) → Skips bytes w all
    → Skips bytes (record { offset = w.offset + 1 + len; run = w.run; used = w.used + len + 1; bound = w.bound; end = w.end }) all
skip_label bytes w len all room is read =
    let after : NameCursor = record { offset = w.offset + 1 + len; run = w.run; used = w.used + len + 1; bound = w.bound; end = w.end } in
    sym (ap end_read (resume_label bytes w len room is) ∙ behind_label (take len (drop (w.offset + 1) bytes)) (resume bytes after)) ∙ read

skip_at : (bytes : List ℕ) (w : NameCursor) (p : ℕ) → w.used ≤ 254 → w.end ≡ None → step bytes w.bound w.offset w.run w.used ≡ did (steps.Pointer p)
    → end_read (resume bytes w) ≡ end_read (ending (w.offset + 2) (walk_in (steps_left p w.used) bytes (whole bytes) p p w.used))
unfolding resume
skip_at bytes w p room own is =
    ap end_read (resume_pointer bytes w p room is) ∙ ap (λ (x : Option ℕ). end_read (ending (unwrap_or x (w.offset + 2)) (walk_in (steps_left p w.used) bytes (whole bytes) p p w.used))) own

pub skip_pointer : (bytes : List ℕ) (w : NameCursor) (p size : ℕ) (all : Result ℕ Fault) → w.used ≤ 254 → w.end ≡ None → step bytes w.bound w.offset w.run w.used ≡ did (steps.Pointer p) → size_after bytes p w.used ≡ Ok size → Skips bytes w all → Ok (w.offset + 2) ≡ all
unfolding size_after
skip_pointer bytes w p size all room own is sized read =
    sym (skip_at bytes w p room own is ∙ skipped (walk_in (steps_left p w.used) bytes (whole bytes) p p w.used) (w.offset + 2) size sized) ∙ read

pub skip_lost : (bytes : List ℕ) (w : NameCursor) (p : ℕ) (fault : Fault) (all : Result ℕ Fault) → w.used ≤ 254 → w.end ≡ None → step bytes w.bound w.offset w.run w.used ≡ did (steps.Pointer p) → size_after bytes p w.used ≡ Err fault → Skips bytes w all → Err fault ≡ all
unfolding size_after
skip_lost bytes w p fault all room own is lost read =
    sym (skip_at bytes w p room own is ∙ not_skipped (walk_in (steps_left p w.used) bytes (whole bytes) p p w.used) (w.offset + 2) fault lost) ∙ read

-- ---- the contents of the table

pub known_at : (bytes sizes : List ℕ) (o size : ℕ) → AreSizes bytes sizes → (0 < size) × (size ≡ get_or sizes o 0) → size_after bytes o 0 ≡ Ok size
known_at bytes sizes o size known is =
    let some : 0 < get_or sizes o 0 = omega (arith, is.0, is.1) in
    known o some ∙ ap (λ (n : ℕ). Ok n) (sym is.1)

pub measured : (bytes : List ℕ) (o used size : ℕ) → used ≤ 254 → size_after bytes o used ≡ Ok size → size_after bytes o 0 ≡ Ok size
measured bytes o used size room is = size_own bytes o o used size (omega arith) (sized bytes o used size room is)

-- no size is known yet
pub none_known : (bytes : List ℕ) (n : ℕ) → AreSizes bytes (replicate n 0)
none_known bytes n o some = absurd (omega (arith, get_or-zeros n o, some))

pub none_kept : (bytes : List ℕ) → AreSizes bytes []
none_kept bytes o some = absurd (omega (arith, some))
