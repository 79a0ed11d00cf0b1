-- The steps of reading a name.
use Rattle.std.proofs.Common.{◌≡◌, ℕ, zero, suc, ◌+◌, ◌-◌, ◌<◌, ◌≤◌, List, [], ◌∷◌, length, take, drop, get_or, Option, Some, None, Result, Ok, Err, refl, sym, ap, subst, ◌∙◌, arith}
use Rattle.std.specs.Prelude.{unwrap_or}
use Rattle.std.proofs.lemmas.List.{length-take, length-drop}
use Rattle.std.proofs.Math.Seq.{drop-cons}
use Rattle.dns_name.specs.Labels.{size_of}
use Rattle.dns_message.specs.declared.names.fault.Fault.{Fault}
use Rattle.dns_message.specs.declared.names.fault.Fault.TheVariants.{NameLong}
use Rattle.dns_message.specs.declared.names.walk.NameOctet.{NameOctet}
use Rattle.dns_message.specs.declared.names.walk.NameOctet.TheVariants as steps
use Rattle.dns_message.specs.declared.names.walk.Bound.{Bound}
use Rattle.dns_message.specs.declared.names.walk.NameCursor.{NameCursor}
use Rattle.dns_message.specs.Reading.{◌>>=◌}
use Rattle.dns_message.specs.Names.{target, NameAt, at_root, at_label, at_pointer, step, Stays, with_label, ending, go_on, walk_in, steps_left, name_within, name_at, whole, end_of, resume, Advances}

abbrev pub did : NameOctet → Result NameOctet Fault
did s = Ok s

pub takes_label : (bytes : List ℕ) (s : Bound) (o f used len : ℕ) → step bytes s o f used ≡ did (steps.Label len) → Stays bytes s o f used (steps.Label len)
unfolding step
takes_label bytes s o f used len e = (grind (arith, e), grind (arith, e), grind (arith, e), grind (arith, e))

pub leads_back : (bytes : List ℕ) (s : Bound) (o f used p : ℕ) → step bytes s o f used ≡ did (steps.Pointer p) → p < f
unfolding step
leads_back bytes s o f used p e = grind (arith, e)

-- ---- the number of allowed steps makes no difference, if large enough

abbrev Enough : ℕ → ℕ → List ℕ → Type 0
Enough k m bytes = (s : Bound) (o f used : ℕ) → used ≤ 254 → steps_left f used ≤ k → steps_left f used ≤ m → walk_in k bytes s o f used ≡ walk_in m bytes s o f used

enough_by : (k m : ℕ) (bytes : List ℕ) → Enough k m bytes → (s : Bound) (o f used : ℕ) → used ≤ 254 → steps_left f used ≤ suc k → steps_left f used ≤ suc m → (r : Result NameOctet Fault) → step bytes s o f used ≡ r
    → (r >>= go_on (λ s' o' f' used'. walk_in k bytes s' o' f' used') bytes s o f used) ≡ (r >>= go_on (λ s' o' f' used'. walk_in m bytes s' o' f' used') bytes s o f used)
enough_by k m bytes rest s o f used le a b (Err e) is = refl
enough_by k m bytes rest s o f used le a b (Ok steps.End) is = refl
enough_by k m bytes rest s o f used le a b (Ok (steps.Label len)) is =
    let t = takes_label bytes s o f used len is in
    ap (with_label (take len (drop (o + 1) bytes))) (rest s (o + 1 + len) f (used + len + 1) (omega (arith, t)) (omega (arith, t)) (omega (arith, t)))
enough_by k m bytes rest s o f used le a b (Ok (steps.Pointer p)) is =
    let lt = leads_back bytes s o f used p is in
    ap (ending (o + 2)) (rest (whole bytes) p p used le (omega (arith, lt)) (omega (arith, lt)))

enough : (k m : ℕ) (bytes : List ℕ) → Enough k m bytes
unfolding walk_in
enough zero m bytes s o f used le a b = absurd (omega arith)
enough (suc k) zero bytes s o f used le a b = absurd (omega arith)
enough (suc k) (suc m) bytes s o f used le a b =
    enough_by k m bytes (λ s' o' f' used' le' a' b'. enough k m bytes s' o' f' used' le' a' b') s o f used le a b (step bytes s o f used) refl

-- ---- a step on the way

-- the reading from w on, given its step
pub resume_step : (bytes : List ℕ) (w : NameCursor) → w.used ≤ 254
    → resume bytes w ≡ end_of w.end (step bytes w.bound w.offset w.run w.used >>= go_on (λ s' o' f' used'. walk_in (w.run + (254 - w.used)) bytes s' o' f' used') bytes w.bound w.offset w.run w.used)
unfolding resume walk_in
resume_step bytes w le =
    let one : steps_left w.run w.used ≡ suc (w.run + (254 - w.used)) = omega arith in
    rw one refl

pub resume_fault : (bytes : List ℕ) (w : NameCursor) (e : Fault) → w.used ≤ 254 → step bytes w.bound w.offset w.run w.used ≡ Err e → resume bytes w ≡ Err e
resume_fault bytes w e le is = resume_step bytes w le ∙ rw is (end_of_err w.end e)
  where
    end_of_err : (end : Option ℕ) (e : Fault) → end_of end (Err e) ≡ Err e
    end_of_err None e = refl
    end_of_err (Some x) e = refl

pub resume_end : (bytes : List ℕ) (w : NameCursor) → w.used ≤ 254 → step bytes w.bound w.offset w.run w.used ≡ did steps.End → resume bytes w ≡ Ok ([], unwrap_or w.end (w.offset + 1))
resume_end bytes w le is = resume_step bytes w le ∙ rw is (end_of_ok w.end (w.offset + 1))
  where
    end_of_ok : (end : Option ℕ) (e : ℕ) → end_of end (Ok ([], e)) ≡ Ok ([], unwrap_or end e)
    end_of_ok None e = refl
    end_of_ok (Some x) e = refl

end_of_label : (end : Option ℕ) (l : List ℕ) (r : Result (List (List ℕ) × ℕ) Fault) → end_of end (with_label l r) ≡ with_label l (end_of end r)
end_of_label None l r = refl
end_of_label (Some e) l (Ok n) = refl
end_of_label (Some e) l (Err f) = refl

end_of_ending : (end : Option ℕ) (e : ℕ) (r : Result (List (List ℕ) × ℕ) Fault) → end_of end (ending e r) ≡ end_of (Some (unwrap_or end e)) r
end_of_ending None e r = refl
end_of_ending (Some x) e (Ok n) = refl
end_of_ending (Some x) e (Err f) = refl

pub resume_label : (bytes : List ℕ) (w : NameCursor) (len : ℕ) → w.used ≤ 254 → step bytes w.bound w.offset w.run w.used ≡ did (steps.Label len)
    → resume bytes w ≡ with_label (take len (drop (w.offset + 1) bytes)) (resume bytes (record { offset = w.offset + 1 + len; run = w.run; used = w.used + len + 1; bound = w.bound; end = w.end }))
unfolding resume
resume_label bytes w len le is =
    let t = takes_label bytes w.bound w.offset w.run w.used len is in
    let same = enough (w.run + (254 - w.used)) (steps_left w.run (w.used + len + 1)) bytes w.bound (w.offset + 1 + len) w.run (w.used + len + 1) (omega (arith, t)) (omega (arith, t)) (omega arith) in
    resume_step bytes w le ∙ rw (is, same) (end_of_label w.end (take len (drop (w.offset + 1) bytes)) (walk_in (steps_left w.run (w.used + len + 1)) bytes w.bound (w.offset + 1 + len) w.run (w.used + len + 1)))

pub resume_pointer : (bytes : List ℕ) (w : NameCursor) (p : ℕ) → w.used ≤ 254 → step bytes w.bound w.offset w.run w.used ≡ did (steps.Pointer p)
    → resume bytes w ≡ resume bytes (record { offset = p; run = p; used = w.used; bound = whole bytes; end = Some (unwrap_or w.end (w.offset + 2)) })
unfolding resume
resume_pointer bytes w p le is =
    let lt = leads_back bytes w.bound w.offset w.run w.used p is in
    let same = enough (w.run + (254 - w.used)) (steps_left p w.used) bytes (whole bytes) p p w.used le (omega (arith, lt)) (omega arith) in
    resume_step bytes w le ∙ rw (is, same) (end_of_ending w.end (w.offset + 2) (walk_in (steps_left p w.used) bytes (whole bytes) p p w.used))

-- ---- the result of reading is a name

abbrev pub read_as : List (List ℕ) → ℕ → Result (List (List ℕ) × ℕ) Fault
read_as ls e = Ok (ls, e)

-- these labels follow, and fit
abbrev Reads : List ℕ → Bound → ℕ → ℕ → ℕ → List (List ℕ) → ℕ → Type 0
Reads bytes s o f used ls e = NameAt bytes o f ls e × (used + size_of ls ≤ 255) × (e ≤ s.stop)

abbrev Sound : ℕ → List ℕ → Type 0
Sound k bytes = (s : Bound) (o f used : ℕ) (ls : List (List ℕ)) (e : ℕ) → s.stop ≤ length bytes → used ≤ 254 → walk_in k bytes s o f used ≡ read_as ls e → Reads bytes s o f used ls e

ok_is : (x y : List (List ℕ) × ℕ) → read_as x.0 x.1 ≡ read_as y.0 y.1 → x ≡ y
ok_is x y e = cc

record LabelParts (l : List ℕ) (ls : List (List ℕ)) (e : ℕ) (r : Result (List (List ℕ) × ℕ) Fault) : Type 0 where
  tail : List (List ℕ)
  all : ls ≡ l ∷ tail
  rest : r ≡ read_as tail e

label_parts : (l : List ℕ) (ls : List (List ℕ)) (e : ℕ) (r : Result (List (List ℕ) × ℕ) Fault) → with_label l r ≡ read_as ls e → LabelParts l ls e r
label_parts l ls e (Ok n) is =
    let p = ok_is (l ∷ n.0, n.1) (ls, e) is in
    record { tail = n.0; all = sym (ap (λ (x : List (List ℕ) × ℕ). x.0) p); rest = ap (λ (x : ℕ). read_as n.0 x) (ap (λ (x : List (List ℕ) × ℕ). x.1) p) }
label_parts l ls e (Err f) is = absurd cc

record EndParts (o : ℕ) (ls : List (List ℕ)) (e : ℕ) (r : Result (List (List ℕ) × ℕ) Fault) : Type 0 where
  far : ℕ
  here : e ≡ o
  rest : r ≡ read_as ls far

end_parts : (o : ℕ) (ls : List (List ℕ)) (e : ℕ) (r : Result (List (List ℕ) × ℕ) Fault) → ending o r ≡ read_as ls e → EndParts o ls e r
end_parts o ls e (Ok n) is =
    let p = ok_is (n.0, o) (ls, e) is in
    record { far = n.1; here = sym (ap (λ (x : List (List ℕ) × ℕ). x.1) p); rest = ap (λ (x : List (List ℕ)). read_as x n.1) (ap (λ (x : List (List ℕ) × ℕ). x.0) p) }
end_parts o ls e (Err f) is = absurd cc

record IsRoot (bytes : List ℕ) (s : Bound) (o : ℕ) : Type 0 where
  within : o < s.stop
  zero_here : get_or bytes o 0 ≡ 0

root_step : (bytes : List ℕ) (s : Bound) (o f used : ℕ) → step bytes s o f used ≡ did steps.End → IsRoot bytes s o
unfolding step
root_step bytes s o f used e = record { within = grind (arith, e); zero_here = grind (arith, e) }

pub label_step : (bytes : List ℕ) (s : Bound) (o f used len : ℕ) → step bytes s o f used ≡ did (steps.Label len) → get_or bytes o 0 ≡ len
unfolding step
label_step bytes s o f used len e = grind (arith, e)

pub advances : (bytes : List ℕ) (first w : NameCursor) (len : ℕ) → step bytes w.bound w.offset w.run w.used ≡ did (steps.Label len) → w.used ≡ first.used → w.run ≤ first.run → w.bound.stop ≤ length bytes
    → resume bytes first ≡ with_label (take len (drop (w.offset + 1) bytes)) (resume bytes (record { offset = w.offset + 1 + len; run = w.run; used = w.used + len + 1; bound = w.bound; end = w.end }))
    → Advances bytes (take len (drop (w.offset + 1) bytes)) first (record { offset = w.offset + 1 + len; run = w.run; used = w.used + len + 1; bound = w.bound; end = w.end })
advances bytes first w len is used back stop read =
    let stays = takes_label bytes w.bound w.offset w.run w.used len is in
    let label : List ℕ = take len (drop (w.offset + 1) bytes) in
    let long : length label ≡ len = omega (arith, length-take len (drop (w.offset + 1) bytes), length-drop (w.offset + 1) bytes, stays) in
    let at : w.offset + 1 + len - length label - 1 ≡ w.offset = omega (arith, long) in
    let more : length label + 1 ≡ suc len = omega (arith, long) in
    let next : w.offset + 1 ≡ suc w.offset = omega arith in
    let opens : drop w.offset bytes ≡ len ∷ drop (w.offset + 1) bytes = drop-cons bytes w.offset 0 (omega (arith, stays)) ∙ rw (label_step bytes w.bound w.offset w.run w.used len is, next) refl in
    record {
      read = read;
      is_label = record { some = omega (arith, long, stays); short = omega (arith, long, stays) };
      place = omega (arith, long);
      octets = rw (at, more, opens, long) refl;
      inside = omega (arith, stays);
      used = omega (arith, long, used);
      room = omega (arith, stays);
      stop = stop;
      fewer = omega (arith, stays, used, back);
    }

record IsPointer (bytes : List ℕ) (s : Bound) (o f p : ℕ) : Type 0 where
  high : 192 ≤ get_or bytes o 0
  within : o + 2 ≤ s.stop
  there : p ≡ target bytes o
  back : p < f

pointer_step : (bytes : List ℕ) (s : Bound) (o f used p : ℕ) → step bytes s o f used ≡ did (steps.Pointer p) → IsPointer bytes s o f p
unfolding step
pointer_step bytes s o f used p e = record { high = grind (arith, e); within = grind (arith, e); there = grind (arith, e); back = grind (arith, e) }

sound_by : (k : ℕ) (bytes : List ℕ) → Sound k bytes → (s : Bound) (o f used : ℕ) (ls : List (List ℕ)) (e : ℕ) → s.stop ≤ length bytes → used ≤ 254 → (r : Result NameOctet Fault) → step bytes s o f used ≡ r
    → (r >>= go_on (λ s' o' f' used'. walk_in k bytes s' o' f' used') bytes s o f used) ≡ read_as ls e → Reads bytes s o f used ls e
sound_by k bytes rest s o f used ls e in_ le (Err fault) is read = absurd cc
sound_by k bytes rest s o f used ls e in_ le (Ok steps.End) is read =
    let here = root_step bytes s o f used is in
    let p = ok_is ([], o + 1) (ls, e) read in
    let none : [] ≡ ls = ap (λ (x : List (List ℕ) × ℕ). x.0) p in
    let P : List (List ℕ) → Type 0 = λ x. Reads bytes s o f used x e in
    subst P none (at_root (omega (arith, here.within, in_)) here.zero_here (sym (ap (λ (x : List (List ℕ) × ℕ). x.1) p)), omega arith, omega (arith, here.within, ap (λ (x : List (List ℕ) × ℕ). x.1) p))
sound_by k bytes rest s o f used ls e in_ le (Ok (steps.Label len)) is read =
    let t = takes_label bytes s o f used len is in
    let first = label_step bytes s o f used len is in
    let parts = label_parts (take len (drop (o + 1) bytes)) ls e (walk_in k bytes s (o + 1 + len) f (used + len + 1)) read in
    let more = rest s (o + 1 + len) f (used + len + 1) parts.tail e in_ (omega (arith, t)) parts.rest in
    let P : List (List ℕ) → Type 0 = λ x. Reads bytes s o f used x e in
    let on : NameAt bytes (o + 1 + get_or bytes o 0) f parts.tail e = rw first more.0 in
    let long : length (take len (drop (o + 1) bytes)) ≡ len = omega (arith, length-take len (drop (o + 1) bytes), length-drop (o + 1) bytes, t) in
    subst P (sym parts.all) (at_label (omega (arith, first, t)) (omega (arith, first, t)) (omega (arith, first, t)) (rw first refl) on, omega (arith, long, more.1), more.2)
sound_by k bytes rest s o f used ls e in_ le (Ok (steps.Pointer p)) is read =
    let here = pointer_step bytes s o f used p is in
    let parts = end_parts (o + 2) ls e (walk_in k bytes (whole bytes) p p used) read in
    let more = rest (whole bytes) p p used ls parts.far (omega arith) le parts.rest in
    let on : NameAt bytes (target bytes o) (target bytes o) ls parts.far = rw (← here.there) more.0 in
    (at_pointer here.high (omega (arith, here.within, in_)) (omega (arith, here.there, here.back)) on parts.here, more.1, omega (arith, here.within, parts.here))

pub sound : (k : ℕ) (bytes : List ℕ) → Sound k bytes
unfolding walk_in
sound zero bytes s o f used ls e in_ le read = absurd cc
sound (suc k) bytes s o f used ls e in_ le read =
    sound_by k bytes (λ s' o' f' used' ls' e' in' le' read'. sound k bytes s' o' f' used' ls' e' in' le' read') s o f used ls e in_ le (step bytes s o f used) refl read

pub within_sound : (bytes : List ℕ) (s : Bound) (o : ℕ) (ls : List (List ℕ)) (e : ℕ) → s.stop ≤ length bytes → name_within bytes s o ≡ read_as ls e → NameAt bytes o o ls e × (size_of ls ≤ 255) × (e ≤ s.stop)
unfolding name_within
within_sound bytes s o ls e in_ read = let h = sound (steps_left o 0) bytes s o o 0 ls e in_ (omega arith) read in (h.0, omega (arith, h.1), h.2)

pub name_sound : (bytes : List ℕ) (o : ℕ) (ls : List (List ℕ)) (e : ℕ) → name_at bytes o ≡ read_as ls e → NameAt bytes o o ls e × (size_of ls ≤ 255)
name_sound bytes o ls e read = let h = within_sound bytes (whole bytes) o ls e (omega arith) read in (h.0, h.1)

-- ---- each name is read

zero_step : (bytes : List ℕ) (s : Bound) (o f used : ℕ) → o < s.stop → get_or bytes o 0 ≡ 0 → step bytes s o f used ≡ did steps.End
unfolding step
zero_step bytes s o f used inside none = grind arith

pub length_step : (bytes : List ℕ) (s : Bound) (o f used : ℕ) → 0 < get_or bytes o 0 → get_or bytes o 0 < 64 → o + 1 + get_or bytes o 0 ≤ s.stop → used + get_or bytes o 0 + 2 ≤ 255
    → step bytes s o f used ≡ did (steps.Label (get_or bytes o 0))
unfolding step
length_step bytes s o f used some short inside room = grind arith

pub long_step : (bytes : List ℕ) (s : Bound) (o f used : ℕ) → 0 < get_or bytes o 0 → get_or bytes o 0 < 64 → o + 1 + get_or bytes o 0 ≤ s.stop → 255 < used + get_or bytes o 0 + 2
    → step bytes s o f used ≡ Err NameLong
unfolding step
long_step bytes s o f used some short inside long = grind arith

pub back_step : (bytes : List ℕ) (s : Bound) (o f used : ℕ) → 192 ≤ get_or bytes o 0 → o + 2 ≤ s.stop → target bytes o < f → step bytes s o f used ≡ did (steps.Pointer (target bytes o))
unfolding step
back_step bytes s o f used high inside back = grind arith

pub some_size : (ls : List (List ℕ)) → 1 ≤ size_of ls
some_size [] = omega arith
some_size (l ∷ ls) = omega (arith, some_size ls)

pub ends_after : (bytes : List ℕ) (o f e : ℕ) (ls : List (List ℕ)) → NameAt bytes o f ls e → (o < e) × (e ≤ length bytes)
ends_after bytes o f e [] (at_root inside none here) = (omega arith, omega arith)
ends_after bytes o f e (l ∷ ls) (at_label some short inside l-is rest) = let h = ends_after bytes (o + 1 + get_or bytes o 0) f e ls rest in (omega (arith, h.0), h.1)
ends_after bytes o f e ls (at_pointer high inside back rest here) = (omega arith, omega arith)

pub complete : (bytes : List ℕ) (k : ℕ) (s : Bound) (o f used e : ℕ) (ls : List (List ℕ)) → e ≤ s.stop → used + size_of ls ≤ 255 → steps_left f used ≤ k → NameAt bytes o f ls e → walk_in k bytes s o f used ≡ read_as ls e
unfolding walk_in
complete bytes zero s o f used e ls stop fits le at = absurd (omega (arith, some_size ls))
complete bytes (suc k) s o f used e [] stop fits le (at_root inside none here) =
    rw (zero_step bytes s o f used (omega arith) none, here) refl
complete bytes (suc k) s o f used e (l ∷ ls) stop fits le (at_label some short inside l-is rest) =
    let len : ℕ = get_or bytes o 0 in
    let long : length l ≡ len = omega (arith, ap length l-is, length-take len (drop (o + 1) bytes), length-drop (o + 1) bytes) in
    let after = ends_after bytes (o + 1 + len) f e ls rest in
    let more = complete bytes k s (o + 1 + len) f (used + len + 1) e ls stop (omega (arith, long)) (omega (arith, long, some_size ls)) rest in
    rw (length_step bytes s o f used some short (omega (arith, after.0)) (omega (arith, long, some_size ls)), more, l-is) refl
complete bytes (suc k) s o f used e ls stop fits le (at_pointer {e' = e'} high inside back rest here) =
    let far = ends_after bytes (target bytes o) (target bytes o) e' ls rest in
    let more = complete bytes k (whole bytes) (target bytes o) (target bytes o) used e' ls far.1 fits (omega arith) rest in
    rw (back_step bytes s o f used high (omega arith) back, more, here) refl

pub within_complete : (bytes : List ℕ) (s : Bound) (o : ℕ) (ls : List (List ℕ)) (e : ℕ) → NameAt bytes o o ls e → size_of ls ≤ 255 → e ≤ s.stop → name_within bytes s o ≡ read_as ls e
unfolding name_within
within_complete bytes s o ls e at fits stop = complete bytes (steps_left o 0) s o o 0 e ls stop (omega arith) (omega arith) at

pub name_complete : (bytes : List ℕ) (o : ℕ) (ls : List (List ℕ)) (e : ℕ) → NameAt bytes o o ls e → size_of ls ≤ 255 → name_at bytes o ≡ read_as ls e
name_complete bytes o ls e at fits = within_complete bytes (whole bytes) o ls e at fits (ends_after bytes o o e ls at).1
