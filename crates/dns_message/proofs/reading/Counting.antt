-- A loop over counted items.
use Rattle.std.proofs.Common.{◌≡◌, ℕ, suc, ◌+◌, ◌-◌, ◌<◌, ◌≤◌, List, [], ◌∷◌, ◌++◌, Result, Ok, Err, refl, sym, ap, ◌∙◌, append_assoc, arith}
use Rattle.std.proofs.lemmas.List.{append-nil}
use Rattle.dns_name.proofs.PlainValues.CallerLemmas.{fault_of_part}
use Rattle.dns_message.specs.declared.names.fault.Fault.{Fault}
use Rattle.dns_message.specs.Reading.{◌>>=◌, wants_memory, Fails, end_read}
use Rattle.dns_message.specs.Records.{with_first, counted}

-- the rest after i of count
left : (count i : ℕ) → i < count → count - i ≡ suc (count - (i + 1))
left count i lt = omega arith

none_left : (count i : ℕ) → count ≤ i → count - i ≡ 0
none_left count i le = omega arith

-- ---- the items read so far, before the rest

abbrev pub after_these : {X : Type 0} → List X → Result (List X × ℕ) Fault → Result (List X × ℕ) Fault
after_these front (Ok x) = Ok (front ++ x.0, x.1)
after_these front (Err f) = Err f

pub after_none : {X : Type 0} (r : Result (List X × ℕ) Fault) → after_these [] r ≡ r
after_none (Ok x) = refl
after_none (Err f) = refl

regroup : {X : Type 0} (front : List X) (x : X) (r : Result (List X × ℕ) Fault) → after_these front (with_first x r) ≡ after_these (front ++ x ∷ []) r
regroup {X = X} front x (Ok others) = ap (λ (xs : List X). Ok (xs, others.1)) (sym (append_assoc front (x ∷ []) others.0))
regroup front x (Err f) = refl

pub read_more : {X : Type 0} (front : List X) (read : ℕ → Result (X × ℕ) Fault) (count i o after : ℕ) (x : X) → i < count → read o ≡ Ok (x, after)
    → after_these front (counted read (count - i) o) ≡ after_these (front ++ x ∷ []) (counted read (count - (i + 1)) after)
unfolding counted
read_more front read count i o after x lt is = rw (left count i lt, is) (regroup front x (counted read (count - (i + 1)) after))

fault_here : {X : Type 0} (front : List X) (read : ℕ → Result (X × ℕ) Fault) (count i o : ℕ) (f : Fault) → i < count → read o ≡ Err f → after_these front (counted read (count - i) o) ≡ Err f
unfolding counted
fault_here front read count i o f lt is = rw (left count i lt, is) refl

pub read_fails : {X : Type 0} (e : Fault) (front : List X) (read : ℕ → Result (X × ℕ) Fault) (count i o : ℕ) (total : Result (List X × ℕ) Fault) → i < count → Fails e (read o)
    → after_these front (counted read (count - i) o) ≡ total → Fails e total
read_fails e front read count i o total lt fails so_far =
    fault_of_part wants_memory e (read o) total (λ is. sym so_far ∙ fault_here front read count i o e lt is) fails

pub read_done : {X : Type 0} (front : List X) (read : ℕ → Result (X × ℕ) Fault) (count i o : ℕ) (total : Result (List X × ℕ) Fault) → count ≤ i → after_these front (counted read (count - i) o) ≡ total
    → total ≡ Ok (front, o)
unfolding counted
read_done {X = X} front read count i o total le so_far =
    let one : after_these front (counted read (count - i) o) ≡ Ok (front, o) = rw (none_left count i le) (ap (λ (xs : List X). Ok (xs, o)) (append-nil front)) in
    sym so_far ∙ one

-- ---- the places of the items alone

keep : {X : Type 0} (x : X) (r : Result (List X × ℕ) Fault) → end_read (with_first x r) ≡ end_read r
keep x (Ok others) = refl
keep x (Err f) = refl

more_by : {X : Type 0} (r : Result (X × ℕ) Fault) (rest : ℕ → Result (List X × ℕ) Fault) (after : ℕ) → end_read r ≡ Ok after → end_read (r >>= λ first. with_first first.0 (rest first.1)) ≡ end_read (rest after)
more_by (Ok x) rest after is = let e : x.1 ≡ after = cc in keep x.0 (rest x.1) ∙ ap (λ (e : ℕ). end_read (rest e)) e
more_by (Err f) rest after is = absurd cc

fault_by : {X : Type 0} (r : Result (X × ℕ) Fault) (rest : ℕ → Result (List X × ℕ) Fault) (f : Fault) → end_read r ≡ Err f → end_read (r >>= λ first. with_first first.0 (rest first.1)) ≡ Err f
fault_by (Ok x) rest f is = absurd cc
fault_by (Err e) rest f is = is

pub skip_more : {X : Type 0} (read : ℕ → Result (X × ℕ) Fault) (count i o after : ℕ) → i < count → end_read (read o) ≡ Ok after → end_read (counted read (count - i) o) ≡ end_read (counted read (count - (i + 1)) after)
unfolding counted
skip_more read count i o after lt is = rw (left count i lt) (more_by (read o) (counted read (count - (i + 1))) after is)

pub skip_fault : {X : Type 0} (read : ℕ → Result (X × ℕ) Fault) (count i o : ℕ) (f : Fault) → i < count → end_read (read o) ≡ Err f → end_read (counted read (count - i) o) ≡ Err f
unfolding counted
skip_fault read count i o f lt is = rw (left count i lt) (fault_by (read o) (counted read (count - (i + 1))) f is)

pub skip_done : {X : Type 0} (read : ℕ → Result (X × ℕ) Fault) (count i o : ℕ) → count ≤ i → end_read (counted read (count - i) o) ≡ Ok o
unfolding counted
skip_done read count i o le = rw (none_left count i le) refl
