-- The parts of a record's data, one after another.
use Rattle.std.proofs.Common.{◌≡◌, ℕ, ◌+◌, ◌<◌, ◌≤◌, List, [], ◌++◌, length, take, drop, get_or, set, Bool, true, false, cond, Result, Ok, Err, refl, sym, ap, ◌∙◌, append_assoc, arith}
use Rattle.std.specs.Prelude.{nat_lt}
use Rattle.std.proofs.lemmas.List.{drop_more, drop_all, append-nil, take_more_set}
use Rattle.dns_name.proofs.PlainValues.CallerLemmas.{fault_of_part}
use Rattle.dns_message.specs.declared.names.fault.Fault.{Fault}
use Rattle.dns_message.specs.declared.names.fault.Fault.TheVariants.{Rdata}
use Rattle.dns_message.specs.declared.reading.shape.Part.{Part}
use Rattle.dns_message.specs.Reading.{◌>>=◌, wants_memory, Fails, end_read}
use Rattle.dns_name.specs.Labels.{octets_of, labels_of}
use Rattle.dns_message.specs.Runs.{Begins}
use Rattle.dns_message.specs.Names.{inside, skipped}
use Rattle.dns_message.specs.Data.{octets_within, written_out, prefixed, part_at, parts_at}

-- ---- parts read

prefixed_twice : (a b : List ℕ) (r : Result (List ℕ × ℕ) Fault) → prefixed a (prefixed b r) ≡ prefixed (a ++ b) r
prefixed_twice a b (Ok x) = ap (λ (octets : List ℕ). Ok (octets, x.1)) (sym (append_assoc a b x.0))
prefixed_twice a b (Err fault) = refl

pub prefixed_none : (r : Result (List ℕ × ℕ) Fault) → prefixed [] r ≡ r
prefixed_none (Ok x) = refl
prefixed_none (Err fault) = refl

-- a name's labels in data, and the final zero octet
pub written_name : (front octets : List ℕ) (count end : ℕ) (read : Result (List (List ℕ) × ℕ) Fault) → count < length octets → Begins octets count end read → prefixed front (written_out read) ≡ Ok (front ++ take (count + 1) (set octets count 0), end)
written_name front octets count end read inside b =
    let text : octets_of (labels_of (take count octets)) ≡ take count octets = b.laid.whole in
    rw (b.labels, take_more_set octets count 0 inside, text) refl

pub written_fault : (front : List ℕ) (read : Result (List (List ℕ) × ℕ) Fault) (fault : Fault) → read ≡ Err fault → prefixed front (written_out read) ≡ Err fault
written_fault front read fault is = rw is refl

more_by : (front new : List ℕ) (after : ℕ) (r : Result (List ℕ × ℕ) Fault) (rest : ℕ → Result (List ℕ × ℕ) Fault) → prefixed front r ≡ Ok (new, after) → prefixed front (r >>= λ first. prefixed first.0 (rest first.1)) ≡ prefixed new (rest after)
more_by front new after (Ok x) rest is =
    let whole : (front ++ x.0, x.1) ≡ (new, after) = cc in
    prefixed_twice front x.0 (rest x.1) ∙ ap (λ (p : List ℕ × ℕ). prefixed p.0 (rest p.1)) whole
more_by front new after (Err fault) rest is = absurd cc

pub read_more : (front new : List ℕ) (parts : List Part) (i : ℕ) (d : Part) (bytes : List ℕ) (stop o after : ℕ) → i < length parts → prefixed front (part_at (get_or parts i d) bytes stop o) ≡ Ok (new, after)
    → prefixed front (parts_at (drop i parts) bytes stop o) ≡ prefixed new (parts_at (drop (i + 1) parts) bytes stop after)
unfolding parts_at
read_more front new parts i d bytes stop o after lt is =
    rw (drop_more parts i d lt) (more_by front new after (part_at (get_or parts i d) bytes stop o) (λ e. parts_at (drop (i + 1) parts) bytes stop e) is)

fault_by : (front : List ℕ) (r : Result (List ℕ × ℕ) Fault) (rest : ℕ → Result (List ℕ × ℕ) Fault) (fault : Fault) → prefixed front r ≡ Err fault → prefixed front (r >>= λ first. prefixed first.0 (rest first.1)) ≡ Err fault
fault_by front (Ok x) rest fault is = absurd cc
fault_by front (Err e) rest fault is = is

read_fault : (front : List ℕ) (parts : List Part) (i : ℕ) (d : Part) (bytes : List ℕ) (stop o : ℕ) (fault : Fault) → i < length parts → prefixed front (part_at (get_or parts i d) bytes stop o) ≡ Err fault
    → prefixed front (parts_at (drop i parts) bytes stop o) ≡ Err fault
unfolding parts_at
read_fault front parts i d bytes stop o fault lt is =
    rw (drop_more parts i d lt) (fault_by front (part_at (get_or parts i d) bytes stop o) (λ e. parts_at (drop (i + 1) parts) bytes stop e) fault is)

pub read_fails : (fault : Fault) (front : List ℕ) (parts : List Part) (i : ℕ) (d : Part) (bytes : List ℕ) (stop o : ℕ) (total : Result (List ℕ × ℕ) Fault) → i < length parts
    → Fails fault (prefixed front (part_at (get_or parts i d) bytes stop o)) → prefixed front (parts_at (drop i parts) bytes stop o) ≡ total → Fails fault total
read_fails fault front parts i d bytes stop o total lt fails so_far =
    fault_of_part wants_memory fault (prefixed front (part_at (get_or parts i d) bytes stop o)) total (λ is. sym so_far ∙ read_fault front parts i d bytes stop o fault lt is) fails

-- the parts, all read, have to fill the data
pub parts_full : (parts : List Part) (i : ℕ) (bytes : List ℕ) (stop o : ℕ) → length parts ≤ i → o ≡ stop → parts_at (drop i parts) bytes stop o ≡ Ok ([], o)
unfolding parts_at
parts_full parts i bytes stop o le same = rw (drop_all i parts le) (grind arith)

pub parts_short : (parts : List Part) (i : ℕ) (bytes : List ℕ) (stop o : ℕ) → length parts ≤ i → (o ≡ stop → ⊥) → parts_at (drop i parts) bytes stop o ≡ Err Rdata
unfolding parts_at
parts_short parts i bytes stop o le other = rw (drop_all i parts le) (grind arith)

pub read_done : (front : List ℕ) (parts : List Part) (i : ℕ) (bytes : List ℕ) (stop o : ℕ) (total : Result (List ℕ × ℕ) Fault) → length parts ≤ i → o ≡ stop
    → prefixed front (parts_at (drop i parts) bytes stop o) ≡ total → total ≡ Ok (front, o)
read_done front parts i bytes stop o total le same so_far =
    sym so_far ∙ ap (prefixed front) (parts_full parts i bytes stop o le same) ∙ ap (λ (octets : List ℕ). Ok (octets, o)) (append-nil front)

pub read_short : (front : List ℕ) (parts : List Part) (i : ℕ) (bytes : List ℕ) (stop o : ℕ) (total : Result (List ℕ × ℕ) Fault) → length parts ≤ i → (o ≡ stop → ⊥)
    → prefixed front (parts_at (drop i parts) bytes stop o) ≡ total → total ≡ Err Rdata
read_short front parts i bytes stop o total le other so_far =
    sym so_far ∙ ap (prefixed front) (parts_short parts i bytes stop o le other)

-- ---- parts skipped

-- kept octets end like skipped octets
pub octets_behind : (bytes : List ℕ) (stop o count : ℕ) → end_read (octets_within bytes stop o count) ≡ skipped (inside stop) o count
unfolding octets_within
octets_behind bytes stop o count = by_test (nat_lt stop (o + count))
  where
    by_test : (beyond : Bool) → end_read (cond beyond (Err Rdata) (Ok (take count (drop o bytes), o + count))) ≡ cond beyond (Err Rdata) (Ok (o + count))
    by_test true = refl
    by_test false = refl

pub behind_prefixed : (front : List ℕ) (r : Result (List ℕ × ℕ) Fault) → end_read (prefixed front r) ≡ end_read r
behind_prefixed front (Ok x) = refl
behind_prefixed front (Err fault) = refl

skip_by : (r : Result (List ℕ × ℕ) Fault) (rest : ℕ → Result (List ℕ × ℕ) Fault) (after : ℕ) → end_read r ≡ Ok after → end_read (r >>= λ first. prefixed first.0 (rest first.1)) ≡ end_read (rest after)
skip_by (Ok x) rest after is = let e : x.1 ≡ after = cc in behind_prefixed x.0 (rest x.1) ∙ ap (λ (e : ℕ). end_read (rest e)) e
skip_by (Err fault) rest after is = absurd cc

pub skip_more : (parts : List Part) (i : ℕ) (d : Part) (bytes : List ℕ) (stop o after : ℕ) → i < length parts → end_read (part_at (get_or parts i d) bytes stop o) ≡ Ok after
    → end_read (parts_at (drop i parts) bytes stop o) ≡ end_read (parts_at (drop (i + 1) parts) bytes stop after)
unfolding parts_at
skip_more parts i d bytes stop o after lt is = rw (drop_more parts i d lt) (skip_by (part_at (get_or parts i d) bytes stop o) (λ e. parts_at (drop (i + 1) parts) bytes stop e) after is)

no_skip : (r : Result (List ℕ × ℕ) Fault) (rest : ℕ → Result (List ℕ × ℕ) Fault) (fault : Fault) → end_read r ≡ Err fault → end_read (r >>= λ first. prefixed first.0 (rest first.1)) ≡ Err fault
no_skip (Ok x) rest fault is = absurd cc
no_skip (Err e) rest fault is = is

pub skip_fault : (parts : List Part) (i : ℕ) (d : Part) (bytes : List ℕ) (stop o : ℕ) (fault : Fault) → i < length parts → end_read (part_at (get_or parts i d) bytes stop o) ≡ Err fault
    → end_read (parts_at (drop i parts) bytes stop o) ≡ Err fault
unfolding parts_at
skip_fault parts i d bytes stop o fault lt is = rw (drop_more parts i d lt) (no_skip (part_at (get_or parts i d) bytes stop o) (λ e. parts_at (drop (i + 1) parts) bytes stop e) fault is)

pub skip_done : (parts : List Part) (i : ℕ) (bytes : List ℕ) (stop o : ℕ) → length parts ≤ i → o ≡ stop → end_read (parts_at (drop i parts) bytes stop o) ≡ Ok o
skip_done parts i bytes stop o le same = ap end_read (parts_full parts i bytes stop o le same)

pub skip_short : (parts : List Part) (i : ℕ) (bytes : List ℕ) (stop o : ℕ) → length parts ≤ i → (o ≡ stop → ⊥) → end_read (parts_at (drop i parts) bytes stop o) ≡ Err Rdata
skip_short parts i bytes stop o le other = ap end_read (parts_short parts i bytes stop o le other)
