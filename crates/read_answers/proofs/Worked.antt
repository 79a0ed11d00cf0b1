-- Worked seconds, records and sections: for each rule a case, and a failing neighbour.
use Rattle.std.proofs.Common.{◌≡◌, ℕ, List, [], ◌∷◌, ◌++◌, get_or, Option, Some, None, refl, sym, ap, ◌∙◌, subst, arith}
use Rattle.dns_message.specs.Values.{Record}
use Rattle.trust_rank.specs.Values.{Body, rows, no_data, denied}
use Rattle.record_cache.specs.Values.{Held}
use Rattle.step_history.specs.Read.{AreSecondsLeft, AreStaleSeconds, IsRecordOf, AreRecordsOf, IsWholeSet, AreSoaOf}
use Rattle.step_history.specs.Read.{BeginWith, EndWith}

-- some are not none
pub none_of : {X : Type 0} (x : X) (xs : List X) → x ∷ xs ≡ [] → ⊥
none_of x xs is = absurd cc

-- ---- names, data and pieces

-- a name of one letter, below e
abbrev pub name : ℕ → List (List ℕ)
name letter = (letter ∷ []) ∷ (101 ∷ []) ∷ []

-- such a name as data
abbrev pub name_data : ℕ → List ℕ
name_data letter = 1 ∷ letter ∷ 1 ∷ 101 ∷ 0 ∷ []

abbrev pub ip : ℕ → List ℕ
ip last = 198 ∷ 51 ∷ 100 ∷ last ∷ []

-- a piece at this name, accepted at 1020 ms
abbrev pub held : ℕ → Body → Option ℕ → ℕ → Held
held letter body kind lifetime = record {
  piece = record {
    owner = name letter;
    slot = record { key = name letter; class = 1; kind = kind };
    body = body;
    lifetime = lifetime;
    rank = 3;
    route = 0;
  };
  accepted = 1020;
}

-- two addresses of a.e, of 300 seconds
abbrev addresses : Held
addresses = held 97 (rows (ip 5 ∷ ip 6 ∷ [])) (Some 1) 300

-- ---- seconds

-- at 11,520 ms 289.5 seconds are left, and at 301,020 ms none is
half_a_second_over : AreSecondsLeft 11520 addresses 289
half_a_second_over = record {
  over = λ past. omega (arith, past);
  within = λ alive. omega (arith, alive);
  whole = λ alive. omega (arith, alive);
}

rounded_up : AreSecondsLeft 11520 addresses 290 → ⊥
rounded_up h = omega (arith, h.within (omega arith))

one_less : AreSecondsLeft 11520 addresses 288 → ⊥
one_less h = omega (arith, h.whole (omega arith))

expired : AreSecondsLeft 301020 addresses 0
expired = record {
  over = λ _. refl;
  within = λ alive. omega (arith, alive);
  whole = λ alive. omega (arith, alive);
}

expired_with_a_second : AreSecondsLeft 301020 addresses 1 → ⊥
expired_with_a_second h = omega (arith, h.over (omega arith))

-- in an answer with expired data a living piece has its seconds, too, and an expired piece has 30
still_alive : AreStaleSeconds 11520 addresses 289
still_alive = record { alive = λ _. half_a_second_over; expired = λ past. omega (arith, past) }

alive_with_thirty : AreStaleSeconds 11520 addresses 30 → ⊥
alive_with_thirty h = let left = h.alive (omega arith) in omega (arith, left.whole (omega arith))

thirty : AreStaleSeconds 301020 addresses 30
thirty = record { alive = λ alive. omega (arith, alive); expired = λ _. refl }

expired_with_none : AreStaleSeconds 301020 addresses 0 → ⊥
expired_with_none h = omega (arith, h.expired (omega arith))

-- ---- a record

abbrev address : ℕ → ℕ → Record
address ttl last = record { owner = name 97; kind = 1; class = 1; ttl = ttl; rdata = ip last }

abbrev Left : Held → ℕ → Type 0
Left = AreSecondsLeft 11520

is_record : (last : ℕ) → IsRecordOf Left addresses 1 (ip last) (address 289 last)
is_record last = record { owner = refl; kind_is = refl; class = refl; ttl = half_a_second_over; datum_is = refl }

abbrev first_address : Record
first_address = address 289 5

abbrev letter_of : List (List ℕ) → ℕ
letter_of [] = 0
letter_of (label ∷ labels) = get_or label 0 0

of_another_owner : IsRecordOf Left addresses 1 (ip 5) (record first_address { owner = name 98 }) → ⊥
of_another_owner h = let letters : 98 ≡ 97 = ap letter_of h.owner in omega (arith, letters)

of_another_type : IsRecordOf Left addresses 1 (ip 5) (record first_address { kind = 28 }) → ⊥
of_another_type h = omega (arith, h.kind_is)

of_another_class : IsRecordOf Left addresses 1 (ip 5) (record first_address { class = 3 }) → ⊥
of_another_class h = omega (arith, h.class)

with_its_first_ttl : IsRecordOf Left addresses 1 (ip 5) (address 300 5) → ⊥
with_its_first_ttl h =
    let left : AreSecondsLeft 11520 addresses 300 = h.ttl in
    omega (arith, left.within (omega arith))

of_another_datum : IsRecordOf Left addresses 1 (ip 5) (address 289 6) → ⊥
of_another_datum h =
    let last : 6 ≡ 5 = ap (λ (xs : List ℕ). get_or xs 3 0) h.datum_is in
    omega (arith, last)

-- ---- a set

both_records : IsWholeSet Left addresses (address 289 5 ∷ address 289 6 ∷ [])
both_records = record {
  kind = 1;
  each = ip 5 ∷ ip 6 ∷ [];
  kind_is = refl;
  body = refl;
  are = (is_record 5, (is_record 6, tt));
}

pub rows_of : (a b : List (List ℕ)) → rows a ≡ rows b → a ≡ b
rows_of a b e = cc

-- of a whole set no record is left out
first_alone : IsWholeSet Left addresses (address 289 5 ∷ []) → ⊥
first_alone h = by h.each (rows_of (ip 5 ∷ ip 6 ∷ []) h.each h.body) h.are
  where
    by : (each : List (List ℕ)) → ip 5 ∷ ip 6 ∷ [] ≡ each → AreRecordsOf Left addresses h.kind each (address 289 5 ∷ [])
        → ⊥
    by [] is are = are
    by (x ∷ []) is are = absurd (cc)
    by (x ∷ y ∷ more) is are = are.1

-- nor is there a third
three_records : IsWholeSet Left addresses (address 289 5 ∷ address 289 6 ∷ address 289 7 ∷ []) → ⊥
three_records h = by h.each (rows_of (ip 5 ∷ ip 6 ∷ []) h.each h.body) h.are
  where
    by : (each : List (List ℕ)) → ip 5 ∷ ip 6 ∷ [] ≡ each
        → AreRecordsOf Left addresses h.kind each (address 289 5 ∷ address 289 6 ∷ address 289 7 ∷ []) → ⊥
    by [] is are = are
    by (x ∷ []) is are = absurd (cc)
    by (x ∷ y ∷ []) is are = are.1.1
    by (x ∷ y ∷ z ∷ more) is are = absurd (cc)

-- ---- aliases

abbrev pub alias : ℕ → ℕ → ℕ → Held
alias from to lifetime = held from (rows (name_data to ∷ [])) (Some 5) lifetime

abbrev pub alias_record : ℕ → ℕ → ℕ → Record
alias_record from to ttl = record { owner = name from; kind = 5; class = 1; ttl = ttl; rdata = name_data to }

-- the only record of a piece, and its seconds
pub one_record : (Shown : Held → ℕ → Type 0) (o : Held) (datum : List ℕ) (records : List Record)
    → o.piece.body ≡ rows (datum ∷ []) → IsWholeSet Shown o records
    → (r : Record) × (records ≡ r ∷ []) × Shown o r.ttl
one_record Shown o datum records body h = by h.each (rows_of (datum ∷ []) h.each (sym body ∙ h.body)) records h.are
  where
    by : (each : List (List ℕ)) → datum ∷ [] ≡ each → (records : List Record) → AreRecordsOf Shown o h.kind each records
        → (r : Record) × (records ≡ r ∷ []) × Shown o r.ttl
    by [] is records are = absurd (cc)
    by (x ∷ []) is [] are = absurd are
    by (x ∷ []) is (r ∷ []) are = (r, refl, are.0.ttl)
    by (x ∷ []) is (r ∷ s ∷ more) are = absurd are.1
    by (x ∷ y ∷ more) is records are = absurd (cc)

-- a first piece with a single record has the first record, and the next pieces have the rest
pub first_record : (Shown : Held → ℕ → Type 0) (o : Held) (os : List Held) (datum : List ℕ) (r : Record)
    (records rest : List Record) → o.piece.body ≡ rows (datum ∷ []) → BeginWith Shown (o ∷ os) (r ∷ records) rest
    → Shown o r.ttl × BeginWith Shown os records rest
first_record Shown o os datum r records rest body h =
    let one = one_record Shown o datum h.0 body h.3 in
    let all : r ∷ records ≡ one.0 ∷ h.1 = h.2 ∙ ap (λ (z : List Record). z ++ h.1) one.1 in
    let same : one.0 ≡ r = cc in
    let others : h.1 ≡ records = cc in (
      subst (λ (x : Record). Shown o x.ttl) same one.2,
      subst (λ (z : List Record). BeginWith Shown os z rest) others h.4,
    )

-- an alias of 60 seconds
left_of_alias : AreSecondsLeft 11520 (alias 97 98 60) 49
left_of_alias = record {
  over = λ past. omega (arith, past);
  within = λ alive. omega (arith, alive);
  whole = λ alive. omega (arith, alive);
}

abbrev after_alias : ℕ → List Record
after_alias ttl = alias_record 97 98 ttl ∷ address 289 5 ∷ []

begins : BeginWith Left (alias 97 98 60 ∷ []) (after_alias 49) (address 289 5 ∷ [])
begins = (
  alias_record 97 98 49 ∷ [],
  address 289 5 ∷ [],
  refl,
  record {
    kind = 5;
    each = name_data 98 ∷ [];
    kind_is = refl;
    body = refl;
    are = (record { owner = refl; kind_is = refl; class = refl; ttl = left_of_alias; datum_is = refl }, tt);
  },
  refl,
)

begins_with_the_first_ttl : BeginWith Left (alias 97 98 60 ∷ []) (after_alias 60) (address 289 5 ∷ []) → ⊥
begins_with_the_first_ttl h =
    let first = first_record Left (alias 97 98 60) [] (name_data 98) (alias_record 97 98 60) (address 289 5 ∷ [])
    (address 289 5 ∷ []) refl h in
    let left : AreSecondsLeft 11520 (alias 97 98 60) 60 = first.0 in
    omega (arith, left.within (omega arith))

begins_and_ends_otherwise : BeginWith Left (alias 97 98 60 ∷ []) (after_alias 49) [] → ⊥
begins_and_ends_otherwise h =
    let first = first_record Left (alias 97 98 60) [] (name_data 98) (alias_record 97 98 49) (address 289 5 ∷ [])
    [] refl h in
    absurd (let wrong : address 289 5 ∷ [] ≡ [] = first.1 in cc)

begins_without_the_alias : BeginWith Left (alias 97 98 60 ∷ []) [] [] → ⊥
begins_without_the_alias h =
    let one = one_record Left (alias 97 98 60) (name_data 98) h.0 refl h.3 in
    absurd (let wrong : [] ≡ one.0 ∷ h.1 = h.2 ∙ ap (λ (z : List Record). z ++ h.1) one.1 in cc)

-- ---- the last piece of a chain

abbrev pub soa : Record
soa = record { owner = (101 ∷ []) ∷ []; kind = 6; class = 1; ttl = 3600; rdata = [] }

abbrev missing : Held
missing = held 97 (denied (Some soa)) None 300

abbrev aged_soa : ℕ → Record
aged_soa ttl = record soa { ttl = ttl }

soa_is_aged : AreSoaOf 11520 missing (Some soa) (aged_soa 289 ∷ [])
soa_is_aged = (
  aged_soa 289,
  refl,
  record {
    owner = refl;
    kind_is = refl;
    class = refl;
    ttl = record {
      over = λ past. omega (arith, past);
      within = λ alive. omega (arith, alive);
      whole = λ alive. omega (arith, alive);
    };
    data_are = refl;
  },
)

-- the SOA does not come with its own TTL
soa_as_it_came : AreSoaOf 11520 missing (Some soa) (aged_soa 3600 ∷ []) → ⊥
soa_as_it_came h =
    let is : aged_soa 3600 ≡ h.0 = (let one : aged_soa 3600 ∷ [] ≡ h.0 ∷ [] = h.1 in cc) in
    let ttl : 3600 ≡ h.0.ttl = ap (λ (r : Record). r.ttl) is in
    omega (arith, ttl, h.2.ttl.within (omega arith))

error_is_shown : EndWith 11520 missing (denied (Some soa)) [] (aged_soa 289 ∷ []) 3
error_is_shown = (refl, soa_is_aged, refl)

error_without_its_code : EndWith 11520 missing (denied (Some soa)) [] (aged_soa 289 ∷ []) 0 → ⊥
error_without_its_code h = omega (arith, h.2)

error_without_its_soa : EndWith 11520 missing (denied (Some soa)) [] [] 3 → ⊥
error_without_its_soa h = absurd (let wrong : [] ≡ h.1.0 ∷ [] = h.1.1 in cc)

no_data_with_code : EndWith 11520 missing (no_data (Some soa)) [] (aged_soa 289 ∷ []) 3 → ⊥
no_data_with_code h = omega (arith, h.2)

set_is_shown : EndWith 11520 addresses (rows (ip 5 ∷ ip 6 ∷ [])) (address 289 5 ∷ address 289 6 ∷ []) [] 0
set_is_shown = (both_records, refl, refl)

set_with_authority : EndWith 11520 addresses (rows (ip 5 ∷ ip 6 ∷ [])) (address 289 5 ∷ address 289 6 ∷ [])
    (soa ∷ []) 0 → ⊥
set_with_authority h = absurd (let wrong : soa ∷ [] ≡ [] = h.1 in cc)
