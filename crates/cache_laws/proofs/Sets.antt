-- The data and the lifetime of a set.
use Rattle.std.proofs.Common.{◌≡◌, ◌≢◌, ℕ, ◌^◌, ◌≤◌, true, false, cond, ◌⊎◌, inl, inr, List, [], ◌∷◌, ◌++◌}
use Rattle.std.proofs.Common.{Some, refl, sym, ap, ◌∙◌, subst, arith}
use Rattle.std.specs.Prelude.{min, nat_le, ◌==◌, ◌&&◌, ◌||◌}
use Rattle.std.specs.List.{list_any}
use Rattle.std.proofs.lemmas.Bool.{cond-true, cond-false, cond_both, or_parts, and_parts, and_from, eqb-true, eq-eqb}
use Rattle.std.proofs.lemmas.Bool.{false≢true, both_ways, cases_lt}
use Rattle.std.proofs.lemmas.Bool.Decides.{nat_tests}
use Rattle.plain_values.specs.Octets.{same_octets}
use Rattle.plain_values.proofs.CallerLemmas.{same_octets_decides}
use Rattle.dns_name.specs.Labels.{same, IsSame}
use Rattle.dns_name.proofs.CallerLemmas.{same_decides}
use Rattle.dns_message.specs.Values.{Question, Record}
use Rattle.trust_rank.specs.Values.{rows, Piece}
use Rattle.trust_rank.specs.Sets.{is_of, records_for, with_data, with_all_data, seconds_of, lifetime_within, longest}
use Rattle.trust_rank.specs.Sets.{set_with, set_of}
use Rattle.cache_laws.specs.Lists.{IsOneOf, NoneTwice, IsBefore}
use Rattle.cache_laws.specs.Sets.{IsRecordFor, AreDataOf, ComesFirst, AreInOrder, FirstOwns, AreSeconds, HasSeconds}
use Rattle.cache_laws.specs.Sets.{IsLowestTtl, IsSetFrom, TopBitIsNone}
use Rattle.cache_laws.proofs.Lists.{before, behind, one_of_both, only_one, once_more, before_last}

-- ---- repeated data is left out

is_there : (octets : List ℕ) (kept : List (List ℕ)) → list_any (same_octets octets) kept ≡ true → IsOneOf octets kept
is_there octets [] e = absurd (false≢true e)
is_there octets (k ∷ kept) e = (elim (same_octets octets k) as
    (λ b. same_octets octets k ≡ b → (b || list_any (same_octets octets) kept) ≡ true → IsOneOf octets (k ∷ kept)) [
      | true ↦ λ is _. inl ((same_octets_decides octets k).0 is)
      | false ↦ λ _ rest. inr (is_there octets kept rest)
    ]) refl e

is_not_there : (octets : List ℕ) (kept : List (List ℕ)) → list_any (same_octets octets) kept ≡ false
    → IsOneOf octets kept → ⊥
is_not_there octets [] e h = h
is_not_there octets (k ∷ kept) e (inl is) =
    both_ways (same_octets octets k) (or_parts (same_octets octets k) (list_any (same_octets octets) kept) e).0
    ((same_octets_decides octets k).1 is)
is_not_there octets (k ∷ kept) e (inr rest) = is_not_there octets kept
    (or_parts (same_octets octets k) (list_any (same_octets octets) kept) e).1 rest

with_keeps : (kept : List (List ℕ)) (octets x : List ℕ) → IsOneOf x kept → IsOneOf x (with_data kept octets)
with_keeps kept octets x h = cond_both (list_any (same_octets octets) kept) kept (kept ++ octets ∷ []) (IsOneOf x)
    (λ _. h) (λ _. before x kept (octets ∷ []) h)

with_has : (kept : List (List ℕ)) (octets : List ℕ) → IsOneOf octets (with_data kept octets)
with_has kept octets =
    cond_both (list_any (same_octets octets) kept) kept (kept ++ octets ∷ []) (IsOneOf octets)
    (λ t. is_there octets kept t) (λ _. behind octets kept (octets ∷ []) (inl refl))

with_only : (kept : List (List ℕ)) (octets x : List ℕ) → IsOneOf x (with_data kept octets)
    → IsOneOf x kept ⊎ (x ≡ octets)
with_only kept octets x = cond_both (list_any (same_octets octets) kept) kept (kept ++ octets ∷ [])
    (λ (l : List (List ℕ)). IsOneOf x l → IsOneOf x kept ⊎ (x ≡ octets))
    (λ _ h. inl h)
    (λ _ h. elim (one_of_both x kept (octets ∷ []) h) [
      | inl first ↦ inl first
      | inr second ↦ inr (only_one x octets second)
    ])

with_once : (kept : List (List ℕ)) (octets : List ℕ) → NoneTwice kept → NoneTwice (with_data kept octets)
with_once kept octets once =
    cond_both (list_any (same_octets octets) kept) kept (kept ++ octets ∷ []) NoneTwice (λ _. once)
    (λ f. once_more kept octets once (is_not_there octets kept f))

all_keeps : (kept : List (List ℕ)) (records : List Record) (x : List ℕ) → IsOneOf x kept
    → IsOneOf x (with_all_data kept records)
all_keeps kept [] x h = h
all_keeps kept (s ∷ records) x h = all_keeps (with_data kept s.rdata) records x (with_keeps kept s.rdata x h)

all_has : (kept : List (List ℕ)) (records : List Record) (r : Record) → IsOneOf r records
    → IsOneOf r.rdata (with_all_data kept records)
all_has kept [] r h = absurd h
all_has kept (s ∷ records) r (inl e) =
    all_keeps (with_data kept s.rdata) records r.rdata
    (subst (λ (x : Record). IsOneOf x.rdata (with_data kept s.rdata)) (sym e) (with_has kept s.rdata))
all_has kept (s ∷ records) r (inr rest) = all_has (with_data kept s.rdata) records r rest

-- a record of these has this data
record Has (records : List Record) (datum : List ℕ) : Type 0 where
  pub r : Record
  pub there : IsOneOf r records
  pub datum_is : r.rdata ≡ datum

has_more : (s : Record) (records : List Record) (datum : List ℕ) → Has records datum → Has (s ∷ records) datum
has_more s records datum h = record { r = h.r; there = inr h.there; datum_is = h.datum_is }

all_only : (kept : List (List ℕ)) (records : List Record) (x : List ℕ) → IsOneOf x (with_all_data kept records)
    → IsOneOf x kept ⊎ Has records x
all_only kept [] x h = inl h
all_only kept (s ∷ records) x h = elim (all_only (with_data kept s.rdata) records x h) [
  | inl first ↦ elim (with_only kept s.rdata x first) [
    | inl old ↦ inl old
    | inr new ↦ inr (record { r = s; there = inl refl; datum_is = sym new })
  ]
  | inr rest ↦ inr (has_more s records x rest)
]

all_once : (kept : List (List ℕ)) (records : List Record) → NoneTwice kept → NoneTwice (with_all_data kept records)
all_once kept [] once = once
all_once kept (s ∷ records) once = all_once (with_data kept s.rdata) records (with_once kept s.rdata once)

-- ---- the records of a question

pub of_test : (q : Question) (records : List Record) (r : Record) → IsOneOf r records → is_of q r ≡ true
    → IsRecordFor q records r
of_test q records r there e =
    let all = and_parts ((r.kind == q.kind) && (r.class == q.class)) (same r.owner q.name) e in
    let both = and_parts (r.kind == q.kind) (r.class == q.class) all.0 in
    record {
      there = there;
      kind = eqb-true r.kind q.kind both.0;
      class = eqb-true r.class q.class both.1;
      name = (same_decides r.owner q.name).0 all.1;
    }

pub fits_test : (q : Question) (records : List Record) (r : Record) → IsRecordFor q records r → is_of q r ≡ true
fits_test q records r h =
    and_from ((r.kind == q.kind) && (r.class == q.class)) (same r.owner q.name)
    (and_from (r.kind == q.kind) (r.class == q.class) (eq-eqb r.kind q.kind h.kind) (eq-eqb r.class q.class h.class))
    ((same_decides r.owner q.name).1 h.name)

among : (q : Question) (records : List Record) (r : Record) → IsOneOf r (records_for q records)
    → IsOneOf r records × (is_of q r ≡ true)
among q [] r h = absurd h
among q (s ∷ records) r h = (elim (is_of q s) as
    (λ b. is_of q s ≡ b → IsOneOf r (cond b (s ∷ records_for q records) (records_for q records))
    → IsOneOf r (s ∷ records) × (is_of q r ≡ true)) [
      | true ↦ λ is there. elim there [
        | inl e ↦ (inl e, subst (λ (x : Record). is_of q x ≡ true) (sym e) is)
        | inr rest ↦ let more = among q records r rest in (inr more.0, more.1)
      ]
      | false ↦ λ _ there. let more = among q records r there in (inr more.0, more.1)
    ]) refl h

pub for_is : (q : Question) (records : List Record) (r : Record) → IsOneOf r (records_for q records)
    → IsRecordFor q records r
for_is q records r h = let both = among q records r h in of_test q records r both.0 both.1

passes : (q : Question) (records : List Record) (r : Record) → IsOneOf r records → is_of q r ≡ true
    → IsOneOf r (records_for q records)
passes q [] r h slot = absurd h
passes q (s ∷ records) r (inl e) slot = subst (IsOneOf r)
    (sym (cond-true (is_of q s) (s ∷ records_for q records) (records_for q records)
    (subst (λ (x : Record). is_of q x ≡ true) e slot))) (inl e)
passes q (s ∷ records) r (inr rest) slot =
    cond_both (is_of q s) (s ∷ records_for q records) (records_for q records) (IsOneOf r)
    (λ _. inr (passes q records r rest slot)) (λ _. passes q records r rest slot)

pub is_for : (q : Question) (records : List Record) (r : Record) → IsRecordFor q records r
    → IsOneOf r (records_for q records)
is_for q records r h = passes q records r h.there (fits_test q records r h)

-- ---- data

pub data_of_set : (q : Question) (records : List Record) (first : Record) (others : List Record)
    → records_for q records ≡ first ∷ others → AreDataOf q records (with_all_data (first.rdata ∷ []) others)
data_of_set q records first others is = record {
  only = λ datum h. elim (all_only (first.rdata ∷ []) others datum h) [
    | inl one ↦ record {
      r = first;
      fits = for_is q records first (subst (IsOneOf first) (sym is) (inl refl));
      datum_is = sym (only_one datum first.rdata one);
    }
    | inr more ↦ record {
      r = more.r;
      fits = for_is q records more.r
          (subst (IsOneOf more.r) (sym is) (inr more.there));
      datum_is = more.datum_is;
    }
  ];
  whole = λ r h. elim (subst (IsOneOf r) is (is_for q records r h)) [
    | inl e ↦ all_keeps (first.rdata ∷ []) others r.rdata (inl (ap (λ (x : Record). x.rdata) e))
    | inr rest ↦ all_has (first.rdata ∷ []) others r rest
  ];
  once = all_once (first.rdata ∷ []) others (λ none. none, tt);
}

-- ---- the order of the data, and the first owner

-- of two data the first is met first
abbrev MetFirst : List Record → List ℕ → List ℕ → Type 0
MetFirst [] x y = ⊥
MetFirst (r ∷ records) x y = (r.rdata ≡ x) ⊎ ((r.rdata ≢ y) × MetFirst records x y)

-- the second is new, and the first is there or is met first
abbrev Later : List (List ℕ) → List Record → List ℕ → List ℕ → Type 0
Later kept records x y = (IsOneOf y kept → ⊥) × (IsOneOf x kept ⊎ MetFirst records x y)

with_order : (kept : List (List ℕ)) (octets x y : List ℕ) → IsBefore x y (with_data kept octets)
    → IsBefore x y kept ⊎ (IsOneOf x kept × (IsOneOf y kept → ⊥))
with_order kept octets x y = cond_both (list_any (same_octets octets) kept) kept (kept ++ octets ∷ [])
    (λ (l : List (List ℕ)). IsBefore x y l → IsBefore x y kept ⊎ (IsOneOf x kept × (IsOneOf y kept → ⊥)))
    (λ _ h. inl h)
    (λ f h. elim (before_last x y octets kept h) [
      | inl old ↦ inl old
      | inr last ↦ inr (
        last.0,
        λ there. is_not_there octets kept f (subst (λ (o : List ℕ). IsOneOf o kept) last.1 there),
      )
    ])

later_on : (kept : List (List ℕ)) (s : Record) (records : List Record) (x y : List ℕ)
    → Later (with_data kept s.rdata) records x y → Later kept (s ∷ records) x y
later_on kept s records x y later =
    let new : IsOneOf y kept → ⊥ = λ there. later.0 (with_keeps kept s.rdata y there) in
    elim later.1 [
      | inl one ↦ elim (with_only kept s.rdata x one) [
        | inl old ↦ (new, inl old)
        | inr own ↦ (new, inr (inl (sym own)))
      ]
      | inr rest ↦ (
        new,
        inr (inr (
          λ is. later.0 (subst (λ (o : List ℕ). IsOneOf o (with_data kept s.rdata)) is (with_has kept s.rdata)),
          rest,
        )),
      )
    ]

all_order : (kept : List (List ℕ)) (records : List Record) (x y : List ℕ) → IsBefore x y (with_all_data kept records)
    → IsBefore x y kept ⊎ Later kept records x y
all_order kept [] x y h = inl h
all_order kept (s ∷ records) x y h = elim (all_order (with_data kept s.rdata) records x y h) [
  | inl both ↦ elim (with_order kept s.rdata x y both) [
    | inl old ↦ inl old
    | inr new ↦ inr (new.1, inl new.0)
  ]
  | inr later ↦ inr (later_on kept s records x y later)
]

order_of_set : (first : Record) (others : List Record) (x y : List ℕ)
    → IsBefore x y (with_all_data (first.rdata ∷ []) others) → MetFirst (first ∷ others) x y
order_of_set first others x y h = elim (all_order (first.rdata ∷ []) others x y h) [
  | inl both ↦ elim both [
    | inl none ↦ absurd none.1
    | inr none ↦ absurd none
  ]
  | inr later ↦ elim later.1 [
    | inl one ↦ inl (sym (only_one x first.rdata one))
    | inr rest ↦ inr (λ is. later.0 (inl (sym is)), rest)
  ]
]

comes_first : (q : Question) (records : List Record) (x y : List ℕ) → MetFirst (records_for q records) x y
    → ComesFirst q records x y
comes_first q [] x y h = absurd h
comes_first q (r ∷ records) x y h = (elim (is_of q r) as
    (λ b. is_of q r ≡ b → MetFirst (cond b (r ∷ records_for q records) (records_for q records)) x y
    → ComesFirst q (r ∷ records) x y) [
      | true ↦ λ is met. elim met [
        | inl first ↦ inl (of_test q (r ∷ records) r (inl refl) is, first)
        | inr rest ↦ inr (λ fits. rest.0, comes_first q records x y rest.1)
      ]
      | false ↦ λ other met. inr (
        λ fits is. both_ways (is_of q r) other (fits_test q (r ∷ records) r fits),
        comes_first q records x y met,
      )
    ]) refl h

first_owns : (q : Question) (records : List Record) (first : Record) (others : List Record)
    → records_for q records ≡ first ∷ others → FirstOwns q records first.owner
first_owns q [] first others e = absurd (cc)
first_owns q (r ∷ records) first others e = (elim (is_of q r) as
    (λ b. is_of q r ≡ b → cond b (r ∷ records_for q records) (records_for q records) ≡ first ∷ others
    → FirstOwns q (r ∷ records) first.owner) [
      | true ↦ λ is begun. inl (
        of_test q (r ∷ records) r (inl refl) is,
        ap (λ (x : Record). x.owner) (let same : r ≡ first = cc in same),
      )
      | false ↦ λ other begun. inr (
        λ fits. both_ways (is_of q r) other (fits_test q (r ∷ records) r fits),
        first_owns q records first others begun,
      )
    ]) refl e

-- ---- TTLs

pub top_bit_is_none : TopBitIsNone
top_bit_is_none ttl = record {
  set = λ long. cond-true (nat_le (2 ^ 31) ttl) 0 ttl (grind (arith, nat_tests, long));
  clear = λ short. cond-false (nat_le (2 ^ 31) ttl) 0 ttl (grind (arith, nat_tests, short));
}

-- the TTL's seconds are unique
pub one_seconds : (ttl seconds : ℕ) → AreSeconds ttl seconds → seconds ≡ seconds_of ttl
one_seconds ttl seconds are = elim (cases_lt ttl (2 ^ 31)) [
  | inl short ↦ are.clear short ∙ sym ((top_bit_is_none ttl).clear short)
  | inr long ↦ are.set long ∙ sym ((top_bit_is_none ttl).set long)
]

-- ---- lifetimes

within_most : (most : ℕ) (records : List Record) → lifetime_within most records ≤ most
within_most most [] = omega arith
within_most most (s ∷ records) = omega (arith, within_most (min most (seconds_of s.ttl)) records)

within_each : (most : ℕ) (records : List Record) (r : Record) → IsOneOf r records
    → lifetime_within most records ≤ seconds_of r.ttl
within_each most [] r h = absurd h
within_each most (s ∷ records) r (inl e) =
    subst (λ (x : Record). lifetime_within most (s ∷ records) ≤ seconds_of x.ttl) (sym e)
    (least most (seconds_of s.ttl) (lifetime_within (min most (seconds_of s.ttl)) records)
    (within_most (min most (seconds_of s.ttl)) records))
  where
    least : (a b c : ℕ) → c ≤ min a b → c ≤ b
    least a b c h = omega (arith, h)
within_each most (s ∷ records) r (inr rest) = within_each (min most (seconds_of s.ttl)) records r rest

pub min_is_one : (a b : ℕ) → (min a b ≡ a) ⊎ (min a b ≡ b)
min_is_one a b = (elim (nat_le a b) as (λ t. nat_le a b ≡ t → (min a b ≡ a) ⊎ (min a b ≡ b)) [
  | true ↦ λ is. inl (grind (arith, nat_tests))
  | false ↦ λ is. inr (grind (arith, nat_tests))
]) refl

record HasTtl (records : List Record) (seconds : ℕ) : Type 0 where
  pub r : Record
  pub there : IsOneOf r records
  pub seconds_are : seconds ≡ seconds_of r.ttl

within_one : (most : ℕ) (records : List Record) → (lifetime_within most records ≡ most)
    ⊎ HasTtl records (lifetime_within most records)
within_one most [] = inl refl
within_one most (s ∷ records) = elim (within_one (min most (seconds_of s.ttl)) records) [
  | inl e ↦ elim (min_is_one most (seconds_of s.ttl)) [
    | inl first ↦ inl (e ∙ first)
    | inr second ↦ inr (record { r = s; there = inl refl; seconds_are = e ∙ second })
  ]
  | inr h ↦ inr (record { r = h.r; there = inr h.there; seconds_are = h.seconds_are })
]

pub life_of_set : (q : Question) (records : List Record) (first : Record) (others : List Record)
    → records_for q records ≡ first ∷ others
    → IsLowestTtl q records (lifetime_within (min longest (seconds_of first.ttl)) others)
life_of_set q records first others is =
    let life : ℕ = lifetime_within longest (first ∷ others) in
    let one : (life ≡ longest) ⊎ HasSeconds q records life = elim (within_one longest (first ∷ others)) [
      | inl e ↦ inl e
      | inr h ↦ inr (record {
        r = h.r;
        fits = for_is q records h.r (subst (IsOneOf h.r) (sym is) h.there);
        seconds_are = subst (AreSeconds h.r.ttl) (sym h.seconds_are) (top_bit_is_none h.r.ttl);
      })
    ] in
    record {
      least = λ r seconds h are. subst (λ (n : ℕ). life ≤ n) (sym (one_seconds r.ttl seconds are))
          (within_each longest (first ∷ others) r (subst (IsOneOf r) is (is_for q records r h)));
      week = within_most longest (first ∷ others);
      one = one;
    }

-- ---- a set for a question is the set for its own slot

-- the question for a record
abbrev pub question_for : Record → Question
question_for first = record { name = first.owner; kind = first.kind; class = first.class }

pub record Slotted (q : Question) (first : Record) : Type 0 where
  pub kind : first.kind ≡ q.kind
  pub class : first.class ≡ q.class
  pub name : IsSame first.owner q.name

pub slotted : (q : Question) (records : List Record) (first : Record) → IsRecordFor q records first → Slotted q first
slotted q records first h = record { kind = h.kind; class = h.class; name = h.name }

other_for : (q : Question) (first : Record) (records : List Record) (r : Record) → Slotted q first
    → IsRecordFor q records r → IsRecordFor (question_for first) records r
other_for q first records r s h =
    record { there = h.there; kind = h.kind ∙ sym s.kind; class = h.class ∙ sym s.class; name = h.name ∙ sym s.name }

back_for : (q : Question) (first : Record) (records : List Record) (r : Record) → Slotted q first
    → IsRecordFor (question_for first) records r → IsRecordFor q records r
back_for q first records r s h =
    record { there = h.there; kind = h.kind ∙ s.kind; class = h.class ∙ s.class; name = h.name ∙ s.name }

own_data : (q : Question) (first : Record) (records : List Record) (each : List (List ℕ)) → Slotted q first
    → AreDataOf q records each → AreDataOf (question_for first) records each
own_data q first records each s h = record {
  only = λ datum there. let d = h.only datum there in
      record { r = d.r; fits = other_for q first records d.r s d.fits; datum_is = d.datum_is };
  whole = λ r fits. h.whole r (back_for q first records r s fits);
  once = h.once;
}

own_order : (q : Question) (first : Record) (records : List Record) (x y : List ℕ) → Slotted q first
    → ComesFirst q records x y → ComesFirst (question_for first) records x y
own_order q first [] x y s h = absurd h
own_order q first (r ∷ records) x y s (inl h) = inl (other_for q first (r ∷ records) r s h.0, h.1)
own_order q first (r ∷ records) x y s (inr h) = inr (
  λ fits. h.0 (back_for q first (r ∷ records) r s fits),
  own_order q first records x y s h.1,
)

own_spelling : (q : Question) (first : Record) (records : List Record) (owner : List (List ℕ)) → Slotted q first
    → FirstOwns q records owner → FirstOwns (question_for first) records owner
own_spelling q first [] owner s h = absurd h
own_spelling q first (r ∷ records) owner s (inl h) = inl (other_for q first (r ∷ records) r s h.0, h.1)
own_spelling q first (r ∷ records) owner s (inr h) = inr (
  λ fits. h.0 (back_for q first (r ∷ records) r s fits),
  own_spelling q first records owner s h.1,
)

own_life : (q : Question) (first : Record) (records : List Record) (lifetime : ℕ) → Slotted q first
    → IsLowestTtl q records lifetime → IsLowestTtl (question_for first) records lifetime
own_life q first records lifetime s h =
    let one : (lifetime ≡ longest) ⊎ HasSeconds (question_for first) records lifetime = elim h.one [
      | inl e ↦ inl e
      | inr d ↦ inr (record { r = d.r; fits = other_for q first records d.r s d.fits; seconds_are = d.seconds_are })
    ] in
    record {
      least = λ r seconds fits are. h.least r seconds (back_for q first records r s fits) are;
      week = h.week;
      one = one;
    }

some_is : (a b : ℕ) → Some a ≡ Some b → a ≡ b
some_is a b e = cc

rows_are : (a b : List (List ℕ)) → rows a ≡ rows b → a ≡ b
rows_are a b e = cc

-- the set beginning with a record of the question is the section's set
pub set_from : (q : Question) (rank route : ℕ) (records : List Record) (first : Record) (others : List Record)
    → records_for q records ≡ first ∷ others → IsSetFrom records (set_with rank route first others)
set_from q rank route records first others is =
    let at : Slotted q first =
    slotted q records first (for_is q records first (subst (IsOneOf first) (sym is) (inl refl))) in
    record {
      data_are = λ kind each slot body.
          subst (λ (k : ℕ). AreDataOf (record { name = first.owner; kind = k; class = first.class }) records each)
          (some_is first.kind kind slot)
          (subst (AreDataOf (question_for first) records) (rows_are (with_all_data (first.rdata ∷ []) others) each body)
          (own_data q first records (with_all_data (first.rdata ∷ []) others) at
          (data_of_set q records first others is)));
      in_order = λ kind each slot body.
          subst (λ (k : ℕ). AreInOrder (record { name = first.owner; kind = k; class = first.class }) records each)
          (some_is first.kind kind slot)
          (subst (AreInOrder (question_for first) records) (rows_are (with_all_data (first.rdata ∷ []) others) each body)
          (λ x y h. own_order q first records x y at (comes_first q records x y
          (subst (λ (l : List Record). MetFirst l x y) (sym is) (order_of_set first others x y h)))));
      spelled = λ kind each slot body.
          subst (λ (k : ℕ). FirstOwns (record { name = first.owner; kind = k; class = first.class }) records first.owner)
          (some_is first.kind kind slot)
          (own_spelling q first records first.owner at (first_owns q records first others is));
      lives = λ kind each slot body.
          subst (λ (k : ℕ). IsLowestTtl (record { name = first.owner; kind = k; class = first.class }) records
          (lifetime_within (min longest (seconds_of first.ttl)) others)) (some_is first.kind kind slot)
          (own_life q first records (lifetime_within (min longest (seconds_of first.ttl)) others) at
          (life_of_set q records first others is));
    }

-- a set of records: the first and the rest
pub record Begins (rank route : ℕ) (records : List Record) (p : Piece) : Type 0 where
  pub first : Record
  pub others : List Record
  pub records_are : records ≡ first ∷ others
  pub piece_is : set_with rank route first others ≡ p

pub begins : (rank route : ℕ) (records : List Record) (p : Piece) → set_of rank route records ≡ Some p
    → Begins rank route records p
begins rank route [] p e = absurd (cc)
begins rank route (first ∷ others) p e = record {
  first = first;
  others = others;
  records_are = refl;
  piece_is = (let is : Some (set_with rank route first others) ≡ Some p = e in cc);
}
