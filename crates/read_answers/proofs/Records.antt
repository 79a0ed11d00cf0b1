-- The records of a chain are the pieces' records.
use Rattle.std.proofs.Common.{◌≡◌, ℕ, List, [], ◌∷◌, ◌++◌, Option, None, Some, refl, sym, ap, ◌∙◌, subst, arith}
use Rattle.std.proofs.Common.{Bool, true, false}
use Rattle.std.proofs.lemmas.Bool.{ltb-true, ltb-false}
use Rattle.std.specs.Prelude.{map, if◌then◌else◌, nat_lt}
use Rattle.std.specs.List.{flat_map, AllByRecursion}
use Rattle.dns_message.specs.Values.{Question, Record}
use Rattle.dns_message.specs.Questions.{asked_at}
use Rattle.trust_rank.specs.Values.{Body, rows, no_data, denied, Piece}
use Rattle.record_cache.specs.Values.{Held}
use Rattle.record_cache.specs.Ageing.{end_of, seconds_left}
use Rattle.answer_builder.specs.Values.{PieceWithTtl, Sections}
use Rattle.answer_builder.specs.Answers.{record_of, records_in, set_records, aged, soa_records, rcode_of, with_ttl}
use Rattle.answer_builder.specs.Answers.{with_stale_ttl, answers_of, authority_of, last_of, sections_with_ttls}
use Rattle.step_history.specs.History.{Look}
use Rattle.step_history.specs.Answers.{FollowsAliases, EndsChain}
use Rattle.step_history.specs.Stale.{FollowsStale}
use Rattle.step_history.specs.Read.{AreSecondsLeft, AreStaleSeconds, AreRecordsOf, IsWholeSet, AreSoaOf, BeginWith}
use Rattle.step_history.specs.Read.{EndWith}

-- ---- seconds

pub left : (t : ℕ) (o : Held) → AreSecondsLeft t o (seconds_left t o)
left t o = record {
  over = λ past. omega (arith, past);
  within = λ alive. omega (arith, alive);
  whole = λ alive. omega (arith, alive);
}

pub stale : (t : ℕ) (o : Held) → AreStaleSeconds t o (with_stale_ttl t o).seconds
stale t o = by (nat_lt t (end_of o)) refl
  where
    by : (b : Bool) → nat_lt t (end_of o) ≡ b → AreStaleSeconds t o (if b then seconds_left t o else 30)
    by true is = record {
      alive = λ _. left t o;
      expired = λ past. let before = ltb-true t (end_of o) is in absurd (omega (arith, past, before));
    }
    by false is = record {
      alive = λ before. let past = ltb-false t (end_of o) is in absurd (omega (arith, past, before));
      expired = λ _. refl;
    }

-- ---- sets

-- the piece is a set
pub record IsSetOf (o : Held) : Type 0 where
  pub kind : ℕ
  pub each : List (List ℕ)
  pub kind_is : o.piece.slot.kind ≡ Some kind
  pub body : o.piece.body ≡ rows each

each_shown : (Shown : Held → ℕ → Type 0) (o : Held) (seconds kind : ℕ) (each : List (List ℕ)) → Shown o seconds
    → AreRecordsOf Shown o kind each (map (record_of seconds o.piece kind) each)
each_shown Shown o seconds kind [] shown = tt
each_shown Shown o seconds kind (datum ∷ each) shown = (
  record { owner = refl; kind_is = refl; class = refl; ttl = shown; datum_is = refl },
  each_shown Shown o seconds kind each shown,
)

-- the records of a set
pub set_shown : (Shown : Held → ℕ → Type 0) (o : Held) (seconds : ℕ) → Shown o seconds → IsSetOf o
    → IsWholeSet Shown o (set_records seconds o.piece)
set_shown Shown o seconds shown is = record {
  kind = is.kind;
  each = is.each;
  kind_is = is.kind_is;
  body = is.body;
  are = subst (λ (k : Option ℕ). AreRecordsOf Shown o is.kind is.each (records_in seconds o.piece k o.piece.body))
      (sym is.kind_is) (subst (λ (b : Body). AreRecordsOf Shown o is.kind is.each
      (records_in seconds o.piece (Some is.kind) b)) (sym is.body) (each_shown Shown o seconds is.kind is.each shown));
}

-- sets in a row, and the rest
pub sets_shown : (Shown : Held → ℕ → Type 0) (tell : Held → PieceWithTtl)
    → ((o : Held) → IsSetOf o → IsWholeSet Shown o (answers_of (tell o))) → (os : List Held)
    → AllByRecursion IsSetOf os → (rest : List PieceWithTtl)
    → BeginWith Shown os (flat_map answers_of (map tell os ++ rest)) (flat_map answers_of rest)
sets_shown Shown tell shows [] all rest = refl
sets_shown Shown tell shows (o ∷ os) all rest = (
  answers_of (tell o),
  flat_map answers_of (map tell os ++ rest),
  refl,
  shows o all.0,
  sets_shown Shown tell shows os all.1 rest,
)

pub left_shown : (t : ℕ) (o : Held) → IsSetOf o → IsWholeSet (AreSecondsLeft t) o (answers_of (with_ttl t o))
left_shown t o is = set_shown (AreSecondsLeft t) o (seconds_left t o) (left t o) is

pub stale_shown : (t : ℕ) (o : Held) → IsSetOf o → IsWholeSet (AreStaleSeconds t) o (answers_of (with_stale_ttl t o))
stale_shown t o is = set_shown (AreStaleSeconds t) o (with_stale_ttl t o).seconds (stale t o) is

-- ---- aliases are sets

pub aliases_are_sets : (l : Look) (q last : Question) (os : List Held) → FollowsAliases l q os last
    → AllByRecursion IsSetOf os
aliases_are_sets l q last [] h = tt
aliases_are_sets l q last (o ∷ os) h = (
  record { kind = 5; each = h.4.datum ∷ []; kind_is = h.2.kind; body = h.4.body },
  aliases_are_sets l (asked_at q h.3) last os h.5,
)

pub stale_aliases_are_sets : (l : Look) (q last : Question) (os : List Held) → FollowsStale l q os last
    → AllByRecursion IsSetOf os
stale_aliases_are_sets l q last [] h = tt
stale_aliases_are_sets l q last (o ∷ os) h = (
  record { kind = 5; each = h.4.datum ∷ []; kind_is = h.2.kind; body = h.4.body },
  stale_aliases_are_sets l (asked_at q h.3) last os h.5,
)

-- ---- the last piece

soa_shown : (t : ℕ) (o : Held) (soa : Option Record) → AreSoaOf t o soa (aged (seconds_left t o) soa)
soa_shown t o None = refl
soa_shown t o (Some soa) = (
  record {
    owner = soa.owner;
    kind = soa.kind;
    class = soa.class;
    ttl = seconds_left t o;
    rdata = soa.rdata;
  },
  refl,
  record { owner = refl; kind_is = refl; class = refl; ttl = left t o; data_are = refl },
)

-- a denial has no records in the answer section
no_records : (ttl : ℕ) (p : Piece) (kind : Option ℕ) (body : Body) → ((each : List (List ℕ)) → body ≡ rows each → ⊥)
    → records_in ttl p kind body ≡ []
no_records ttl p (Some kind) (rows each) h = absurd (h each refl)
no_records ttl p (Some kind) (no_data soa) h = refl
no_records ttl p (Some kind) (denied soa) h = refl
no_records ttl p None body h = refl

pub end_shown : (t : ℕ) (o : Held) (q : Question) (body : Body) → o.piece.body ≡ body → EndsChain q o.piece body
    → EndWith t o body (answers_of (with_ttl t o)) (soa_records (seconds_left t o) body) (rcode_of body)
end_shown t o q (rows each) is h =
    (left_shown t o (record { kind = q.kind; each = each; kind_is = h.kind; body = is }), refl, refl)
end_shown t o q (no_data soa) is h = (
  no_records (seconds_left t o) o.piece o.piece.slot.kind o.piece.body
      (λ each e. absurd (let wrong : no_data soa ≡ rows each = sym is ∙ e in cc)),
  soa_shown t o soa,
  refl,
)
end_shown t o q (denied soa) is h = (
  no_records (seconds_left t o) o.piece o.piece.slot.kind o.piece.body
      (λ each e. absurd (let wrong : denied soa ≡ rows each = sym is ∙ e in cc)),
  soa_shown t o soa,
  refl,
)

-- ---- sections

last_is : (y : PieceWithTtl) (xs : List PieceWithTtl) (x : PieceWithTtl) → last_of y (xs ++ x ∷ []) ≡ x
last_is y [] x = refl
last_is y (z ∷ xs) x = last_is z xs x

-- the records of all pieces, and the SOA and response code of the last
abbrev pub sections_with : List PieceWithTtl → PieceWithTtl → Sections
sections_with xs x = record {
  answers = flat_map answers_of xs;
  authority = authority_of x;
  rcode = rcode_of x.piece.body;
}

pub sections_are : (xs : List PieceWithTtl) (x : PieceWithTtl)
    → sections_with_ttls (xs ++ x ∷ []) ≡ sections_with (xs ++ x ∷ []) x
sections_are [] x = refl
sections_are (y ∷ xs) x = ap (sections_with (y ∷ (xs ++ x ∷ []))) (last_is y xs x)
