-- The SOA of a denial, and the denial's lifetime.
use Rattle.std.proofs.Common.{◌≡◌, ℕ, ◌+◌, ◌-◌, true, false, cond, ◌⊎◌, inl, inr, List, [], ◌∷◌, ◌++◌, length}
use Rattle.std.proofs.Common.{Option, None, Some, refl, sym, ap, ◌∙◌, subst, arith}
use Rattle.std.specs.Prelude.{◌==◌, ◌&&◌, min, slice_index}
use Rattle.std.specs.List.{find}
use Rattle.std.proofs.lemmas.Bool.{and_parts, and_from, eqb-true, eq-eqb, both_ways}
use Rattle.std.proofs.lemmas.List.{length-append, get_or-append-add}
use Rattle.dns_name.specs.Labels.{is_under}
use Rattle.dns_name.proofs.CallerLemmas.{is_under_decides}
use Rattle.dns_message.specs.Values.{Record}
use Rattle.trust_rank.specs.Values.{no_data, denied, Piece, Reply, reply_of}
use Rattle.trust_rank.specs.Sets.{seconds_of, records_for}
use Rattle.trust_rank.specs.Denials.{is_soa_for, soa_for, minimum_of, longest_denial, denial_lifetime}
use Rattle.trust_rank.specs.Walks.{rank_at, at_name, no_data_at, name_error_at}
use Rattle.cache_laws.specs.Lifetimes.{IsSoaFor, IsFirstSoa, four_octets, IsLeastOf, LivesBy, HoldsSoa, IsDenialFrom}
use Rattle.cache_laws.specs.Lifetimes.{DenialsLiveByTheirSoa}
use Rattle.cache_laws.proofs.Sets.{Begins, begins, min_is_one, one_seconds}
use Rattle.cache_laws.proofs.Walks.{OfAll, each_piece}

-- ---- the first fitting SOA

pub soa_of_test : (class : ℕ) (name : List (List ℕ)) (s : Record) → is_soa_for name class s ≡ true
    → IsSoaFor class name s
soa_of_test class name s e =
    let all = and_parts ((s.kind == 6) && (s.class == class)) (is_under name s.owner) e in
    let both = and_parts (s.kind == 6) (s.class == class) all.0 in
    record {
      kind = eqb-true s.kind 6 both.0;
      class_is = eqb-true s.class class both.1;
      above = (is_under_decides name s.owner).0 all.1;
    }

pub test_of_soa : (class : ℕ) (name : List (List ℕ)) (s : Record) → IsSoaFor class name s
    → is_soa_for name class s ≡ true
test_of_soa class name s h =
    and_from ((s.kind == 6) && (s.class == class)) (is_under name s.owner)
    (and_from (s.kind == 6) (s.class == class) (eq-eqb s.kind 6 h.kind) (eq-eqb s.class class h.class_is))
    ((is_under_decides name s.owner).1 h.above)

pub first_soa : (class : ℕ) (name : List (List ℕ)) (records : List Record)
    → IsFirstSoa class name records (soa_for name class records)
first_soa class name [] = refl
first_soa class name (s ∷ records) = (elim (is_soa_for name class s) as
    (λ b. is_soa_for name class s ≡ b
    → IsFirstSoa class name (s ∷ records) (cond b (Some s) (find (is_soa_for name class) records))) [
      | true ↦ λ is. inl (soa_of_test class name s is, refl)
      | false ↦ λ other. inr (
        λ fits. both_ways (is_soa_for name class s) other (test_of_soa class name s fits),
        first_soa class name records,
      )
    ]) refl

-- ---- MINIMUM comes last

octet_at : (front last : List ℕ) (o k : ℕ) → o ≡ length front + k
    → slice_index (front ++ last) o ≡ slice_index last k
octet_at front last o k is = ap (slice_index (front ++ last)) is ∙ get_or-append-add front last k 0

minimum_is : (front : List ℕ) (a b c d : ℕ) → minimum_of (front ++ a ∷ b ∷ c ∷ d ∷ []) ≡ four_octets a b c d
minimum_is front a b c d =
    let last : List ℕ = a ∷ b ∷ c ∷ d ∷ [] in
    let all : List ℕ = front ++ last in
    let size : length all ≡ length front + 4 = length-append front last in
    let first : slice_index all (length all - 4) ≡ a = octet_at front last (length all - 4) 0 (omega (arith, size)) in
    let second : slice_index all (length all - 4 + 1) ≡ b =
    octet_at front last (length all - 4 + 1) 1 (omega (arith, size)) in
    let third : slice_index all (length all - 4 + 2) ≡ c =
    octet_at front last (length all - 4 + 2) 2 (omega (arith, size)) in
    let fourth : slice_index all (length all - 4 + 2 + 1) ≡ d =
    octet_at front last (length all - 4 + 2 + 1) 3 (omega (arith, size)) in
    omega (arith, first, second, third, fourth)

-- ---- the least of three

least_of : (ttl minimum : ℕ) → IsLeastOf ttl minimum (min (min ttl minimum) longest_denial)
least_of ttl minimum = record {
  within_ttl = omega arith;
  within_minimum = omega arith;
  within_three_hours = omega arith;
  one = one;
}
  where
    one : (min (min ttl minimum) longest_denial ≡ ttl)
        ⊎ ((min (min ttl minimum) longest_denial ≡ minimum) ⊎ (min (min ttl minimum) longest_denial ≡ 10800))
    one = elim (min_is_one (min ttl minimum) longest_denial) [
      | inl e ↦ elim (min_is_one ttl minimum) [
        | inl first ↦ inl (e ∙ first)
        | inr second ↦ inr (inl (e ∙ second))
      ]
      | inr e ↦ inr (inr e)
    ]

pub lives_by : (soa : Option Record) → LivesBy soa (denial_lifetime soa)
lives_by None = refl
lives_by (Some soa) = λ front a b c d seconds is are.
    subst (λ (ttl : ℕ). IsLeastOf ttl (four_octets a b c d) (denial_lifetime (Some soa)))
    (sym (one_seconds soa.ttl seconds are))
    (subst (λ (minimum : ℕ). IsLeastOf (seconds_of soa.ttl) minimum (denial_lifetime (Some soa)))
    (ap minimum_of is ∙ minimum_is front a b c d) (least_of (seconds_of soa.ttl) (minimum_of soa.rdata)))

-- ---- each denial

holds : (class : ℕ) (authority : List Record) (p : Piece) (soa : Option Record)
    → p.lifetime ≡ denial_lifetime (soa_for p.owner class authority) → soa_for p.owner class authority ≡ soa
    → HoldsSoa class authority p soa
holds class authority p soa life is = record {
  first = subst (IsFirstSoa class p.owner authority) is (first_soa class p.owner authority);
  lives = subst (LivesBy soa) (sym (life ∙ ap denial_lifetime is)) (lives_by soa);
}

no_data_is : (a b : Option Record) → no_data a ≡ no_data b → a ≡ b
no_data_is a b e = cc

denied_is : (a b : Option Record) → denied a ≡ denied b → a ≡ b
denied_is a b e = cc

pub of_reply : (r : Reply) → OfAll r (IsDenialFrom r.question.class r.authority)
of_reply r = record {
  sets = λ kind name p e.
      let b : Begins (rank_at r name) r.route (records_for (at_name r kind name) r.answers) p =
      begins (rank_at r name) r.route (records_for (at_name r kind name) r.answers) p e in
      subst (IsDenialFrom r.question.class r.authority) b.piece_is
      (record { of_type = λ soa body. absurd (cc); of_name = λ soa body. absurd (cc) });
  none = λ name. record {
    of_type = λ soa body. holds r.question.class r.authority (no_data_at r name) soa refl
        (no_data_is (soa_for name r.question.class r.authority) soa body);
    of_name = λ soa body. absurd (cc);
  };
  errors = λ name. record {
    of_type = λ soa body. absurd (cc);
    of_name = λ soa body. holds r.question.class r.authority (name_error_at r name) soa refl
        (denied_is (soa_for name r.question.class r.authority) soa body);
  };
}

pub denials_live_by_their_soa : DenialsLiveByTheirSoa
denials_live_by_their_soa c m q route =
    each_piece c m q route (IsDenialFrom q.class m.authority) (of_reply (reply_of c m q route))
