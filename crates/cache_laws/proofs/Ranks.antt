-- Ranks go by AA and the asked name.
use Rattle.std.proofs.Common.{◌≡◌, ◌≢◌, ℕ, Bool, true, false, inl, List, [], ◌∷◌, ◌++◌, Some, refl, sym, ◌∙◌, subst}
use Rattle.std.proofs.Common.{arith}
use Rattle.std.specs.Prelude.{◌&&◌, if◌then◌else◌}
use Rattle.std.specs.List.{AllByRecursion}
use Rattle.std.proofs.lemmas.Bool.{cond_both, cond-true, and_parts, and_from}
use Rattle.dns_name.specs.Labels.{same, IsSame}
use Rattle.dns_name.proofs.CallerLemmas.{same_decides}
use Rattle.dns_message.specs.Values.{Question, Record}
use Rattle.trust_rank.specs.Values.{Piece, Walk, Reply, reply_of}
use Rattle.trust_rank.specs.Sets.{records_for}
use Rattle.trust_rank.specs.Walks.{rank_at, at_name, answer_set, begins_set, servers_with}
use Rattle.trust_rank.specs.Walks.{servers_at, servers_from, carries_servers}
use Rattle.cache_laws.specs.Lists.{IsOneOf}
use Rattle.cache_laws.specs.Ranks.{IsRanked, RanksAreByAuthority}
use Rattle.cache_laws.proofs.Sets.{for_is, Begins, begins}
use Rattle.cache_laws.proofs.Walks.{OfAll, own_walk, own_walk_is_plain, each_piece, beside}

abbrev rank_by : Bool → ℕ
rank_by b = if b then 3 else 1

-- the rank of a piece owned by the name, letter case aside
ranked : (is_authoritative : Bool) (asked name owner : List (List ℕ)) → IsSame owner name
    → IsRanked is_authoritative asked owner (rank_by (is_authoritative && same name asked))
ranked is_authoritative asked name owner at = record {
  highest = λ aa own. cond-true (is_authoritative && same name asked) 3 1
      (and_from is_authoritative (same name asked) aa ((same_decides name asked).1 (sym at ∙ own)));
  authoritative = λ three. (and_parts is_authoritative (same name asked)
      (test_is (is_authoritative && same name asked) three)).0;
  own = λ three. at ∙ (same_decides name asked).0 (and_parts is_authoritative (same name asked)
      (test_is (is_authoritative && same name asked) three)).1;
  lowest = other (is_authoritative && same name asked);
}
  where
    test_is : (b : Bool) → rank_by b ≡ 3 → b ≡ true
    test_is true e = refl
    test_is false e = absurd (omega (arith, e))

    other : (b : Bool) → rank_by b ≢ 3 → rank_by b ≡ 1
    other true e = absurd (e refl)
    other false e = refl

ranked_set : (r : Reply) (kind : ℕ) (name : List (List ℕ)) (p : Piece) → answer_set r kind name ≡ Some p
    → IsRanked r.is_authoritative r.question.name p.owner p.rank
ranked_set r kind name p e =
    let q : Question = at_name r kind name in
    let b : Begins (rank_at r name) r.route (records_for q r.answers) p =
    begins (rank_at r name) r.route (records_for q r.answers) p e in
    let first_is : IsOneOf b.first (records_for q r.answers) = subst (IsOneOf b.first) (sym b.records_are) (inl refl) in
    subst (λ (x : Piece). IsRanked r.is_authoritative r.question.name x.owner x.rank) b.piece_is
    (ranked r.is_authoritative r.question.name name b.first.owner
    (for_is q r.answers b.first first_is).name)

pub ranked_all : (r : Reply) → OfAll r (λ (p : Piece). IsRanked r.is_authoritative r.question.name p.owner p.rank)
ranked_all r = record {
  sets = λ kind name p e. ranked_set r kind name p e;
  none = λ name. ranked r.is_authoritative r.question.name name name refl;
  errors = λ name. ranked r.is_authoritative r.question.name name name refl;
}

-- ---- name servers

all_both : (P : Piece → Type 0) (xs ys : List Piece) → AllByRecursion P xs → AllByRecursion P ys
    → AllByRecursion P (xs ++ ys)
all_both P [] ys a b = b
all_both P (x ∷ xs) ys a b = (a.0, all_both P xs ys a.1 b)

pub servers_ranked : (r : Reply) (carried : List Piece) (records : List Record)
    → AllByRecursion (λ (p : Piece). p.rank ≡ 2) (servers_from r carried records)
unfolding servers_from
servers_ranked r carried [] = tt
servers_ranked r carried (s ∷ records) =
    all_both (λ (p : Piece). p.rank ≡ 2) (servers_at r carried s records)
    (servers_from r (carried ++ servers_at r carried s records) records)
    (cond_both (begins_set r carried s) (servers_with r s records ∷ []) []
    (AllByRecursion (λ (p : Piece). p.rank ≡ 2)) (λ _. (refl, tt)) (λ _. tt))
    (servers_ranked r (carried ++ servers_at r carried s records) records)

pub ranks_are_by_authority : RanksAreByAuthority
ranks_are_by_authority c m q route =
    let r : Reply = reply_of c m q route in
    let w : Walk = own_walk r in (
      each_piece c m q route (λ (p : Piece). IsRanked m.header.aa q.name p.owner p.rank) (ranked_all r),
      cond_both (carries_servers r w.end) (beside r w) w
          (λ (x : Walk). AllByRecursion (λ (p : Piece). p.rank ≡ 2) x.authority)
          (λ _. servers_ranked r w.pieces r.authority)
          (λ _. subst (AllByRecursion (λ (p : Piece). p.rank ≡ 2)) (sym (own_walk_is_plain r)) tt),
    )
