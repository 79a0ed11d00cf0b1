-- The definitions of a carried reply at a name, and the walk's finding there.
use Rattle.std.proofs.Common.{◌≡◌, ℕ, true, false, ◌⊎◌, inl, inr, List, [], ◌∷◌, length, None, Some}
use Rattle.std.proofs.Common.{refl, sym, ap, ◌∙◌, subst, arith}
use Rattle.std.proofs.lemmas.Bool.{false≢true, both_ways, lt-ltb}
use Rattle.dns_message.specs.Values.{Question, Record}
use Rattle.dns_message.specs.Data.{name_of_rdata}
use Rattle.suffix_routes.specs.Values.{AllDiffer}
use Rattle.suffix_routes.specs.Routes.{route_of}
use Rattle.suffix_routes.proofs.CallerLemmas.{route_found_is_longest}
use Rattle.suffix_routes.proofs.RouteLaws.{computed}
use Rattle.trust_rank.specs.Values.{rows, Piece, Reply}
use Rattle.trust_rank.specs.Sets.{records_for, with_all_data}
use Rattle.trust_rank.specs.Walks.{is_on_route, rank_at, at_name, answer_set, has_many, target_of}
use Rattle.cache_laws.specs.Lists.{IsOneOf}
use Rattle.cache_laws.specs.Sets.{IsRecordFor, AreDataOf, FirstOwns}
use Rattle.cache_laws.specs.Ranks.{IsRanked}
use Rattle.cache_laws.specs.Denials.{question_at}
use Rattle.cache_laws.specs.Carried.{IsOfReply, IsPieceOf, IsSetAt, IsOnRoute, HasTwoAliases, HasNoTarget}
use Rattle.cache_laws.proofs.Lists.{only_one}
use Rattle.cache_laws.proofs.Sets.{for_is, data_of_set, Begins, begins}
use Rattle.cache_laws.proofs.Walks.{OfAll}
use Rattle.cache_laws.proofs.Ranks.{ranked_all}
use Rattle.cache_laws.proofs.Denials.{on_route_is, is_on, lacks}
use Rattle.cache_laws.proofs.Lifetimes.{of_reply}
use Rattle.cache_laws.proofs.Servers.{of_answers}
use Rattle.cache_laws.proofs.Single.{fits_alike, one_set, one_rank}

-- ---- routes

pub route_is : (r : Reply) (name : List (List ℕ)) → AllDiffer r.config.routes → IsOnRoute r name
    → route_of r.config.routes name ≡ Some r.route
route_is r name differ on = sym (computed r.config.routes name (Some r.route) differ on)

pub tested_on : (r : Reply) (name : List (List ℕ)) → AllDiffer r.config.routes → IsOnRoute r name
    → is_on_route r name ≡ true
tested_on r name differ on = is_on r name (route_is r name differ on)

pub on_by_test : (r : Reply) (name : List (List ℕ)) → is_on_route r name ≡ true → IsOnRoute r name
on_by_test r name is = route_found_is_longest r.config.routes name r.route (on_route_is r name is)

pub off_by_test : (r : Reply) (name : List (List ℕ)) → AllDiffer r.config.routes → is_on_route r name ≡ false
    → IsOnRoute r name → ⊥
off_by_test r name differ isnt on = both_ways (is_on_route r name) isnt (tested_on r name differ on)

-- ---- the set of a type

-- the first record of a set is for the set's question
pub first_of : (r : Reply) (kind : ℕ) (name : List (List ℕ)) (p : Piece)
    (b : Begins (rank_at r name) r.route (records_for (at_name r kind name) r.answers) p)
    → IsRecordFor (question_at r kind name) r.answers b.first
first_of r kind name p b = for_is (at_name r kind name) r.answers b.first
    (subst (IsOneOf b.first) (sym b.records_are) (inl refl))

own_set : (r : Reply) (kind : ℕ) (name : List (List ℕ)) (p : Piece) → answer_set r kind name ≡ Some p → IsOfReply r p
own_set r kind name p e =
    let b : Begins (rank_at r name) r.route (records_for (at_name r kind name) r.answers) p =
    begins (rank_at r name) r.route (records_for (at_name r kind name) r.answers) p e in
    subst (IsOfReply r) b.piece_is (record { name = refl; class = (first_of r kind name p b).class; route = refl })

-- each found piece is of the reply
pub each_of_reply : (r : Reply) → OfAll r (IsPieceOf r)
each_of_reply r = record {
  sets = λ kind name p e. record {
    set = (of_answers r).sets kind name p e;
    denial = (of_reply r).sets kind name p e;
    ranked = (ranked_all r).sets kind name p e;
    own = own_set r kind name p e;
  };
  none = λ name. record {
    set = (of_answers r).none name;
    denial = (of_reply r).none name;
    ranked = (ranked_all r).none name;
    own = record { name = refl; class = refl; route = refl };
  };
  errors = λ name. record {
    set = (of_answers r).errors name;
    denial = (of_reply r).errors name;
    ranked = (ranked_all r).errors name;
    own = record { name = refl; class = refl; route = refl };
  };
}

pub set_at : (r : Reply) (kind : ℕ) (name : List (List ℕ)) (p : Piece) → answer_set r kind name ≡ Some p
    → IsSetAt kind name p
set_at r kind name p e =
    let b : Begins (rank_at r name) r.route (records_for (at_name r kind name) r.answers) p =
    begins (rank_at r name) r.route (records_for (at_name r kind name) r.answers) p e in
    let fits : IsRecordFor (question_at r kind name) r.answers b.first = first_of r kind name p b in
    subst (IsSetAt kind name) b.piece_is (record {
      owner = fits.name;
      kind_is = ap Some fits.kind;
      each = with_all_data (b.first.rdata ∷ []) b.others;
      body = refl;
    })

-- a fitting record, implied by `FirstOwns`
pub record IsThere (q : Question) (records : List Record) : Type 0 where
  pub s : Record
  pub fits : IsRecordFor q records s

pub is_there : (q : Question) (records : List Record) (owner : List (List ℕ)) → FirstOwns q records owner
    → IsThere q records
is_there q [] owner h = absurd h
is_there q (s ∷ records) owner (inl h) = record { s = s; fits = h.0 }
is_there q (s ∷ records) owner (inr h) =
    let more : IsThere q records = is_there q records owner h.1 in
    record {
      s = more.s;
      fits = record {
        there = inr more.fits.there;
        kind = more.fits.kind;
        class = more.fits.class;
        name = more.fits.name;
      };
    }

-- the reply's piece for the set of the type at the name is found
pub set_is : (r : Reply) (kind : ℕ) (name : List (List ℕ)) (p : Piece) → IsPieceOf r p → IsSetAt kind name p
    → answer_set r kind name ≡ Some p
set_is r kind name p of_p at =
    let own : Question = record { name = p.owner; kind = kind; class = p.slot.class } in
    let one : IsThere own r.answers =
    is_there own r.answers p.owner (of_p.set.spelled kind at.each at.kind_is at.body) in
    let fits : IsRecordFor (question_at r kind name) r.answers one.s =
    fits_alike own (question_at r kind name) r.answers one.s
    (record { kind = refl; class = of_p.own.class; name = at.owner }) one.fits in
    (elim (answer_set r kind name) as (λ o. answer_set r kind name ≡ o → answer_set r kind name ≡ Some p) [
      | None ↦ λ e. absurd (lacks r kind name e one.s fits)
      | Some x ↦ λ e.
          let of_x : IsPieceOf r x = (each_of_reply r).sets kind name x e in
          e ∙ ap Some (one_set r r.answers kind name x p of_x.set of_p.set (set_at r kind name x e) at of_x.own
          of_p.own (λ owner. one_rank r.is_authoritative r.question.name p.owner x.rank p.rank
          (subst (λ (n : List (List ℕ)). IsRanked r.is_authoritative r.question.name n x.rank) owner of_x.ranked)
          of_p.ranked))
    ]) refl

-- ---- two aliases, or an alias without a target

-- the data of a set, for the question at the set's name
pub record HasData (r : Reply) (kind : ℕ) (name : List (List ℕ)) (p : Piece) : Type 0 where
  pub each : List (List ℕ)
  pub body : p.body ≡ rows each
  pub are : AreDataOf (question_at r kind name) r.answers each

pub has_data : (r : Reply) (kind : ℕ) (name : List (List ℕ)) (p : Piece) → answer_set r kind name ≡ Some p
    → HasData r kind name p
has_data r kind name p e =
    let b : Begins (rank_at r name) r.route (records_for (at_name r kind name) r.answers) p =
    begins (rank_at r name) r.route (records_for (at_name r kind name) r.answers) p e in
    subst (HasData r kind name) b.piece_is (record {
      each = with_all_data (b.first.rdata ∷ []) b.others;
      body = refl;
      are = data_of_set (question_at r kind name) r.answers b.first b.others b.records_are;
    })

two_in : (r : Reply) (name : List (List ℕ)) (x y : List ℕ) (more : List (List ℕ))
    → AreDataOf (question_at r 5 name) r.answers (x ∷ y ∷ more) → HasTwoAliases r name
two_in r name x y more are =
    let first = are.only x (inl refl) in
    let second = are.only y (inr (inl refl)) in
    record {
      s = first.r;
      t = second.r;
      first = first.fits;
      second = second.fits;
      differ = λ is. are.once.0 (inl (sym first.datum_is ∙ is ∙ second.datum_is));
    }

not_two_in : (r : Reply) (name : List (List ℕ)) (x : List ℕ) → AreDataOf (question_at r 5 name) r.answers (x ∷ [])
    → HasTwoAliases r name → ⊥
not_two_in r name x are two = two.differ (only_one two.s.rdata x (are.whole two.s two.first)
    ∙ sym (only_one two.t.rdata x (are.whole two.t two.second)))

two_of_many : (r : Reply) (name : List (List ℕ)) (each : List (List ℕ))
    → AreDataOf (question_at r 5 name) r.answers each → has_many (rows each) ≡ true → HasTwoAliases r name
two_of_many r name [] are many = absurd (false≢true many)
two_of_many r name (x ∷ []) are many = absurd (false≢true many)
two_of_many r name (x ∷ y ∷ more) are many = two_in r name x y more are

many_of_two : (r : Reply) (name : List (List ℕ)) (each : List (List ℕ))
    → AreDataOf (question_at r 5 name) r.answers each → HasTwoAliases r name → has_many (rows each) ≡ true
many_of_two r name [] are two = absurd (are.whole two.s two.first)
many_of_two r name (x ∷ []) are two = absurd (not_two_in r name x are two)
many_of_two r name (x ∷ y ∷ more) are two = lt-ltb 1 (length (x ∷ y ∷ more)) (omega arith)

pub are_two : (r : Reply) (name : List (List ℕ)) (p : Piece) → answer_set r 5 name ≡ Some p
    → has_many p.body ≡ true → HasTwoAliases r name
are_two r name p e many = let d : HasData r 5 name p = has_data r 5 name p e in
    two_of_many r name d.each d.are (sym (ap has_many d.body) ∙ many)

pub have_many : (r : Reply) (name : List (List ℕ)) (p : Piece) → answer_set r 5 name ≡ Some p
    → HasTwoAliases r name → has_many p.body ≡ true
have_many r name p e two = let d : HasData r 5 name p = has_data r 5 name p e in
    ap has_many d.body ∙ many_of_two r name d.each d.are two

lost_in : (r : Reply) (name : List (List ℕ)) (each : List (List ℕ)) → AreDataOf (question_at r 5 name) r.answers each
    → (s : Record) → IsRecordFor (question_at r 5 name) r.answers s → target_of (rows each) ≡ None
    → HasTwoAliases r name ⊎ HasNoTarget r name
lost_in r name [] are s fits none = absurd (are.whole s fits)
lost_in r name (x ∷ []) are s fits none = inr (record {
  s = s;
  fits = fits;
  none = ap name_of_rdata (only_one s.rdata x (are.whole s fits)) ∙ none;
})
lost_in r name (x ∷ y ∷ more) are s fits none = inl (two_in r name x y more are)

no_target_in : (r : Reply) (name : List (List ℕ)) (each : List (List ℕ))
    → AreDataOf (question_at r 5 name) r.answers each → HasTwoAliases r name ⊎ HasNoTarget r name
    → target_of (rows each) ≡ None
no_target_in r name [] are lost = refl
no_target_in r name (x ∷ []) are (inl two) = absurd (not_two_in r name x are two)
no_target_in r name (x ∷ []) are (inr nowhere) =
    sym (ap name_of_rdata (only_one nowhere.s.rdata x (are.whole nowhere.s nowhere.fits))) ∙ nowhere.none
no_target_in r name (x ∷ y ∷ more) are lost = refl

pub lost_way : (r : Reply) (name : List (List ℕ)) (p : Piece) → answer_set r 5 name ≡ Some p
    → target_of p.body ≡ None → HasTwoAliases r name ⊎ HasNoTarget r name
lost_way r name p e none =
    let d : HasData r 5 name p = has_data r 5 name p e in
    let b : Begins (rank_at r name) r.route (records_for (at_name r 5 name) r.answers) p =
    begins (rank_at r name) r.route (records_for (at_name r 5 name) r.answers) p e in
    lost_in r name d.each d.are b.first (first_of r 5 name p b) (sym (ap target_of d.body) ∙ none)

pub no_target : (r : Reply) (name : List (List ℕ)) (p : Piece) → answer_set r 5 name ≡ Some p
    → HasTwoAliases r name ⊎ HasNoTarget r name → target_of p.body ≡ None
no_target r name p e lost = let d : HasData r 5 name p = has_data r 5 name p e in
    ap target_of d.body ∙ no_target_in r name d.each d.are lost
