-- A reply's finding at a name is carried for that name.
use Rattle.std.proofs.Common.{◌≡◌, ℕ, Bool, true, false, cond, List, [], ◌∷◌, Option, Some, None, refl, sym, ap, ◌∙◌, subst, ⊎_elim}
use Rattle.std.specs.Prelude.{◌==◌, ◌&&◌, ◌≢◌, not, is_none}
use Rattle.std.specs.Option.{IfSome}
use Rattle.std.proofs.lemmas.Bool.{cases_Bool, cond-true, cond-false, cond_both, and_parts, eqb-true, eq-eqb, false≢true}
use Rattle.dns_message.specs.DnsName.Labels.{lowered, same}
use Rattle.dns_message.proofs.DnsName.CallerLemmas.{same_decides}
use Rattle.dns_message.specs.Values.{Question, Record}
use Rattle.dns_message.specs.Messages.{AreShaped}
use Rattle.suffix_routes.specs.Routes.{route_of}
use Rattle.trust_rank.specs.Values.{Piece, found, ends_no_data, ends_denied, Reply}
use Rattle.trust_rank.specs.Sets.{is_of, records_for, set_with, set_of}
use Rattle.trust_rank.specs.Denials.{soa_for}
use Rattle.trust_rank.specs.Walks.{AtName, met_nothing, met_set, met_no_data, met_name_error, met_alias, met_lame, is_place, is_on_route, rank_at, at_name, answer_set, alias_set, has_many, target_of, is_referral, name_error_at, no_data_at, denial_met, denial_at, leads, alias_or, set_or, met_at}
use Rattle.trust_rank.specs.Formed.{IsSoa}
use Rattle.trust_rank.specs.Laws.{IsCarriedFor, IsAliasTo, IsLastBody}
use Rattle.trust_rank.proofs.PieceLaws.{HaveShape, set_shape, set_with_is_piece, found_is_soa, denial_short}

place_is : (o : Option ℕ) (route : ℕ) → is_place o route ≡ true → o ≡ Some route
place_is None route e = absurd (false≢true e)
place_is (Some place) route e = ap Some (eqb-true place route e)

pub on_route_is : (r : Reply) (name : List (List ℕ)) → is_on_route r name ≡ true → route_of r.config.routes name ≡ Some r.route
on_route_is r name e = place_is (route_of r.config.routes name) r.route e

-- ---- sets

-- a set's first record belongs to the set
first_belongs : (q : Question) (records : List Record) (first : Record) (others : List Record) → records_for q records ≡ first ∷ others → is_of q first ≡ true
first_belongs q [] first others e = absurd (cc)
first_belongs q (r ∷ records) first others e = ⊎_elim
    (λ (t : is_of q r ≡ true).
    let is : r ∷ records_for q records ≡ first ∷ others = sym (cond-true (is_of q r) (r ∷ records_for q records) (records_for q records) t) ∙ e in
    let one : r ≡ first = cc in
    subst (λ (x : Record). is_of q x ≡ true) one t)
    (λ (f : is_of q r ≡ false). first_belongs q records first others (sym (cond-false (is_of q r) (r ∷ records_for q records) (records_for q records) f) ∙ e))
    (cases_Bool (is_of q r))

pub record Belongs (q : Question) (r : Record) : Type 0 where
  pub kind : r.kind ≡ q.kind
  pub class : r.class ≡ q.class
  pub name : lowered r.owner ≡ lowered q.name

belongs : (q : Question) (r : Record) → is_of q r ≡ true → Belongs q r
belongs q r e =
    let all = and_parts ((r.kind == q.kind) && (r.class == q.class)) (same r.owner q.name) e in
    let both = and_parts (r.kind == q.kind) (r.class == q.class) all.0 in
    record { kind = eqb-true r.kind q.kind both.0; class = eqb-true r.class q.class both.1; name = (same_decides r.owner q.name).0 all.1 }

-- a set of records: the first and the rest
pub record Begins (rank route : ℕ) (records : List Record) (p : Piece) : Type 0 where
  pub first : Record
  pub others : List Record
  pub records_are : records ≡ first ∷ others
  pub piece_is : set_with rank route first others ≡ p

begins : (rank route : ℕ) (records : List Record) (p : Piece) → set_of rank route records ≡ Some p → Begins rank route records p
begins rank route [] p e = absurd (cc)
begins rank route (first ∷ others) p e = record { first = first; others = others; records_are = refl; piece_is = (let is : Some (set_with rank route first others) ≡ Some p = e in cc) }

-- the answer section's set at a name on the route
pub set_carried : (r : Reply) (kind : ℕ) (name : List (List ℕ)) (p : Piece) → AreShaped r.answers → is_on_route r name ≡ true → answer_set r kind name ≡ Some p → IsCarriedFor r name (Some kind) p
set_carried r kind name p shaped on is =
    let q : Question = at_name r kind name in
    let b : Begins (rank_at r name) r.route (records_for q r.answers) p = begins (rank_at r name) r.route (records_for q r.answers) p is in
    let f : Belongs q b.first = belongs q b.first (first_belongs q r.answers b.first b.others b.records_are) in
    let each : HaveShape kind (b.first ∷ b.others) = subst (HaveShape kind) b.records_are (set_shape q r.answers shaped) in
    subst (IsCarriedFor r name (Some kind)) b.piece_is (record {
      piece = set_with_is_piece (rank_at r name) r.route b.first b.others kind f.kind each.0 each.1;
      slot = λ i. record { key = f.name i; class = f.class i; kind = Some (f.kind i) };
      route = refl;
      on_route = on_route_is r name on;
    })

-- ---- denials

soa_if : (name : List (List ℕ)) (class : ℕ) (authority : List Record) (o : Option Record) → AreShaped authority → soa_for name class authority ≡ o → IfSome o IsSoa
soa_if name class authority None shaped e = tt
soa_if name class authority (Some soa) shaped e = found_is_soa name class authority soa shaped e

soa_fits : (r : Reply) (name : List (List ℕ)) → AreShaped r.authority → IfSome (soa_for name r.question.class r.authority) IsSoa
soa_fits r name shaped = soa_if name r.question.class r.authority (soa_for name r.question.class r.authority) shaped refl

no_data_carried : (r : Reply) (name : List (List ℕ)) → AreShaped r.authority → is_on_route r name ≡ true → IsCarriedFor r name (Some r.question.kind) (no_data_at r name)
no_data_carried r name shaped on = record {
  piece = record { key = refl; body = soa_fits r name shaped; lifetime = denial_short (soa_for name r.question.class r.authority) };
  slot = refl;
  route = refl;
  on_route = on_route_is r name on;
}

name_error_carried : (r : Reply) (name : List (List ℕ)) → AreShaped r.authority → is_on_route r name ≡ true → IsCarriedFor r name None (name_error_at r name)
name_error_carried r name shaped on = record {
  piece = record { key = refl; body = soa_fits r name shaped; lifetime = denial_short (soa_for name r.question.class r.authority) };
  slot = refl;
  route = refl;
  on_route = on_route_is r name on;
}

-- ---- the finding at a name

-- a finding is carried for the name; the first name has no finding only if off the route
abbrev pub Meets : Reply → Bool → List (List ℕ) → AtName → Type 0
Meets r is_first name met_nothing = is_first ≡ true → is_on_route r name ≡ true → ⊥
Meets r is_first name (met_set p) = IsCarriedFor r name (Some r.question.kind) p × IsLastBody found p.body
Meets r is_first name (met_no_data p) = IsCarriedFor r name (Some r.question.kind) p × IsLastBody ends_no_data p.body
Meets r is_first name (met_name_error p) = IsCarriedFor r name None p × IsLastBody ends_denied p.body
Meets r is_first name (met_alias p target) = IsAliasTo r name target p
Meets r is_first name met_lame = Unit {0}

set_body : (rank route : ℕ) (records : List Record) (p : Piece) → set_of rank route records ≡ Some p → IsLastBody found p.body
set_body rank route records p e =
    let b : Begins rank route records p = begins rank route records p e in
    subst (λ (x : Piece). IsLastBody found x.body) b.piece_is tt

not_true : (b : Bool) → not b ≡ true → b ≡ true → ⊥
not_true true e t = false≢true e
not_true false e t = false≢true t

meets_denial : (r : Reply) (is_first : Bool) (name : List (List ℕ)) (lacks : Bool) → AreShaped r.authority → is_on_route r name ≡ true → Meets r is_first name (denial_met r is_first name lacks)
meets_denial r is_first name lacks shaped on =
    cond_both (r.rcode == 3) (met_name_error (name_error_at r name))
    (cond (lacks && not is_first) met_nothing (cond (lacks && is_referral r) met_lame (met_no_data (no_data_at r name)))) (Meets r is_first name)
    (λ _. (name_error_carried r name shaped on, tt))
    (λ _. cond_both (lacks && not is_first) met_nothing (cond (lacks && is_referral r) met_lame (met_no_data (no_data_at r name))) (Meets r is_first name)
    (λ t first _. not_true is_first (and_parts lacks (not is_first) t).1 first)
    (λ _. cond_both (lacks && is_referral r) met_lame (met_no_data (no_data_at r name)) (Meets r is_first name) (λ _. tt) (λ _. (no_data_carried r name shaped on, tt))))

meets_target : (r : Reply) (is_first : Bool) (name : List (List ℕ)) (p : Piece) (o : Option (List (List ℕ))) → target_of p.body ≡ o → IsCarriedFor r name (Some 5) p → r.question.kind ≢ 5
    → Meets r is_first name (leads p o)
meets_target r is_first name p None e carried follows = tt
meets_target r is_first name p (Some target) e carried follows = record { carried = carried; leads = e; follows = follows }

-- an alias set is found only if aliases are followed
followed : (b : Bool) (o : Option Piece) (p : Piece) → cond b None o ≡ Some p → (b ≡ false) × (o ≡ Some p)
followed true o p e = absurd (cc)
followed false o p e = (refl, e)

not_five : (kind : ℕ) → (kind == 5) ≡ false → kind ≢ 5
not_five kind f is = false≢true (sym f ∙ eq-eqb kind 5 is)

meets_alias : (r : Reply) (is_first : Bool) (name : List (List ℕ)) (o : Option Piece) (denial : AtName) → AreShaped r.answers → is_on_route r name ≡ true → alias_set r name ≡ o → Meets r is_first name denial
    → Meets r is_first name (alias_or o denial)
meets_alias r is_first name None denial shaped on e other = other
meets_alias r is_first name (Some p) denial shaped on e other =
    let f : ((r.question.kind == 5) ≡ false) × (answer_set r 5 name ≡ Some p) = followed (r.question.kind == 5) (answer_set r 5 name) p e in
    meets_target r is_first name p (target_of p.body) refl (set_carried r 5 name p shaped on f.1) (not_five r.question.kind f.0)

meets_set : (r : Reply) (is_first : Bool) (name : List (List ℕ)) (o : Option Piece) (other : AtName) → AreShaped r.answers → is_on_route r name ≡ true → answer_set r r.question.kind name ≡ o
    → Meets r is_first name other → Meets r is_first name (set_or r.question.kind o other)
meets_set r is_first name None other shaped on e met = met
meets_set r is_first name (Some p) other shaped on e met =
    cond_both ((r.question.kind == 5) && has_many p.body) met_lame (met_set p) (Meets r is_first name) (λ _. tt)
    (λ _. (set_carried r r.question.kind name p shaped on e, set_body (rank_at r name) r.route (records_for (at_name r r.question.kind name) r.answers) p e))

pub meets : (r : Reply) (is_first : Bool) (name : List (List ℕ)) → AreShaped r.answers → AreShaped r.authority → Meets r is_first name (met_at r is_first name)
meets r is_first name answers authority =
    cond_both (is_on_route r name) (set_or r.question.kind (answer_set r r.question.kind name) (alias_or (alias_set r name) (denial_at r is_first name))) met_nothing (Meets r is_first name)
    (λ on. meets_set r is_first name (answer_set r r.question.kind name) (alias_or (alias_set r name) (denial_at r is_first name)) answers on refl
    (meets_alias r is_first name (alias_set r name) (denial_at r is_first name) answers on refl
    (meets_denial r is_first name (is_none (soa_for name r.question.class r.authority)) authority on)))
    (λ off _ on. false≢true (sym off ∙ on))
