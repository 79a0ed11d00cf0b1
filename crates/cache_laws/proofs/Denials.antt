-- A walk ends with a name error exactly if the aliases lead to a denied name.
use Rattle.std.proofs.Common.{◌≡◌, ◌≢◌, ℕ, zero, suc, ◌<◌, Bool, true, false, cond, List, [], ◌∷◌, Option, None, Some}
use Rattle.std.proofs.Common.{inl, inr, refl, sym, ap, ◌∙◌, subst, arith}
use Rattle.std.specs.Prelude.{◌==◌, ◌&&◌, not, is_none}
use Rattle.std.proofs.lemmas.Bool.{cond-true, cond-false, eqb-true, eq-eqb, false≢true, ne_eqb}
use Rattle.dns_message.specs.Values.{Question, Record}
use Rattle.dns_message.specs.Data.{name_of_rdata}
use Rattle.suffix_routes.specs.Routes.{route_of}
use Rattle.trust_rank.specs.Values.{rows, Piece, ends_denied, Walk, Reply, reply_of}
use Rattle.trust_rank.specs.Sets.{records_for, with_all_data, set_with, set_of}
use Rattle.trust_rank.specs.Denials.{soa_for}
use Rattle.trust_rank.specs.Walks.{AtName, met_nothing, met_set, met_no_data, met_name_error, met_alias, met_lame}
use Rattle.trust_rank.specs.Walks.{is_place, is_on_route, rank_at, at_name, answer_set, alias_set, has_many}
use Rattle.trust_rank.specs.Walks.{target_of, is_referral, name_error_at, no_data_at, denial_met, denial_at, leads}
use Rattle.trust_rank.specs.Walks.{alias_or, set_or, met_at, most_aliases, lame_walk, is_lame, with_alias, go_on}
use Rattle.trust_rank.specs.Walks.{walk_from}
use Rattle.cache_laws.specs.Lists.{IsOneOf, NoneTwice}
use Rattle.cache_laws.specs.Sets.{AreDataOf}
use Rattle.cache_laws.proofs.Lists.{only_one}
use Rattle.cache_laws.proofs.Sets.{for_is, is_for, data_of_set, Begins, begins}
use Rattle.cache_laws.specs.Denials.{LacksAt, IsLoneAlias, HasNothingAt, IsAliasAt, AliasesLead, IsDeniedAt}
use Rattle.cache_laws.specs.Denials.{DeniesExactly}
use Rattle.cache_laws.proofs.Walks.{alias_is, own_walk, same_end, led_by}

-- ---- routes

place_is : (place : Option ℕ) (route : ℕ) → is_place place route ≡ true → place ≡ Some route
place_is None route e = absurd (false≢true e)
place_is (Some place) route e = ap Some (eqb-true place route e)

pub on_route_is : (r : Reply) (name : List (List ℕ)) → is_on_route r name ≡ true
    → route_of r.config.routes name ≡ Some r.route
on_route_is r name e = place_is (route_of r.config.routes name) r.route e

pub is_on : (r : Reply) (name : List (List ℕ)) → route_of r.config.routes name ≡ Some r.route
    → is_on_route r name ≡ true
is_on r name e = ap (λ o. is_place o r.route) e ∙ eq-eqb r.route r.route refl

-- ---- no set

none_is : (rank route : ℕ) (records : List Record) → set_of rank route records ≡ None → records ≡ []
none_is rank route [] e = refl
none_is rank route (first ∷ others) e = absurd (cc)

pub lacks : (r : Reply) (kind : ℕ) (name : List (List ℕ)) → answer_set r kind name ≡ None → LacksAt r kind name
lacks r kind name e s fits =
    let q : Question = at_name r kind name in
    subst (IsOneOf s) (none_is (rank_at r name) r.route (records_for q r.answers) e) (is_for q r.answers s fits)

pub no_set : (r : Reply) (kind : ℕ) (name : List (List ℕ)) → LacksAt r kind name → answer_set r kind name ≡ None
no_set r kind name none = let q : Question = at_name r kind name in
    (elim (records_for q r.answers) as
    (λ l. records_for q r.answers ≡ l → set_of (rank_at r name) r.route l ≡ None) [
      | [] ↦ λ _. refl
      | first ∷ others ↦ λ is.
          absurd (none first (for_is q r.answers first (subst (IsOneOf first) (sym is) (inl refl))))
    ]) refl

-- without an alias to follow there is no set of type CNAME: a question for CNAME has no set here
-- either
pub no_alias : (r : Reply) (name : List (List ℕ)) → answer_set r r.question.kind name ≡ None → alias_set r name ≡ None
    → LacksAt r 5 name
no_alias r name set alias = (elim (r.question.kind == 5) as
    (λ b. (r.question.kind == 5) ≡ b → cond b None (answer_set r 5 name) ≡ None → LacksAt r 5 name) [
      | true ↦ λ five _. subst (λ (kind : ℕ). LacksAt r kind name) (eqb-true r.question.kind 5 five)
          (lacks r r.question.kind name set)
      | false ↦ λ _ none. lacks r 5 name none
    ]) refl alias

pub other_type : (r : Reply) (name : List (List ℕ)) (p : Piece) → alias_set r name ≡ Some p → r.question.kind ≢ 5
other_type r name p e same = absurd (no (r.question.kind == 5) (eq-eqb r.question.kind 5 same) e)
  where
    no : (b : Bool) → b ≡ true → cond b None (answer_set r 5 name) ≡ Some p → ⊥
    no true t e = absurd (cc)
    no false t e = false≢true t

-- ---- the finding

set_is_no_error : (b : Bool) (p q : Piece) → cond b met_lame (met_set p) ≡ met_name_error q → ⊥
set_is_no_error true p q e = absurd (cc)
set_is_no_error false p q e = absurd (cc)

lead_is_no_error : (p q : Piece) (target : Option (List (List ℕ))) → leads p target ≡ met_name_error q → ⊥
lead_is_no_error p q None e = absurd (cc)
lead_is_no_error p q (Some target) e = absurd (cc)

set_is_no_alias : (b : Bool) (p q : Piece) (target : List (List ℕ)) → cond b met_lame (met_set p) ≡ met_alias q target
    → ⊥
set_is_no_alias true p q target e = absurd (cc)
set_is_no_alias false p q target e = absurd (cc)

other_is_no_error : (r : Reply) (name : List (List ℕ)) (a b : Bool) (q : Piece)
    → cond a met_nothing (cond b met_lame (met_no_data (no_data_at r name))) ≡ met_name_error q → ⊥
other_is_no_error r name true b q e = absurd (cc)
other_is_no_error r name false true q e = absurd (cc)
other_is_no_error r name false false q e = absurd (cc)

other_is_no_alias : (r : Reply) (name : List (List ℕ)) (a b : Bool) (q : Piece) (target : List (List ℕ))
    → cond a met_nothing (cond b met_lame (met_no_data (no_data_at r name))) ≡ met_alias q target → ⊥
other_is_no_alias r name true b q target e = absurd (cc)
other_is_no_alias r name false true q target e = absurd (cc)
other_is_no_alias r name false false q target e = absurd (cc)

-- a name error is met only with RCODE 3
rcode_is : (r : Reply) (is_first : Bool) (name : List (List ℕ)) (lacks_soa : Bool) (p : Piece)
    → denial_met r is_first name lacks_soa ≡ met_name_error p → r.rcode ≡ 3
rcode_is r is_first name lacks_soa p e = (elim (r.rcode == 3) as
    (λ b. (r.rcode == 3) ≡ b → cond b (met_name_error (name_error_at r name))
    (cond (lacks_soa && not is_first) met_nothing (cond (lacks_soa && is_referral r) met_lame
    (met_no_data (no_data_at r name)))) ≡ met_name_error p → r.rcode ≡ 3) [
      | true ↦ λ is _. eqb-true r.rcode 3 is
      | false ↦ λ _ met.
          absurd (other_is_no_error r name (lacks_soa && not is_first) (lacks_soa && is_referral r) p met)
    ]) refl e

denial_is_no_alias : (r : Reply) (is_first : Bool) (name : List (List ℕ)) (lacks_soa : Bool) (p : Piece)
    (target : List (List ℕ)) → denial_met r is_first name lacks_soa ≡ met_alias p target → ⊥
denial_is_no_alias r is_first name lacks_soa p target e =
    (elim (r.rcode == 3) as (λ b. cond b (met_name_error (name_error_at r name))
    (cond (lacks_soa && not is_first) met_nothing (cond (lacks_soa && is_referral r) met_lame
    (met_no_data (no_data_at r name)))) ≡ met_alias p target → ⊥) [
      | true ↦ λ met. absurd (cc)
      | false ↦ λ met. other_is_no_alias r name (lacks_soa && not is_first) (lacks_soa && is_referral r) p target met
    ]) e

-- the findings at a name with a name error
record MetError (r : Reply) (on : Bool) (set alias : Option Piece) : Type 0 where
  pub on_is : on ≡ true
  pub set_is : set ≡ None
  pub alias_is : alias ≡ None
  pub rcode : r.rcode ≡ 3

error_parts : (r : Reply) (is_first : Bool) (name : List (List ℕ)) (lacks_soa : Bool) (p : Piece) (on : Bool)
    (set alias : Option Piece)
    → cond on (set_or r.question.kind set (alias_or alias (denial_met r is_first name lacks_soa)))
    met_nothing ≡ met_name_error p → MetError r on set alias
error_parts r is_first name lacks_soa p false set alias e = absurd (cc)
error_parts r is_first name lacks_soa p true (Some s) alias e =
    absurd (set_is_no_error ((r.question.kind == 5) && has_many s.body) s p e)
error_parts r is_first name lacks_soa p true None (Some a) e = absurd (lead_is_no_error a p (target_of a.body) e)
error_parts r is_first name lacks_soa p true None None e =
    record { on_is = refl; set_is = refl; alias_is = refl; rcode = rcode_is r is_first name lacks_soa p e }

-- the findings at a name with an alias to follow
record MetAlias (target : List (List ℕ)) (on : Bool) (set alias : Option Piece) (p : Piece) : Type 0 where
  pub on_is : on ≡ true
  pub set_is : set ≡ None
  pub alias_is : alias ≡ Some p
  pub leads_to : target_of p.body ≡ Some target

lead_is : (a p : Piece) (there : Option (List (List ℕ))) (target : List (List ℕ)) → leads a there ≡ met_alias p target
    → (a ≡ p) × (there ≡ Some target)
lead_is a p None target e = absurd (cc)
lead_is a p (Some there) target e = (cc, ap Some (let same : there ≡ target = cc in same))

alias_parts : (r : Reply) (is_first : Bool) (name : List (List ℕ)) (lacks_soa : Bool) (p : Piece)
    (target : List (List ℕ)) (on : Bool) (set alias : Option Piece)
    → cond on (set_or r.question.kind set (alias_or alias (denial_met r is_first name lacks_soa)))
    met_nothing ≡ met_alias p target → MetAlias target on set alias p
alias_parts r is_first name lacks_soa p target false set alias e = absurd (cc)
alias_parts r is_first name lacks_soa p target true (Some s) alias e =
    absurd (set_is_no_alias ((r.question.kind == 5) && has_many s.body) s p target e)
alias_parts r is_first name lacks_soa p target true None (Some a) e =
    let both = lead_is a p (target_of a.body) target e in
    record {
      on_is = refl;
      set_is = refl;
      alias_is = ap Some both.0;
      leads_to = subst (λ (x : Piece). target_of x.body ≡ Some target) both.0 both.1;
    }
alias_parts r is_first name lacks_soa p target true None None e =
    absurd (denial_is_no_alias r is_first name lacks_soa p target e)

denied_at : (r : Reply) (is_first : Bool) (name : List (List ℕ)) (p : Piece)
    → met_at r is_first name ≡ met_name_error p → IsDeniedAt r name
denied_at r is_first name p e =
    let h : MetError r (is_on_route r name) (answer_set r r.question.kind name) (alias_set r name) =
    error_parts r is_first name (is_none (soa_for name r.question.class r.authority)) p (is_on_route r name)
    (answer_set r r.question.kind name) (alias_set r name) e in
    record {
      on_route = on_route_is r name h.on_is;
      rcode = h.rcode;
      nothing = record {
        no_set = lacks r r.question.kind name h.set_is;
        no_alias = no_alias r name h.set_is h.alias_is;
      };
    }

-- data with a target is the data of a single record
record Leads (each : List (List ℕ)) (target : List (List ℕ)) : Type 0 where
  pub datum : List ℕ
  pub each_is : each ≡ datum ∷ []
  pub leads_to : name_of_rdata datum ≡ Some target

leads_alone : (each : List (List ℕ)) (target : List (List ℕ)) → target_of (rows each) ≡ Some target → Leads each target
leads_alone [] target e = absurd (cc)
leads_alone (datum ∷ []) target e = record { datum = datum; each_is = refl; leads_to = e }
leads_alone (datum ∷ other ∷ more) target e = absurd (cc)

alias_leads : (q : Question) (rank route : ℕ) (answers : List Record) (p : Piece) (target : List (List ℕ))
    (b : Begins rank route (records_for q answers) p) → target_of p.body ≡ Some target
    → Leads (with_all_data (b.first.rdata ∷ []) b.others) target
alias_leads q rank route answers p target b e =
    leads_alone (with_all_data (b.first.rdata ∷ []) b.others) target
    (ap (λ (x : Piece). target_of x.body) b.piece_is ∙ e)

pub alias_at : (r : Reply) (is_first : Bool) (name target : List (List ℕ)) (p : Piece)
    → met_at r is_first name ≡ met_alias p target → IsAliasAt r name target
alias_at r is_first name target p e =
    let h : MetAlias target (is_on_route r name) (answer_set r r.question.kind name) (alias_set r name) p =
    alias_parts r is_first name (is_none (soa_for name r.question.class r.authority)) p target (is_on_route r name)
    (answer_set r r.question.kind name) (alias_set r name) e in
    let q : Question = at_name r 5 name in
    let there : answer_set r 5 name ≡ Some p =
    alias_is (r.question.kind == 5) (answer_set r 5 name) p h.alias_is in
    let b : Begins (rank_at r name) r.route (records_for q r.answers) p =
    begins (rank_at r name) r.route (records_for q r.answers) p there in
    let l : Leads (with_all_data (b.first.rdata ∷ []) b.others) target =
    alias_leads q (rank_at r name) r.route r.answers p target b h.leads_to in
    record {
      on_route = on_route_is r name h.on_is;
      alias = record {
        other = other_type r name p h.alias_is;
        no_set = lacks r r.question.kind name h.set_is;
        datum = l.datum;
        alone = subst (AreDataOf q r.answers) l.each_is (data_of_set q r.answers b.first b.others b.records_are);
        leads = l.leads_to;
      };
    }

-- ---- the walk ends so only there

-- fewer than `left` aliases lead from a name to a denied name
record Denies (r : Reply) (left : ℕ) (name : List (List ℕ)) : Type 0 where
  pub count : ℕ
  pub last : List (List ℕ)
  pub few : count < left
  pub lead : AliasesLead r count name last
  pub denied : IsDeniedAt r last

behind_denied : (p : Piece) (w : Walk) → (with_alias p w).end ≡ ends_denied → w.end ≡ ends_denied
behind_denied p w = by (is_lame w.end)
  where
    by : (b : Bool) → (cond b lame_walk (led_by p w)).end ≡ ends_denied → w.end ≡ ends_denied
    by true e = absurd (cc)
    by false e = e

go_denied : (r : Reply) (left : ℕ) (is_first : Bool) (name : List (List ℕ)) (rest : List (List ℕ) → Walk) (met : AtName)
    → met_at r is_first name ≡ met
    → ((target : List (List ℕ)) → (rest target).end ≡ ends_denied → Denies r left target)
    → (go_on rest name met).end ≡ ends_denied → Denies r (suc left) name
go_denied r left is_first name rest met_nothing is h e = absurd (cc)
go_denied r left is_first name rest (met_set p) is h e = absurd (cc)
go_denied r left is_first name rest (met_no_data p) is h e = absurd (cc)
go_denied r left is_first name rest (met_name_error p) is h e =
    record { count = 0; last = name; few = omega arith; lead = refl; denied = denied_at r is_first name p is }
go_denied r left is_first name rest (met_alias p target) is h e =
    let d : Denies r left target = h target (behind_denied p (rest target) e) in
    record {
      count = suc d.count;
      last = d.last;
      few = omega (arith, d.few);
      lead = (target, alias_at r is_first name target p is, d.lead);
      denied = d.denied;
    }
go_denied r left is_first name rest met_lame is h e = absurd (cc)

walk_denied : (r : Reply) (left : ℕ) (is_first : Bool) (name : List (List ℕ))
    → (walk_from r left is_first name).end ≡ ends_denied → Denies r left name
unfolding walk_from
walk_denied r zero is_first name e = absurd (cc)
walk_denied r (suc left) is_first name e = go_denied r left is_first name (λ target. walk_from r left false target)
    (met_at r is_first name) refl (λ target t. walk_denied r left false target t) e

-- ---- the denial is found at such a name

-- at a name on the route with neither the asked set nor an alias, the name's denial is found
pub denial_is_met : (r : Reply) (is_first : Bool) (name : List (List ℕ))
    → route_of r.config.routes name ≡ Some r.route → HasNothingAt r name
    → met_at r is_first name ≡ denial_at r is_first name
denial_is_met r is_first name on_route nothing =
    let denial : AtName = denial_at r is_first name in
    cond-true (is_on_route r name) (set_or r.question.kind (answer_set r r.question.kind name)
    (alias_or (alias_set r name) denial)) met_nothing (is_on r name on_route)
    ∙ ap (λ (o : Option Piece). set_or r.question.kind o (alias_or (alias_set r name) denial))
    (no_set r r.question.kind name nothing.no_set)
    ∙ ap (λ (o : Option Piece). alias_or o denial)
    (none_either (r.question.kind == 5) (answer_set r 5 name) (no_set r 5 name nothing.no_alias))
  where
    none_either : (b : Bool) (o : Option Piece) → o ≡ None → cond b None o ≡ None
    none_either true o e = refl
    none_either false o e = e

pub error_met : (r : Reply) (is_first : Bool) (name : List (List ℕ)) → IsDeniedAt r name
    → met_at r is_first name ≡ met_name_error (name_error_at r name)
error_met r is_first name d =
    denial_is_met r is_first name d.on_route d.nothing
    ∙ cond-true (r.rcode == 3) (met_name_error (name_error_at r name)) _ (eq-eqb r.rcode 3 d.rcode)

-- a list of exactly one datum
one_list : (each : List (List ℕ)) (datum : List ℕ) → ((x : List ℕ) → IsOneOf x each → x ≡ datum) → NoneTwice each
    → IsOneOf datum each → each ≡ datum ∷ []
one_list [] datum all once there = absurd there
one_list (x ∷ []) datum all once there = ap (λ (y : List ℕ). y ∷ []) (all x (inl refl))
one_list (x ∷ y ∷ more) datum all once there =
    absurd (once.0 (inl (all x (inl refl) ∙ sym (all y (inr (inl refl))))))

-- lists of a question's data are equal, if one has a single datum
same_data : (q : Question) (records : List Record) (each : List (List ℕ)) (datum : List ℕ) → AreDataOf q records each
    → AreDataOf q records (datum ∷ []) → each ≡ datum ∷ []
same_data q records each datum a b =
    one_list each datum
    (λ x there. let d = a.only x there in sym d.datum_is ∙ only_one d.r.rdata datum (b.whole d.r d.fits)) a.once
    (let d = b.only datum (inl refl) in subst (λ (x : List ℕ). IsOneOf x each) d.datum_is (a.whole d.r d.fits))

-- the alias piece of a name with an alias
pub record HasAlias (r : Reply) (name target : List (List ℕ)) : Type 0 where
  pub alias : Piece
  pub there : answer_set r 5 name ≡ Some alias
  pub leads_to : target_of alias.body ≡ Some target

pub has_alias : (r : Reply) (name target : List (List ℕ)) → IsLoneAlias r name target → HasAlias r name target
has_alias r name target a = let q : Question = at_name r 5 name in
    (elim (records_for q r.answers) as (λ l. records_for q r.answers ≡ l → HasAlias r name target) [
      | [] ↦ λ is. let d = a.alone.only a.datum (inl refl) in
          absurd (subst (IsOneOf d.r) is (is_for q r.answers d.r d.fits))
      | first ∷ others ↦ λ is.
          let each : List (List ℕ) = with_all_data (first.rdata ∷ []) others in
          let one : each ≡ a.datum ∷ [] =
          same_data q r.answers each a.datum (data_of_set q r.answers first others is) a.alone in
          record {
            alias = set_with (rank_at r name) r.route first others;
            there = ap (set_of (rank_at r name) r.route) is;
            leads_to = ap (λ (l : List (List ℕ)). target_of (rows l)) one ∙ a.leads;
          }
    ]) refl

pub alias_met : (r : Reply) (is_first : Bool) (name target : List (List ℕ))
    → route_of r.config.routes name ≡ Some r.route → (a : IsLoneAlias r name target)
    (h : HasAlias r name target) → met_at r is_first name ≡ met_alias h.alias target
alias_met r is_first name target on_route a h =
    let denial : AtName = denial_at r is_first name in
    cond-true (is_on_route r name) (set_or r.question.kind (answer_set r r.question.kind name)
    (alias_or (alias_set r name) denial)) met_nothing (is_on r name on_route)
    ∙ ap (λ (o : Option Piece). set_or r.question.kind o (alias_or (alias_set r name) denial))
    (no_set r r.question.kind name a.no_set)
    ∙ ap (λ (o : Option Piece). alias_or o denial)
    (cond-false (r.question.kind == 5) None (answer_set r 5 name) (ne_eqb r.question.kind 5 a.other) ∙ h.there)
    ∙ ap (leads h.alias) h.leads_to

denied_behind : (p : Piece) (w : Walk) → w.end ≡ ends_denied → (with_alias p w).end ≡ ends_denied
denied_behind p w e = ap (λ (x : Walk). x.end) (cond-false (is_lame w.end) lame_walk (led_by p w) (ap is_lame e)) ∙ e

denies : (r : Reply) (left count : ℕ) (is_first : Bool) (name last : List (List ℕ)) → count < left
    → AliasesLead r count name last → IsDeniedAt r last → (walk_from r left is_first name).end ≡ ends_denied
unfolding walk_from
denies r zero count is_first name last few lead d = absurd (omega (arith, few))
denies r (suc left) zero is_first name last few lead d =
    ap (λ (met : AtName). (go_on (λ target. walk_from r left false target) name met).end)
    (error_met r is_first name (subst (IsDeniedAt r) (sym lead) d))
denies r (suc left) (suc count) is_first name last few lead d =
    let h : HasAlias r name lead.0 = has_alias r name lead.0 lead.1.alias in
    ap (λ (met : AtName). (go_on (λ target. walk_from r left false target) name met).end)
    (alias_met r is_first name lead.0 lead.1.on_route lead.1.alias h)
    ∙ denied_behind h.alias (walk_from r left false lead.0)
    (denies r left count false lead.0 last (omega (arith, few)) lead.2 d)

pub denies_exactly : DeniesExactly
denies_exactly = record {
  only = λ c m q route e.
      let r : Reply = reply_of c m q route in
      let d : Denies r most_aliases q.name =
      walk_denied r most_aliases true q.name (sym (same_end r (own_walk r)) ∙ e) in
      record { count = d.count; last = d.last; few = d.few; lead = d.lead; denied = d.denied };
  each = λ c m q route h.
      let r : Reply = reply_of c m q route in
      same_end r (own_walk r) ∙ denies r most_aliases h.count true q.name h.last h.few h.lead h.denied;
}
