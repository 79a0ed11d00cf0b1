-- A walk ends with NODATA exactly if the bare name at the aliases' end has an SOA, or is the asked
-- name in a reply without referral.
use Rattle.std.proofs.Common.{◌≡◌, ℕ, zero, suc, ◌<◌, Bool, true, false, cond, ◌⊎◌, inl, inr, List, [], ◌∷◌}
use Rattle.std.proofs.Common.{Option, None, Some, refl, sym, ap, ◌∙◌, subst, arith}
use Rattle.std.specs.Prelude.{◌==◌, ◌&&◌, ◌||◌, not, is_none}
use Rattle.std.specs.List.{find, list_any}
use Rattle.std.proofs.lemmas.Bool.{cond-false, cond_both, eqb-true, eq-eqb, false≢true, ne_eqb, both_ways, or_left}
use Rattle.std.proofs.lemmas.Bool.{or_right, cases_Bool}
use Rattle.dns_message.specs.Values.{Record}
use Rattle.trust_rank.specs.Values.{Piece, End, found, ends_no_data, ends_denied, elsewhere, lame, Walk, Reply}
use Rattle.trust_rank.specs.Values.{reply_of}
use Rattle.trust_rank.specs.Denials.{is_soa_for, soa_for}
use Rattle.trust_rank.specs.Walks.{AtName, met_nothing, met_set, met_no_data, met_name_error, met_alias, met_lame}
use Rattle.trust_rank.specs.Walks.{is_on_route, answer_set, alias_set, has_many, target_of, is_name_server}
use Rattle.trust_rank.specs.Walks.{is_referral, name_error_at, no_data_at, denial_met, leads, alias_or}
use Rattle.trust_rank.specs.Walks.{set_or, met_at, most_aliases, lame_walk, is_lame, with_alias, go_on, walk_from}
use Rattle.cache_laws.specs.Lists.{IsOneOf}
use Rattle.cache_laws.specs.Denials.{AliasesLead}
use Rattle.cache_laws.specs.Ends.{IsBareAt, LeadsToBare, HasSoaFor, IsReferral, NoDataExactly}
use Rattle.cache_laws.specs.Ends.{AliasesAloneLeadOn, ReferralsAreLame}
use Rattle.cache_laws.proofs.Walks.{own_walk, same_end, led_by}
use Rattle.cache_laws.proofs.Lifetimes.{soa_of_test, test_of_soa}
use Rattle.cache_laws.proofs.Denials.{on_route_is, lacks, no_alias, alias_at, denial_is_met, HasAlias, has_alias}
use Rattle.cache_laws.proofs.Denials.{alias_met}

-- ---- the SOA of a name, and referrals

-- the authority section has no SOA for the name
abbrev pub lacks_soa : Reply → List (List ℕ) → Bool
lacks_soa r name = is_none (soa_for name r.question.class r.authority)

is_found : (test : Record → Bool) (records : List Record) (s : Record) → IsOneOf s records → test s ≡ true
    → is_none (find test records) ≡ false
is_found test [] s there is = absurd there
is_found test (x ∷ records) s (inl one) is = ap (λ (b : Bool). is_none (cond b (Some x) (find test records)))
    (subst (λ (y : Record). test y ≡ true) one is)
is_found test (x ∷ records) s (inr rest) is =
    cond_both (test x) (Some x) (find test records) (λ (o : Option Record). is_none o ≡ false) (λ _. refl)
    (λ _. is_found test records s rest is)

record Passes (test : Record → Bool) (records : List Record) : Type 0 where
  pub s : Record
  pub there : IsOneOf s records
  pub passes : test s ≡ true

one_more : (test : Record → Bool) (x : Record) (records : List Record) → Passes test records
    → Passes test (x ∷ records)
one_more test x records h = record { s = h.s; there = inr h.there; passes = h.passes }

one_is : (test : Record → Bool) (records : List Record) → is_none (find test records) ≡ false → Passes test records
one_is test [] e = absurd (false≢true (sym e))
one_is test (x ∷ records) e = (elim (test x) as
    (λ b. test x ≡ b → is_none (cond b (Some x) (find test records)) ≡ false → Passes test (x ∷ records)) [
      | true ↦ λ is _. record { s = x; there = inl refl; passes = is }
      | false ↦ λ _ rest. one_more test x records (one_is test records rest)
    ]) refl e

pub soa_is_there : (r : Reply) (name : List (List ℕ)) → lacks_soa r name ≡ false → HasSoaFor r name
soa_is_there r name e =
    let one : Passes (is_soa_for name r.question.class) r.authority =
    one_is (is_soa_for name r.question.class) r.authority e in
    record { s = one.s; there = one.there; fits = soa_of_test r.question.class name one.s one.passes }

pub has_soa : (r : Reply) (name : List (List ℕ)) → HasSoaFor r name → lacks_soa r name ≡ false
has_soa r name h = is_found (is_soa_for name r.question.class) r.authority h.s h.there
    (test_of_soa r.question.class name h.s h.fits)

pub no_soa : (r : Reply) (name : List (List ℕ)) → (HasSoaFor r name → ⊥) → lacks_soa r name ≡ true
no_soa r name none = elim (cases_Bool (lacks_soa r name)) [
  | inl is ↦ is
  | inr there ↦ absurd (none (soa_is_there r name there))
]

any_server : (records : List Record) (s : Record) → IsOneOf s records → s.kind ≡ 2
    → list_any is_name_server records ≡ true
any_server [] s there two = absurd there
any_server (x ∷ records) s (inl one) two =
    or_left (is_name_server x) (list_any is_name_server records)
    (subst (λ (y : Record). is_name_server y ≡ true) one (eq-eqb s.kind 2 two))
any_server (x ∷ records) s (inr rest) two =
    or_right (is_name_server x) (list_any is_name_server records) (any_server records s rest two)

a_server : (records : List Record) → list_any is_name_server records ≡ true → Passes is_name_server records
a_server [] e = absurd (false≢true e)
a_server (x ∷ records) e = elim (cases_Bool (is_name_server x)) [
  | inl is ↦ record { s = x; there = inl refl; passes = is }
  | inr other ↦ one_more is_name_server x records (a_server records (second (is_name_server x) (list_any is_name_server records) other e))
]
  where
    second : (b o : Bool) → b ≡ false → (b || o) ≡ true → o ≡ true
    second true o f t = absurd (false≢true (sym f))
    second false o f t = t

pub refers : (r : Reply) → IsReferral r → is_referral r ≡ true
refers r h = by r.is_authoritative h.clear (any_server r.authority h.s h.there h.kind)
  where
    by : (aa : Bool) → aa ≡ false → list_any is_name_server r.authority ≡ true
        → (not aa && list_any is_name_server r.authority) ≡ true
    by true clear any = absurd (false≢true (sym clear))
    by false clear any = any

pub is_a_referral : (r : Reply) → is_referral r ≡ true → IsReferral r
is_a_referral r e = by r.is_authoritative refl e
  where
    by : (aa : Bool) → r.is_authoritative ≡ aa → (not aa && list_any is_name_server r.authority) ≡ true → IsReferral r
    by true is any = absurd (false≢true any)
    by false is any =
        let one : Passes is_name_server r.authority = a_server r.authority any in
        record { clear = is; s = one.s; there = one.there; kind = eqb-true one.s.kind 2 one.passes }

pub not_referral : (r : Reply) → (IsReferral r → ⊥) → is_referral r ≡ false
not_referral r none = elim (cases_Bool (is_referral r)) [
  | inl is ↦ absurd (none (is_a_referral r is))
  | inr other ↦ other
]

-- ---- the finding at a bare name

-- by whether the name lacks an SOA, is the asked name, and is in a referral
abbrev pub bare_by : Reply → List (List ℕ) → Bool → Bool → Bool → AtName
bare_by r name soa is_first referral =
    cond (soa && not is_first) met_nothing (cond (soa && referral) met_lame (met_no_data (no_data_at r name)))

pub bare_met : (r : Reply) (is_first : Bool) (name : List (List ℕ)) → IsBareAt r name
    → met_at r is_first name ≡ bare_by r name (lacks_soa r name) is_first (is_referral r)
bare_met r is_first name b =
    denial_is_met r is_first name b.on_route b.nothing
    ∙ cond-false (r.rcode == 3) (met_name_error (name_error_at r name)) _ (ne_eqb r.rcode 3 b.other)

-- ---- the walk ends as at the name at the aliases' end

pub lame_is : (end : End) → is_lame end ≡ true → end ≡ lame
lame_is found e = absurd (false≢true e)
lame_is ends_no_data e = absurd (false≢true e)
lame_is ends_denied e = absurd (false≢true e)
lame_is (elsewhere name) e = absurd (false≢true e)
lame_is lame e = refl

end_behind : (p : Piece) (w : Walk) → (with_alias p w).end ≡ w.end
end_behind p w = cond_both (is_lame w.end) lame_walk (led_by p w) (λ (x : Walk). x.end ≡ w.end)
    (λ is. sym (lame_is w.end is)) (λ _. refl)

-- a name is the first only without an alias taken
abbrev stays_first : Bool → ℕ → Bool
stays_first is_first zero = is_first
stays_first is_first (suc count) = false

never_first : (count : ℕ) → stays_first false count ≡ false
never_first zero = refl
never_first (suc count) = refl

ends_at : (r : Reply) (end : End) (left count : ℕ) (is_first : Bool) (name last : List (List ℕ)) → count < left
    → AliasesLead r count name last
    → ((rest : List (List ℕ) → Walk) → (go_on rest last (met_at r (stays_first is_first count) last)).end ≡ end)
    → (walk_from r left is_first name).end ≡ end
unfolding walk_from
ends_at r end zero count is_first name last few lead h = absurd (omega (arith, few))
ends_at r end (suc left) zero is_first name last few lead h =
    subst (λ (n : List (List ℕ)). (go_on (λ target. walk_from r left false target) n (met_at r is_first n)).end ≡ end)
    (sym lead) (h (λ target. walk_from r left false target))
ends_at r end (suc left) (suc count) is_first name last few lead h =
    let a : HasAlias r name lead.0 = has_alias r name lead.0 lead.1.alias in
    ap (λ (met : AtName). (go_on (λ target. walk_from r left false target) name met).end)
    (alias_met r is_first name lead.0 lead.1.on_route lead.1.alias a)
    ∙ end_behind a.alias (walk_from r left false lead.0)
    ∙ ends_at r end left count false lead.0 last (omega (arith, few)) lead.2
    (λ rest. subst (λ (b : Bool). (go_on rest last (met_at r b last)).end ≡ end) (sym (never_first count)) (h rest))

-- the walk ends as given by the finding
bare_end : (r : Reply) (end : End) (count : ℕ) (last : List (List ℕ)) → LeadsToBare r count last
    → ((rest : List (List ℕ) → Walk)
    → (go_on rest last (bare_by r last (lacks_soa r last) (stays_first true count) (is_referral r))).end ≡ end)
    → (own_walk r).end ≡ end
bare_end r end count last h is =
    ends_at r end most_aliases count true r.question.name last h.few h.lead
    (λ rest. ap (λ (met : AtName). (go_on rest last met).end) (bare_met r (stays_first true count) last h.bare)
    ∙ is rest)

-- ---- the walk ends with NODATA only at such a name

set_is_no_data : (b : Bool) (p q : Piece) → cond b met_lame (met_set p) ≡ met_no_data q → ⊥
set_is_no_data true p q e = absurd (cc)
set_is_no_data false p q e = absurd (cc)

lead_is_no_data : (p q : Piece) (target : Option (List (List ℕ))) → leads p target ≡ met_no_data q → ⊥
lead_is_no_data p q None e = absurd (cc)
lead_is_no_data p q (Some target) e = absurd (cc)

denial_parts : (x y p : Piece) (three soa is_first referral : Bool)
    → cond three (met_name_error x) (cond (soa && not is_first) met_nothing
    (cond (soa && referral) met_lame (met_no_data y))) ≡ met_no_data p
    → (three ≡ false) × ((soa ≡ false) ⊎ ((is_first ≡ true) × (referral ≡ false)))
denial_parts x y p true soa is_first referral e = absurd (cc)
denial_parts x y p false false is_first referral e = (refl, inl refl)
denial_parts x y p false true false referral e = absurd (cc)
denial_parts x y p false true true true e = absurd (cc)
denial_parts x y p false true true false e = (refl, inr (refl, refl))

-- the findings at a name with NODATA
record MetNoData (r : Reply) (is_first : Bool) (name : List (List ℕ)) (on : Bool) (set alias : Option Piece)
    : Type 0 where
  pub on_is : on ≡ true
  pub set_is : set ≡ None
  pub alias_is : alias ≡ None
  pub rcode : (r.rcode == 3) ≡ false
  pub stated : (lacks_soa r name ≡ false) ⊎ ((is_first ≡ true) × (is_referral r ≡ false))

no_data_parts : (r : Reply) (is_first : Bool) (name : List (List ℕ)) (p : Piece) (on : Bool)
    (set alias : Option Piece)
    → cond on (set_or r.question.kind set (alias_or alias (denial_met r is_first name (lacks_soa r name))))
    met_nothing ≡ met_no_data p → MetNoData r is_first name on set alias
no_data_parts r is_first name p false set alias e = absurd (cc)
no_data_parts r is_first name p true (Some s) alias e =
    absurd (set_is_no_data ((r.question.kind == 5) && has_many s.body) s p e)
no_data_parts r is_first name p true None (Some a) e = absurd (lead_is_no_data a p (target_of a.body) e)
no_data_parts r is_first name p true None None e =
    let parts = denial_parts (name_error_at r name) (no_data_at r name) p (r.rcode == 3) (lacks_soa r name) is_first
    (is_referral r) e in
    record { on_is = refl; set_is = refl; alias_is = refl; rcode = parts.0; stated = parts.1 }

no_data_met : (r : Reply) (is_first : Bool) (name : List (List ℕ)) (p : Piece)
    → met_at r is_first name ≡ met_no_data p
    → MetNoData r is_first name (is_on_route r name) (answer_set r r.question.kind name) (alias_set r name)
no_data_met r is_first name p e =
    no_data_parts r is_first name p (is_on_route r name) (answer_set r r.question.kind name) (alias_set r name) e

-- fewer than `left` aliases lead from a name, the asked name or a later name, to a name without
-- data
record Lacking (r : Reply) (left : ℕ) (is_first : Bool) (name : List (List ℕ)) : Type 0 where
  pub count : ℕ
  pub last : List (List ℕ)
  pub few : count < left
  pub lead : AliasesLead r count name last
  pub bare : IsBareAt r last
  pub stated : HasSoaFor r last ⊎ ((count ≡ 0) × (is_first ≡ true) × (IsReferral r → ⊥))

lacking_here : (r : Reply) (left : ℕ) (is_first : Bool) (name : List (List ℕ)) (p : Piece)
    → met_at r is_first name ≡ met_no_data p → Lacking r (suc left) is_first name
lacking_here r left is_first name p e =
    let h : MetNoData r is_first name (is_on_route r name) (answer_set r r.question.kind name) (alias_set r name) =
    no_data_met r is_first name p e in
    record {
      count = 0;
      last = name;
      few = omega arith;
      lead = refl;
      bare = record {
        on_route = on_route_is r name h.on_is;
        other = λ is. both_ways (r.rcode == 3) h.rcode (eq-eqb r.rcode 3 is);
        nothing = record {
          no_set = lacks r r.question.kind name h.set_is;
          no_alias = no_alias r name h.set_is h.alias_is;
        };
      };
      stated = elim h.stated [
        | inl there ↦ inl (soa_is_there r name there)
        | inr own ↦ inr (refl, own.0, λ is. both_ways (is_referral r) own.1 (refers r is))
      ];
    }

lacking_on : (r : Reply) (left : ℕ) (is_first : Bool) (name target : List (List ℕ)) (p : Piece)
    → met_at r is_first name ≡ met_alias p target → Lacking r left false target → Lacking r (suc left) is_first name
lacking_on r left is_first name target p e d = record {
  count = suc d.count;
  last = d.last;
  few = omega (arith, d.few);
  lead = (target, alias_at r is_first name target p e, d.lead);
  bare = d.bare;
  stated = elim d.stated [
    | inl there ↦ inl there
    | inr own ↦ absurd (false≢true own.1)
  ];
}

behind_no_data : (p : Piece) (w : Walk) → (with_alias p w).end ≡ ends_no_data → w.end ≡ ends_no_data
behind_no_data p w e = sym (end_behind p w) ∙ e

go_lacking : (r : Reply) (left : ℕ) (is_first : Bool) (name : List (List ℕ)) (rest : List (List ℕ) → Walk)
    (met : AtName) → met_at r is_first name ≡ met
    → ((target : List (List ℕ)) → (rest target).end ≡ ends_no_data → Lacking r left false target)
    → (go_on rest name met).end ≡ ends_no_data → Lacking r (suc left) is_first name
go_lacking r left is_first name rest met_nothing is h e = absurd (cc)
go_lacking r left is_first name rest (met_set p) is h e = absurd (cc)
go_lacking r left is_first name rest (met_no_data p) is h e = lacking_here r left is_first name p is
go_lacking r left is_first name rest (met_name_error p) is h e = absurd (cc)
go_lacking r left is_first name rest (met_alias p target) is h e =
    lacking_on r left is_first name target p is (h target (behind_no_data p (rest target) e))
go_lacking r left is_first name rest met_lame is h e = absurd (cc)

walk_lacking : (r : Reply) (left : ℕ) (is_first : Bool) (name : List (List ℕ))
    → (walk_from r left is_first name).end ≡ ends_no_data → Lacking r left is_first name
unfolding walk_from
walk_lacking r zero is_first name e = absurd (cc)
walk_lacking r (suc left) is_first name e = go_lacking r left is_first name (λ target. walk_from r left false target)
    (met_at r is_first name) refl (λ target t. walk_lacking r left false target t) e

-- ---- the laws

told_no_data : (r : Reply) (count : ℕ) (last : List (List ℕ))
    → HasSoaFor r last ⊎ ((count ≡ 0) × (IsReferral r → ⊥)) → (rest : List (List ℕ) → Walk)
    → (go_on rest last (bare_by r last (lacks_soa r last) (stays_first true count) (is_referral r))).end ≡ ends_no_data
told_no_data r count last (inl soa) rest =
    ap (λ (b : Bool). (go_on rest last (bare_by r last b (stays_first true count) (is_referral r))).end)
    (has_soa r last soa)
told_no_data r count last (inr own) rest =
    ap (λ (n : ℕ). (go_on rest last (bare_by r last (lacks_soa r last) (stays_first true n) (is_referral r))).end) own.0
    ∙ ap (λ (b : Bool). (go_on rest last (bare_by r last (lacks_soa r last) true b)).end) (not_referral r own.1)
    ∙ either (lacks_soa r last)
  where
    either : (b : Bool) → (go_on rest last (bare_by r last b true false)).end ≡ ends_no_data
    either true = refl
    either false = refl

pub no_data_exactly : NoDataExactly
no_data_exactly = record {
  only = λ c m q route e.
      let r : Reply = reply_of c m q route in
      let d : Lacking r most_aliases true q.name =
      walk_lacking r most_aliases true q.name (sym (same_end r (own_walk r)) ∙ e) in
      record {
        count = d.count;
        last = d.last;
        leads = record { few = d.few; lead = d.lead; bare = d.bare };
        stated = elim d.stated [
          | inl there ↦ inl there
          | inr own ↦ inr (own.0, own.2)
        ];
      };
  each = λ c m q route h.
      let r : Reply = reply_of c m q route in
      same_end r (own_walk r)
      ∙ bare_end r ends_no_data h.count h.last h.leads (told_no_data r h.count h.last h.stated);
}

pub aliases_alone_lead_on : AliasesAloneLeadOn
aliases_alone_lead_on c m q route count last h none =
    let r : Reply = reply_of c m q route in
    same_end r (own_walk r)
    ∙ bare_end r (elsewhere last) (suc count) last h
    (λ rest. ap (λ (b : Bool). (go_on rest last (bare_by r last b false (is_referral r))).end) (no_soa r last none))

pub referrals_are_lame : ReferralsAreLame
referrals_are_lame c m q route bare none others =
    let r : Reply = reply_of c m q route in
    same_end r (own_walk r)
    ∙ bare_end r lame 0 q.name (record { few = omega arith; lead = refl; bare = bare })
    (λ rest. ap (λ (b : Bool). (go_on rest q.name (bare_by r q.name b true (is_referral r))).end)
    (no_soa r q.name none)
    ∙ ap (λ (b : Bool). (go_on rest q.name (bare_by r q.name true true b)).end) (refers r others))
