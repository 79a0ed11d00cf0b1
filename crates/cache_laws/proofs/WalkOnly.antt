-- Pieces and an end allowed by the definitions are the walk's.
use Rattle.std.proofs.Common.{◌≡◌, ℕ, zero, suc, ◌+◌, ◌<◌, ◌≤◌, Bool, true, false, ◌⊎◌, inl, inr, List, []}
use Rattle.std.proofs.Common.{◌∷◌, ◌++◌, length, Option, None, Some, refl, sym, ap, ◌∙◌, subst, arith}
use Rattle.std.specs.Prelude.{◌==◌, ◌&&◌}
use Rattle.std.specs.List.{AllByRecursion}
use Rattle.std.proofs.lemmas.Bool.{cond-true, cond-false, cases_Bool, eqb-true, eq-eqb, ne_eqb, and_from, and_parts}
use Rattle.dns_message.specs.Values.{Record}
use Rattle.dns_message.specs.Messages.{AreShaped}
use Rattle.suffix_routes.specs.Values.{AllDiffer}
use Rattle.trust_rank.specs.Values.{no_data, denied, Piece, End, found, ends_no_data, ends_denied, elsewhere, lame}
use Rattle.trust_rank.specs.Values.{Walk, Reply}
use Rattle.trust_rank.specs.Denials.{soa_for}
use Rattle.trust_rank.specs.Walks.{met_nothing, met_set, met_no_data, met_lame}
use Rattle.trust_rank.specs.Walks.{is_on_route, answer_set, alias_set, has_many, is_referral}
use Rattle.trust_rank.specs.Walks.{name_error_at, no_data_at, denial_at, leads, alias_or, set_or, met_at}
use Rattle.trust_rank.specs.Walks.{most_aliases, ending, lame_walk, is_lame, with_alias, go_on, walk_from}
use Rattle.cache_laws.specs.Ranks.{IsRanked}
use Rattle.cache_laws.specs.Sets.{IsRecordFor}
use Rattle.cache_laws.specs.Denials.{question_at, IsLoneAlias}
use Rattle.cache_laws.specs.Carried.{IsPieceOf, IsSetAt, IsOnRoute, LeadThrough, AreAliases, HasTwoAliases, HasNoTarget}
use Rattle.cache_laws.specs.Carried.{IsFoundAt, IsErrorAt, IsNoDataAt, IsLeftOpen, HasToBeAsked}
use Rattle.cache_laws.specs.Carried.{IsLameAt, EndsSo, IsWalked, AreWalked}
use Rattle.cache_laws.proofs.Walks.{own_walk}
use Rattle.cache_laws.proofs.Denials.{lacks, no_set, error_met, HasAlias, has_alias, alias_met}
use Rattle.cache_laws.proofs.Ends.{lacks_soa, has_soa, no_soa, refers, not_referral, bare_by, bare_met}
use Rattle.cache_laws.proofs.Single.{one_rank, one_denial}
use Rattle.cache_laws.proofs.AtNames.{route_is, tested_on, on_by_test, each_of_reply, set_is, are_two, have_many}
use Rattle.cache_laws.proofs.AtNames.{no_target}
use Rattle.cache_laws.proofs.WalkIs.{none_yet}

-- ---- the finding at the last name

found_met : (r : Reply) (is_first : Bool) (name : List (List ℕ)) (p : Piece) → AllDiffer r.config.routes
    → IsOnRoute r name → IsPieceOf r p → IsFoundAt r name p → met_at r is_first name ≡ met_set p
found_met r is_first name p differ on of_p h =
    let there : answer_set r r.question.kind name ≡ Some p = set_is r r.question.kind name p of_p h.set in
    let alone : ((r.question.kind == 5) && has_many p.body) ≡ false =
    elim (cases_Bool ((r.question.kind == 5) && has_many p.body)) [
      | inl are ↦
          let both = and_parts (r.question.kind == 5) (has_many p.body) are in
          let five : r.question.kind ≡ 5 = eqb-true r.question.kind 5 both.0 in
          absurd (h.one five (are_two r name p
          (subst (λ (k : ℕ). answer_set r k name ≡ Some p) five there) both.1))
      | inr arent ↦ arent
    ] in
    cond-true (is_on_route r name) (set_or r.question.kind (answer_set r r.question.kind name)
    (alias_or (alias_set r name) (denial_at r is_first name))) met_nothing (tested_on r name differ on)
    ∙ ap (λ (o : Option Piece). set_or r.question.kind o (alias_or (alias_set r name) (denial_at r is_first name)))
    there
    ∙ cond-false ((r.question.kind == 5) && has_many p.body) met_lame (met_set p) alone

same_rank : (r : Reply) (a b : Piece) → IsPieceOf r a → IsPieceOf r b → a.owner ≡ b.owner → a.rank ≡ b.rank
same_rank r a b of_a of_b owner = one_rank r.is_authoritative r.question.name b.owner a.rank b.rank
    (subst (λ (n : List (List ℕ)). IsRanked r.is_authoritative r.question.name n a.rank) owner of_a.ranked) of_b.ranked

error_is : (r : Reply) (name : List (List ℕ)) (p : Piece) → AreShaped r.authority → IsPieceOf r p → IsErrorAt r name p
    → name_error_at r name ≡ p
error_is r name p shaped of_p h =
    let own : Piece = name_error_at r name in
    let of_own : IsPieceOf r own = (each_of_reply r).errors name in
    let soa : Option Record = soa_for name r.question.class r.authority in
    one_denial r own p shaped (record {
      form = denied;
      first = soa;
      second = h.soa;
      first_body = refl;
      second_body = h.body;
      first_holds = of_own.denial.of_name soa refl;
      second_holds = of_p.denial.of_name h.soa h.body;
      owner = sym h.owner;
      kind = sym h.kind_is;
    }) of_own.own of_p.own (same_rank r own p of_own of_p (sym h.owner))

no_data_is : (r : Reply) (count : ℕ) (name : List (List ℕ)) (p : Piece) → AreShaped r.authority → IsPieceOf r p
    → IsNoDataAt r count name p → no_data_at r name ≡ p
no_data_is r count name p shaped of_p h =
    let own : Piece = no_data_at r name in
    let of_own : IsPieceOf r own = (each_of_reply r).none name in
    let soa : Option Record = soa_for name r.question.class r.authority in
    one_denial r own p shaped (record {
      form = no_data;
      first = soa;
      second = h.soa;
      first_body = refl;
      second_body = h.body;
      first_holds = of_own.denial.of_type soa refl;
      second_holds = of_p.denial.of_type h.soa h.body;
      owner = sym h.owner;
      kind = sym h.kind_is;
    }) of_own.own of_p.own (same_rank r own p of_own of_p (sym h.owner))

-- with an SOA, or at the asked name in a reply without referral, NODATA is found
told_met : (r : Reply) (name : List (List ℕ)) (soa is_first referral : Bool)
    → (soa ≡ false) ⊎ ((is_first ≡ true) × (referral ≡ false))
    → bare_by r name soa is_first referral ≡ met_no_data (no_data_at r name)
told_met r name false is_first referral h = refl
told_met r name true is_first referral (inl has) = absurd (cc)
told_met r name true true false (inr h) = refl
told_met r name true true true (inr h) = absurd (cc)
told_met r name true false referral (inr h) = absurd (cc)

is_yet : (count : ℕ) → count ≡ 0 → none_yet count ≡ true
is_yet zero none = refl
is_yet (suc count) none = absurd (omega (arith, none))

not_yet : (count : ℕ) → 1 ≤ count → none_yet count ≡ false
not_yet zero some = absurd (omega (arith, some))
not_yet (suc count) some = refl

no_data_met : (r : Reply) (count : ℕ) (name : List (List ℕ)) (p : Piece) → AllDiffer r.config.routes
    → IsOnRoute r name → IsNoDataAt r count name p
    → met_at r (none_yet count) name ≡ met_no_data (no_data_at r name)
no_data_met r count name p differ on h =
    bare_met r (none_yet count) name
    (record { on_route = route_is r name differ on; other = h.other; nothing = h.nothing })
    ∙ told_met r name (lacks_soa r name) (none_yet count) (is_referral r) (elim h.stated [
      | inl there ↦ inl (has_soa r name there)
      | inr own ↦ inr (is_yet count own.0, not_referral r own.1)
    ])

open_met : (r : Reply) (count : ℕ) (name : List (List ℕ)) → AllDiffer r.config.routes → IsLeftOpen r count name
    → met_at r (none_yet count) name ≡ met_nothing
open_met r count name differ h =
    bare_met r (none_yet count) name
    (record { on_route = route_is r name differ h.on_route; other = h.other; nothing = h.nothing })
    ∙ ap (λ (soa : Bool). bare_by r name soa (none_yet count) (is_referral r)) (no_soa r name h.no_soa)
    ∙ ap (λ (is_first : Bool). bare_by r name true is_first (is_referral r)) (not_yet count h.led)

off_met : (r : Reply) (is_first : Bool) (name : List (List ℕ)) → (IsOnRoute r name → ⊥)
    → met_at r is_first name ≡ met_nothing
off_met r is_first name off = cond-false (is_on_route r name) (set_or r.question.kind
    (answer_set r r.question.kind name) (alias_or (alias_set r name) (denial_at r is_first name))) met_nothing
    (elim (cases_Bool (is_on_route r name)) [
      | inl is ↦ absurd (off (on_by_test r name is))
      | inr isnt ↦ isnt
    ])

-- the piece of a list of one is of the reply
alone_of : (r : Reply) (closing : List Piece) (p : Piece) → closing ≡ p ∷ [] → AllByRecursion (IsPieceOf r) closing
    → IsPieceOf r p
alone_of r closing p alone all = (subst (AllByRecursion (IsPieceOf r)) alone all).0

closes : (r : Reply) (left count : ℕ) (name : List (List ℕ)) (closing : List Piece) (end : End)
    (rest : List (List ℕ) → Walk) → AllDiffer r.config.routes → AreShaped r.authority → count + suc left ≡ 8
    → AllByRecursion (IsPieceOf r) closing → EndsSo r count name closing end
    → go_on rest name (met_at r (none_yet count) name) ≡ ending closing end
closes r left count name closing found rest differ shaped sum all c =
    ap (go_on rest name) (found_met r (none_yet count) name c.p differ c.on_route
    (alone_of r closing c.p c.alone all) c.is)
    ∙ ap (λ (ps : List Piece). ending ps found) (sym c.alone)
closes r left count name closing ends_denied rest differ shaped sum all c =
    ap (go_on rest name) (error_met r (none_yet count) name
    (record { on_route = route_is r name differ c.on_route; rcode = c.is.rcode; nothing = c.is.nothing }))
    ∙ ap (λ (p : Piece). ending (p ∷ []) ends_denied)
    (error_is r name c.p shaped (alone_of r closing c.p c.alone all) c.is)
    ∙ ap (λ (ps : List Piece). ending ps ends_denied) (sym c.alone)
closes r left count name closing ends_no_data rest differ shaped sum all c =
    ap (go_on rest name) (no_data_met r count name c.p differ c.on_route c.is)
    ∙ ap (λ (p : Piece). ending (p ∷ []) ends_no_data)
    (no_data_is r count name c.p shaped (alone_of r closing c.p c.alone all) c.is)
    ∙ ap (λ (ps : List Piece). ending ps ends_no_data) (sym c.alone)
closes r left count name closing (elsewhere last) rest differ shaped sum all h =
    ap (go_on rest name) (nothing h.3)
    ∙ ap (λ (ps : List Piece). ending ps (elsewhere name)) (sym h.1)
    ∙ ap (λ (n : List (List ℕ)). ending closing (elsewhere n)) h.2
  where
    nothing : HasToBeAsked r count name → met_at r (none_yet count) name ≡ met_nothing
    nothing (inl all) = absurd (omega (arith, all, sum))
    nothing (inr (inl off)) = off_met r (none_yet count) name off
    nothing (inr (inr left_open)) = open_met r count name differ left_open
closes r left count name closing lame rest differ shaped sum all h = absurd h

-- after eight aliases nothing is looked at
stops : (r : Reply) (count : ℕ) (name : List (List ℕ)) (closing : List Piece) (end : End) → count ≡ 8
    → EndsSo r count name closing end → ending [] (elsewhere name) ≡ ending closing end
stops r count name closing found all c = absurd (omega (arith, all, c.few))
stops r count name closing ends_denied all c = absurd (omega (arith, all, c.few))
stops r count name closing ends_no_data all c = absurd (omega (arith, all, c.few))
stops r count name closing (elsewhere last) all h =
    ap (λ (ps : List Piece). ending ps (elsewhere name)) (sym h.1)
    ∙ ap (λ (n : List (List ℕ)). ending closing (elsewhere n)) h.2
stops r count name closing lame all h = absurd h

-- ---- the whole walk

few_lead : (r : Reply) (count : ℕ) (name : List (List ℕ)) (closing : List Piece) (end : End)
    → EndsSo r count name closing end → count ≤ 8
few_lead r count name closing found c = omega (arith, c.few)
few_lead r count name closing ends_denied c = omega (arith, c.few)
few_lead r count name closing ends_no_data c = omega (arith, c.few)
few_lead r count name closing (elsewhere last) h = h.0
few_lead r count name closing lame h = absurd h

not_lame : (r : Reply) (count : ℕ) (name : List (List ℕ)) (closing : List Piece) (end : End)
    → EndsSo r count name closing end → is_lame end ≡ false
not_lame r count name closing found c = refl
not_lame r count name closing ends_denied c = refl
not_lame r count name closing ends_no_data c = refl
not_lame r count name closing (elsewhere last) h = refl
not_lame r count name closing lame h = absurd h

-- the found alias is the alias allowed by the definitions
alias_step : (r : Reply) (is_first : Bool) (name target : List (List ℕ)) (p : Piece) (pieces : List Piece)
    (end : End) (rest : List (List ℕ) → Walk) → AllDiffer r.config.routes → IsOnRoute r name
    → IsLoneAlias r name target → IsPieceOf r p → IsSetAt 5 name p → is_lame end ≡ false
    → rest target ≡ ending pieces end → go_on rest name (met_at r is_first name) ≡ ending (p ∷ pieces) end
alias_step r is_first name target p pieces end rest differ on alone of_p at lives is =
    let h : HasAlias r name target = has_alias r name target alone in
    let one : h.alias ≡ p = some_is h.alias p (sym h.there ∙ set_is r 5 name p of_p at) in
    ap (go_on rest name) (alias_met r is_first name target (route_is r name differ on) alone h)
    ∙ ap (λ (x : Piece). with_alias x (rest target)) one
    ∙ ap (with_alias p) is
    ∙ cond-false (is_lame end) lame_walk (record { pieces = p ∷ pieces; authority = []; end = end }) lives
  where
    some_is : (x y : Piece) → Some x ≡ Some y → x ≡ y
    some_is x y e = cc

walk_only : (r : Reply) (left count : ℕ) (name : List (List ℕ)) (targets : List (List (List ℕ)))
    (aliases closing : List Piece) (last : List (List ℕ)) (end : End) → AllDiffer r.config.routes
    → AreShaped r.authority → count + left ≡ 8 → LeadThrough r name targets last → AreAliases name targets aliases
    → AllByRecursion (IsPieceOf r) (aliases ++ closing) → EndsSo r (count + length targets) last closing end
    → walk_from r left (none_yet count) name ≡ ending (aliases ++ closing) end
unfolding walk_from
walk_only r zero count name [] [] closing last end differ shaped sum lead are all ends =
    let here : EndsSo r count name closing end = subst (λ (n : List (List ℕ)). EndsSo r count n closing end) (sym lead)
    (subst (λ (n : ℕ). EndsSo r n last closing end) (omega arith) ends) in
    stops r count name closing end (omega (arith, sum)) here
walk_only r (suc left) count name [] [] closing last end differ shaped sum lead are all ends =
    let here : EndsSo r count name closing end = subst (λ (n : List (List ℕ)). EndsSo r count n closing end) (sym lead)
    (subst (λ (n : ℕ). EndsSo r n last closing end) (omega arith) ends) in
    closes r left count name closing end (λ target. walk_from r left false target) differ shaped sum all here
walk_only r left count name [] (p ∷ aliases) closing last end differ shaped sum lead are all ends = absurd are
walk_only r left count name (target ∷ targets) [] closing last end differ shaped sum lead are all ends = absurd are
walk_only r zero count name (target ∷ targets) (p ∷ aliases) closing last end differ shaped sum lead are all ends =
    absurd (omega (arith, sum, few_lead r (count + length (target ∷ targets)) last closing end ends))
walk_only r (suc left) count name (target ∷ targets) (p ∷ aliases) closing last end differ shaped sum lead are all
    ends =
    alias_step r (none_yet count) name target p (aliases ++ closing) end (λ to. walk_from r left false to) differ
    lead.0 lead.1 all.0 are.0 (not_lame r (count + length (target ∷ targets)) last closing end ends)
    (walk_only r left (suc count) target targets aliases closing last end differ shaped (omega (arith, sum)) lead.2
    are.1 all.1 (subst (λ (n : ℕ). EndsSo r n last closing end) (omega arith) ends))

-- ---- a lame walk

-- the set of a given record
there_is : (r : Reply) (kind : ℕ) (name : List (List ℕ)) (s : Record)
    → IsRecordFor (question_at r kind name) r.answers s → (p : Piece) × (answer_set r kind name ≡ Some p)
there_is r kind name s fits = (elim (answer_set r kind name) as
    (λ o. answer_set r kind name ≡ o → (p : Piece) × (answer_set r kind name ≡ Some p)) [
      | None ↦ λ e. absurd (lacks r kind name e s fits)
      | Some p ↦ λ e. (p, e)
    ]) refl

lost_record : (r : Reply) (name : List (List ℕ)) → HasTwoAliases r name ⊎ HasNoTarget r name
    → (s : Record) × IsRecordFor (question_at r 5 name) r.answers s
lost_record r name (inl two) = (two.s, two.first)
lost_record r name (inr nowhere) = (nowhere.s, nowhere.fits)

lame_met : (r : Reply) (count : ℕ) (name : List (List ℕ)) → AllDiffer r.config.routes → IsOnRoute r name
    → IsLameAt r count name → met_at r (none_yet count) name ≡ met_lame
lame_met r count name differ on (inl h) =
    let there = there_is r 5 name h.two.s h.two.first in
    let asked : answer_set r r.question.kind name ≡ Some there.0 =
    subst (λ (k : ℕ). answer_set r k name ≡ Some there.0) (sym h.asked) there.1 in
    cond-true (is_on_route r name) (set_or r.question.kind (answer_set r r.question.kind name)
    (alias_or (alias_set r name) (denial_at r (none_yet count) name))) met_nothing (tested_on r name differ on)
    ∙ ap (λ (o : Option Piece). set_or r.question.kind o (alias_or (alias_set r name)
    (denial_at r (none_yet count) name))) asked
    ∙ cond-true ((r.question.kind == 5) && has_many there.0.body) met_lame (met_set there.0)
    (and_from (r.question.kind == 5) (has_many there.0.body) (eq-eqb r.question.kind 5 h.asked)
    (have_many r name there.0 there.1 h.two))
lame_met r count name differ on (inr (inl h)) =
    let one = lost_record r name h.lost in
    let there = there_is r 5 name one.0 one.1 in
    cond-true (is_on_route r name) (set_or r.question.kind (answer_set r r.question.kind name)
    (alias_or (alias_set r name) (denial_at r (none_yet count) name))) met_nothing (tested_on r name differ on)
    ∙ ap (λ (o : Option Piece). set_or r.question.kind o (alias_or (alias_set r name)
    (denial_at r (none_yet count) name))) (no_set r r.question.kind name h.no_set)
    ∙ ap (λ (o : Option Piece). alias_or o (denial_at r (none_yet count) name))
    (cond-false (r.question.kind == 5) None (answer_set r 5 name) (ne_eqb r.question.kind 5 h.other) ∙ there.1)
    ∙ ap (leads there.0) (no_target r name there.0 there.1 h.lost)
lame_met r count name differ on (inr (inr h)) =
    bare_met r (none_yet count) name
    (record { on_route = route_is r name differ on; other = h.other; nothing = h.nothing })
    ∙ ap (λ (soa : Bool). bare_by r name soa (none_yet count) (is_referral r)) (no_soa r name h.no_soa)
    ∙ ap (λ (is_first : Bool). bare_by r name true is_first (is_referral r)) (is_yet count h.first)
    ∙ ap (λ (referral : Bool). bare_by r name true true referral) (refers r h.refers)

lame_only : (r : Reply) (left count : ℕ) (name : List (List ℕ)) (targets : List (List (List ℕ)))
    (last : List (List ℕ)) → AllDiffer r.config.routes → count + left ≡ 8 → LeadThrough r name targets last
    → count + length targets < 8 → IsOnRoute r last → IsLameAt r (count + length targets) last
    → walk_from r left (none_yet count) name ≡ lame_walk
unfolding walk_from
lame_only r zero count name targets last differ sum lead few on is = absurd (omega (arith, sum, few))
lame_only r (suc left) count name [] last differ sum lead few on is =
    ap (go_on (λ target. walk_from r left false target) name) (lame_met r count name differ
    (subst (IsOnRoute r) (sym lead) on) (subst (λ (n : List (List ℕ)). IsLameAt r count n) (sym lead)
    (subst (λ (n : ℕ). IsLameAt r n last) (omega arith) is)))
lame_only r (suc left) count name (target ∷ targets) last differ sum lead few on is =
    let h : HasAlias r name target = has_alias r name target lead.1 in
    ap (go_on (λ to. walk_from r left false to) name)
    (alias_met r (none_yet count) name target (route_is r name differ lead.0) lead.1 h)
    ∙ ap (with_alias h.alias) (lame_only r left (suc count) target targets last differ (omega (arith, sum)) lead.2
    (omega (arith, few)) on (subst (λ (n : ℕ). IsLameAt r n last) (omega arith) is))

-- ---- any walk

walked_only : (r : Reply) (pieces : List Piece) (end : End) → AllDiffer r.config.routes → AreShaped r.authority
    → AllByRecursion (IsPieceOf r) pieces → IsWalked r pieces end → own_walk r ≡ ending pieces end
walked_only r pieces end differ shaped all w =
    walk_only r most_aliases 0 r.question.name w.targets w.aliases w.closing w.last end differ shaped refl w.lead w.are
    (subst (AllByRecursion (IsPieceOf r)) w.parts all)
    (subst (λ (n : ℕ). EndsSo r n w.last w.closing end) (omega arith) w.ends)
    ∙ ap (λ (ps : List Piece). ending ps end) (sym w.parts)

pub own_walk_only : (r : Reply) (pieces : List Piece) (end : End) → AllDiffer r.config.routes → AreShaped r.authority
    → AllByRecursion (IsPieceOf r) pieces → AreWalked r pieces end → own_walk r ≡ ending pieces end
own_walk_only r pieces lame differ shaped all h =
    lame_only r most_aliases 0 r.question.name h.1.targets h.1.last differ refl h.1.lead (omega (arith, h.1.few))
    h.1.on_route (subst (λ (n : ℕ). IsLameAt r n h.1.last) (omega arith) h.1.lame_is)
    ∙ ap (λ (ps : List Piece). ending ps lame) (sym h.0)
own_walk_only r pieces found differ shaped all h = walked_only r pieces found differ shaped all h
own_walk_only r pieces ends_no_data differ shaped all h = walked_only r pieces ends_no_data differ shaped all h
own_walk_only r pieces ends_denied differ shaped all h = walked_only r pieces ends_denied differ shaped all h
own_walk_only r pieces (elsewhere name) differ shaped all h =
    walked_only r pieces (elsewhere name) differ shaped all h
