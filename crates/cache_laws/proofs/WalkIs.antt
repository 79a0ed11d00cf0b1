-- The walk of a reply is allowed by the definitions.
use Rattle.std.proofs.Common.{◌≡◌, ℕ, zero, suc, ◌+◌, ◌<◌, Bool, true, false, cond, inl, inr, List, []}
use Rattle.std.proofs.Common.{◌∷◌, ◌++◌, length, Option, None, Some, refl, ap, subst, arith}
use Rattle.std.specs.Prelude.{◌==◌, ◌&&◌, not}
use Rattle.std.proofs.lemmas.Bool.{eqb-true, eq-eqb, both_ways, and_from, and_parts}
use Rattle.suffix_routes.specs.Values.{AllDiffer}
use Rattle.trust_rank.specs.Values.{Piece, End, found, ends_no_data, ends_denied, elsewhere, lame, Walk, Reply}
use Rattle.trust_rank.specs.Denials.{soa_for}
use Rattle.trust_rank.specs.Walks.{met_nothing, met_set, met_no_data, met_name_error, met_alias, met_lame}
use Rattle.trust_rank.specs.Walks.{is_on_route, answer_set, alias_set, has_many, target_of, is_referral}
use Rattle.trust_rank.specs.Walks.{name_error_at, no_data_at, denial_at, leads, alias_or, set_or}
use Rattle.trust_rank.specs.Walks.{met_at, most_aliases, lame_walk, is_lame, with_alias, go_on, walk_from}
use Rattle.cache_laws.specs.Denials.{IsLoneAlias, HasNothingAt}
use Rattle.cache_laws.specs.Carried.{IsSetAt, IsOnRoute, LeadThrough, AreAliases}
use Rattle.cache_laws.specs.Carried.{IsLameAt, EndsSo, IsWalked, IsLame, AreWalked}
use Rattle.cache_laws.proofs.Walks.{alias_is, own_walk, led_by}
use Rattle.cache_laws.proofs.Denials.{lacks, no_alias, other_type, alias_at}
use Rattle.cache_laws.proofs.Ends.{lacks_soa, soa_is_there, has_soa, refers, is_a_referral}
use Rattle.cache_laws.proofs.AtNames.{on_by_test, off_by_test, set_at, are_two, have_many, lost_way}

-- the walk goes on from a name after `count` aliases
pub record GoesFrom (r : Reply) (count : ℕ) (name : List (List ℕ)) (pieces : List Piece) (end : End) : Type 0 where
  pub targets : List (List (List ℕ))
  pub last : List (List ℕ)
  pub lead : LeadThrough r name targets last
  pub aliases : List Piece
  pub closing : List Piece
  pub parts : pieces ≡ aliases ++ closing
  pub are : AreAliases name targets aliases
  pub ends : EndsSo r (count + length targets) last closing end

-- the walk is lame here or further on
pub record LameFrom (r : Reply) (count : ℕ) (name : List (List ℕ)) : Type 0 where
  pub targets : List (List (List ℕ))
  pub last : List (List ℕ)
  pub lead : LeadThrough r name targets last
  pub few : count + length targets < 8
  pub on_route : IsOnRoute r last
  pub lame_is : IsLameAt r (count + length targets) last

abbrev Goes : Reply → ℕ → List (List ℕ) → List Piece → End → Type 0
Goes r count name pieces lame = (pieces ≡ []) × LameFrom r count name
Goes r count name pieces found = GoesFrom r count name pieces found
Goes r count name pieces ends_no_data = GoesFrom r count name pieces ends_no_data
Goes r count name pieces ends_denied = GoesFrom r count name pieces ends_denied
Goes r count name pieces (elsewhere last) = GoesFrom r count name pieces (elsewhere last)

abbrev GoesSo : Reply → ℕ → List (List ℕ) → Walk → Type 0
GoesSo r count name w = Goes r count name w.pieces w.end

-- no alias was taken yet
abbrev pub none_yet : ℕ → Bool
none_yet zero = true
none_yet (suc count) = false

-- ---- the walk ends at this name

ends_here : (r : Reply) (count : ℕ) (name : List (List ℕ)) (pieces : List Piece) (end : End)
    → EndsSo r count name pieces end → GoesFrom r count name pieces end
ends_here r count name pieces end ends = record {
  targets = [];
  last = name;
  lead = refl;
  aliases = [];
  closing = pieces;
  parts = refl;
  are = tt;
  ends = subst (λ (n : ℕ). EndsSo r n name pieces end) (omega arith) ends;
}

lame_here : (r : Reply) (count : ℕ) (name : List (List ℕ)) → count < 8 → IsOnRoute r name → IsLameAt r count name
    → LameFrom r count name
lame_here r count name few on is = record {
  targets = [];
  last = name;
  lead = refl;
  few = omega arith;
  on_route = on;
  lame_is = subst (λ (n : ℕ). IsLameAt r n name) (omega arith) is;
}

-- ---- the walk goes on with_alias an alias

alias_first : (r : Reply) (count : ℕ) (name target : List (List ℕ)) (p : Piece) (pieces : List Piece) (end : End)
    → IsOnRoute r name → IsLoneAlias r name target → IsSetAt 5 name p → GoesFrom r (suc count) target pieces end
    → GoesFrom r count name (p ∷ pieces) end
alias_first r count name target p pieces end on alone at g = record {
  targets = target ∷ g.targets;
  last = g.last;
  lead = (on, alone, g.lead);
  aliases = p ∷ g.aliases;
  closing = g.closing;
  parts = ap (λ (l : List Piece). p ∷ l) g.parts;
  are = (at, g.are);
  ends = subst (λ (n : ℕ). EndsSo r n g.last g.closing end) (omega arith) g.ends;
}

lame_later : (r : Reply) (count : ℕ) (name target : List (List ℕ)) → IsOnRoute r name → IsLoneAlias r name target
    → LameFrom r (suc count) target → LameFrom r count name
lame_later r count name target on alone g = record {
  targets = target ∷ g.targets;
  last = g.last;
  lead = (on, alone, g.lead);
  few = omega (arith, g.few);
  on_route = g.on_route;
  lame_is = subst (λ (n : ℕ). IsLameAt r n g.last) (omega arith) g.lame_is;
}

behind_alias : (r : Reply) (count : ℕ) (name target : List (List ℕ)) (p : Piece) (pieces : List Piece) (end : End)
    → IsOnRoute r name → IsLoneAlias r name target → IsSetAt 5 name p → Goes r (suc count) target pieces end
    → GoesSo r count name (with_alias p (record { pieces = pieces; authority = []; end = end }))
behind_alias r count name target p pieces lame on alone at g = (refl, lame_later r count name target on alone g.1)
behind_alias r count name target p pieces found on alone at g =
    alias_first r count name target p pieces found on alone at g
behind_alias r count name target p pieces ends_no_data on alone at g =
    alias_first r count name target p pieces ends_no_data on alone at g
behind_alias r count name target p pieces ends_denied on alone at g =
    alias_first r count name target p pieces ends_denied on alone at g
behind_alias r count name target p pieces (elsewhere last) on alone at g =
    alias_first r count name target p pieces (elsewhere last) on alone at g

-- the name servers of a walk change nothing
behind_walk : (r : Reply) (count : ℕ) (name : List (List ℕ)) (p : Piece) (w : Walk)
    → GoesSo r count name (with_alias p (record { pieces = w.pieces; authority = []; end = w.end }))
    → GoesSo r count name (with_alias p w)
behind_walk r count name p w = by (is_lame w.end)
  where
    by : (b : Bool)
        → GoesSo r count name (cond b lame_walk (record { pieces = p ∷ w.pieces; authority = []; end = w.end }))
        → GoesSo r count name (cond b lame_walk (led_by p w))
    by true g = g
    by false g = g

-- ---- the finding at a name

set_here : (r : Reply) (count : ℕ) (name : List (List ℕ)) (p : Piece) (rest : List (List ℕ) → Walk) (many : Bool)
    → count < 8 → IsOnRoute r name → answer_set r r.question.kind name ≡ Some p
    → ((r.question.kind == 5) && has_many p.body) ≡ many
    → GoesSo r count name (go_on rest name (cond many met_lame (met_set p)))
set_here r count name p rest true few on e are =
    let both = and_parts (r.question.kind == 5) (has_many p.body) are in
    let five : r.question.kind ≡ 5 = eqb-true r.question.kind 5 both.0 in
    let there : answer_set r 5 name ≡ Some p = subst (λ (k : ℕ). answer_set r k name ≡ Some p) five e in
    (refl, lame_here r count name few on (inl (record { asked = five; two = are_two r name p there both.1 })))
set_here r count name p rest false few on e are = ends_here r count name (p ∷ []) found (record {
  few = few;
  on_route = on;
  p = p;
  alone = refl;
  is = record {
    set = set_at r r.question.kind name p e;
    one = λ five two.
        let there : answer_set r 5 name ≡ Some p = subst (λ (k : ℕ). answer_set r k name ≡ Some p) five e in
        both_ways ((r.question.kind == 5) && has_many p.body) are (and_from (r.question.kind == 5)
        (has_many p.body) (eq-eqb r.question.kind 5 five) (have_many r name p there two));
  };
})

-- an alias there is a set of type CNAME
alias_here : (r : Reply) (is_first : Bool) (count : ℕ) (name : List (List ℕ)) (p : Piece)
    (rest : List (List ℕ) → Walk) (target : Option (List (List ℕ))) → count < 8 → is_on_route r name ≡ true
    → answer_set r r.question.kind name ≡ None → alias_set r name ≡ Some p → target_of p.body ≡ target
    → ((to : List (List ℕ)) → met_at r is_first name ≡ met_alias p to → GoesSo r (suc count) to (rest to))
    → met_at r is_first name ≡ leads p target
    → GoesSo r count name (go_on rest name (leads p target))
alias_here r is_first count name p rest None few on set alias leads_to more met = (
  refl,
  lame_here r count name few (on_by_test r name on) (inr (inl (record {
    other = other_type r name p alias;
    no_set = lacks r r.question.kind name set;
    lost = lost_way r name p (alias_is (r.question.kind == 5) (answer_set r 5 name) p alias) leads_to;
  }))),
)
alias_here r is_first count name p rest (Some target) few on set alias leads_to more met =
    let there : answer_set r 5 name ≡ Some p = alias_is (r.question.kind == 5) (answer_set r 5 name) p alias in
    behind_walk r count name p (rest target) (behind_alias r count name target p (rest target).pieces
    (rest target).end (on_by_test r name on) (alias_at r is_first name target p met).alias (set_at r 5 name p there)
    (more target met))

-- the findings at a name without set and alias
denial_here : (r : Reply) (count : ℕ) (name : List (List ℕ)) (rest : List (List ℕ) → Walk)
    (three lacking referral : Bool) → count < 8 → IsOnRoute r name → HasNothingAt r name → (r.rcode == 3) ≡ three
    → lacks_soa r name ≡ lacking → is_referral r ≡ referral
    → GoesSo r count name (go_on rest name (cond three (met_name_error (name_error_at r name))
    (cond (lacking && not (none_yet count)) met_nothing (cond (lacking && referral) met_lame
    (met_no_data (no_data_at r name))))))
denial_here r count name rest true lacking referral few on nothing three soa refers_on =
    ends_here r count name (name_error_at r name ∷ []) ends_denied (record {
      few = few;
      on_route = on;
      p = name_error_at r name;
      alone = refl;
      is = record {
        rcode = eqb-true r.rcode 3 three;
        nothing = nothing;
        owner = refl;
        kind_is = refl;
        soa = soa_for name r.question.class r.authority;
        body = refl;
      };
    })
denial_here r count name rest false false referral few on nothing three soa refers_on =
    ends_here r count name (no_data_at r name ∷ []) ends_no_data (record {
      few = few;
      on_route = on;
      p = no_data_at r name;
      alone = refl;
      is = record {
        other = λ is. both_ways (r.rcode == 3) three (eq-eqb r.rcode 3 is);
        nothing = nothing;
        stated = inl (soa_is_there r name soa);
        owner = refl;
        kind_is = refl;
        soa = soa_for name r.question.class r.authority;
        body = refl;
      };
    })
denial_here r (suc count) name rest false true referral few on nothing three soa refers_on =
    ends_here r (suc count) name [] (elsewhere name) (
      omega arith,
      refl,
      refl,
      inr (inr (record {
        on_route = on;
        other = λ is. both_ways (r.rcode == 3) three (eq-eqb r.rcode 3 is);
        nothing = nothing;
        led = omega arith;
        no_soa = λ there. both_ways (lacks_soa r name) (has_soa r name there) soa;
      })),
    )
denial_here r zero name rest false true true few on nothing three soa refers_on = (
  refl,
  lame_here r zero name few on (inr (inr (record {
    first = refl;
    other = λ is. both_ways (r.rcode == 3) three (eq-eqb r.rcode 3 is);
    nothing = nothing;
    no_soa = λ there. both_ways (lacks_soa r name) (has_soa r name there) soa;
    refers = is_a_referral r refers_on;
  }))),
)
denial_here r zero name rest false true false few on nothing three soa refers_on =
    ends_here r zero name (no_data_at r name ∷ []) ends_no_data (record {
      few = few;
      on_route = on;
      p = no_data_at r name;
      alone = refl;
      is = record {
        other = λ is. both_ways (r.rcode == 3) three (eq-eqb r.rcode 3 is);
        nothing = nothing;
        stated = inr (refl, λ is. both_ways (is_referral r) refers_on (refers r is));
        owner = refl;
        kind_is = refl;
        soa = soa_for name r.question.class r.authority;
        body = refl;
      };
    })

-- a finding at a name, and the walk with the finding
met_here : (r : Reply) (count : ℕ) (name : List (List ℕ)) (rest : List (List ℕ) → Walk) (on : Bool)
    (set alias : Option Piece) → AllDiffer r.config.routes → count < 8 → is_on_route r name ≡ on
    → answer_set r r.question.kind name ≡ set → alias_set r name ≡ alias
    → ((target : List (List ℕ)) → GoesSo r (suc count) target (rest target))
    → met_at r (none_yet count) name
    ≡ cond on (set_or r.question.kind set (alias_or alias (denial_at r (none_yet count) name))) met_nothing
    → GoesSo r count name (go_on rest name
    (cond on (set_or r.question.kind set (alias_or alias (denial_at r (none_yet count) name))) met_nothing))
met_here r count name rest false set alias differ few on is_set is_alias more met =
    ends_here r count name [] (elsewhere name)
    (omega arith, refl, refl, inr (inl (off_by_test r name differ on)))
met_here r count name rest true (Some p) alias differ few on is_set is_alias more met =
    set_here r count name p rest ((r.question.kind == 5) && has_many p.body) few (on_by_test r name on) is_set refl
met_here r count name rest true None (Some p) differ few on is_set is_alias more met =
    alias_here r (none_yet count) count name p rest (target_of p.body) few on is_set is_alias refl
    (λ target _. more target) met
met_here r count name rest true None None differ few on is_set is_alias more met =
    denial_here r count name rest (r.rcode == 3) (lacks_soa r name) (is_referral r) few (on_by_test r name on)
    (record { no_set = lacks r r.question.kind name is_set; no_alias = no_alias r name is_set is_alias }) refl refl refl

-- ---- the whole walk

walk_goes : (r : Reply) (left count : ℕ) (name : List (List ℕ)) → AllDiffer r.config.routes → count + left ≡ 8
    → GoesSo r count name (walk_from r left (none_yet count) name)
unfolding walk_from
walk_goes r zero count name differ sum =
    let all : count ≡ 8 = omega (arith, sum) in
    ends_here r count name [] (elsewhere name) (omega (arith, all), refl, refl, inl all)
walk_goes r (suc left) count name differ sum =
    met_here r count name (λ target. walk_from r left false target) (is_on_route r name)
    (answer_set r r.question.kind name) (alias_set r name) differ (omega (arith, sum)) refl refl refl
    (λ target. walk_goes r left (suc count) target differ (omega (arith, sum))) refl

from_first : (r : Reply) (pieces : List Piece) (end : End) → GoesFrom r 0 r.question.name pieces end
    → IsWalked r pieces end
from_first r pieces end g = record {
  targets = g.targets;
  last = g.last;
  lead = g.lead;
  aliases = g.aliases;
  closing = g.closing;
  parts = g.parts;
  are = g.are;
  ends = subst (λ (n : ℕ). EndsSo r n g.last g.closing end) (omega arith) g.ends;
}

lame_from_first : (r : Reply) → LameFrom r 0 r.question.name → IsLame r
lame_from_first r g = record {
  targets = g.targets;
  last = g.last;
  lead = g.lead;
  few = omega (arith, g.few);
  on_route = g.on_route;
  lame_is = subst (λ (n : ℕ). IsLameAt r n g.last) (omega arith) g.lame_is;
}

pub all_walked : (r : Reply) (pieces : List Piece) (end : End) → Goes r 0 r.question.name pieces end
    → AreWalked r pieces end
all_walked r pieces lame g = (g.0, lame_from_first r g.1)
all_walked r pieces found g = from_first r pieces found g
all_walked r pieces ends_no_data g = from_first r pieces ends_no_data g
all_walked r pieces ends_denied g = from_first r pieces ends_denied g
all_walked r pieces (elsewhere name) g = from_first r pieces (elsewhere name) g

-- the walk of a reply is allowed (`AreWalked`)
pub walk_is : (r : Reply) → AllDiffer r.config.routes → AreWalked r (own_walk r).pieces (own_walk r).end
walk_is r differ = all_walked r (own_walk r).pieces (own_walk r).end
    (walk_goes r most_aliases 0 r.question.name differ refl)
