-- A fact about each found set and denial is a fact about each piece of the walk.
use Rattle.std.proofs.Common.{◌≡◌, ℕ, zero, suc, Bool, true, false, cond, List, [], ◌∷◌, Option, None, Some, refl}
use Rattle.std.specs.Prelude.{◌==◌, ◌&&◌, not, is_none}
use Rattle.std.specs.List.{AllByRecursion}
use Rattle.std.proofs.lemmas.Bool.{cond_both}
use Rattle.dns_message.specs.Values.{Question, Message}
use Rattle.suffix_routes.specs.Values.{Config}
use Rattle.trust_rank.specs.Values.{Piece, Walk, Reply, reply_of}
use Rattle.trust_rank.specs.Denials.{soa_for}
use Rattle.trust_rank.specs.Walks.{AtName, met_nothing, met_set, met_no_data, met_name_error, met_alias, met_lame}
use Rattle.trust_rank.specs.Walks.{is_on_route, answer_set, alias_set, has_many, target_of, is_referral}
use Rattle.trust_rank.specs.Walks.{name_error_at, no_data_at, denial_met, denial_at, leads, alias_or, set_or, met_at}
use Rattle.trust_rank.specs.Walks.{most_aliases, lame_walk, is_lame, with_alias, go_on, walk_from, servers_from}
use Rattle.trust_rank.specs.Walks.{carries_servers, with_servers, walk_of}

abbrev EachMet : (Piece → Type 0) → AtName → Type 0
EachMet P met_nothing = Unit {0}
EachMet P (met_set p) = P p
EachMet P (met_no_data p) = P p
EachMet P (met_name_error p) = P p
EachMet P (met_alias p target) = P p
EachMet P met_lame = Unit {0}

-- if a type other than CNAME is asked for, an alias is the set of type CNAME
pub alias_is : (asks : Bool) (there : Option Piece) (p : Piece) → cond asks None there ≡ Some p → there ≡ Some p
alias_is true there p e = absurd (cc)
alias_is false there p e = e

-- P holds of each set of the answer section and of each denial
pub record OfAll (r : Reply) (P : Piece → Type 0) : Type 0 where
  pub sets : (kind : ℕ) (name : List (List ℕ)) (p : Piece) → answer_set r kind name ≡ Some p → P p
  pub none : (name : List (List ℕ)) → P (no_data_at r name)
  pub errors : (name : List (List ℕ)) → P (name_error_at r name)

met_denial : (r : Reply) (P : Piece → Type 0) (is_first : Bool) (name : List (List ℕ)) (lacks : Bool) → OfAll r P
    → EachMet P (denial_met r is_first name lacks)
met_denial r P is_first name lacks h =
    cond_both (r.rcode == 3) (met_name_error (name_error_at r name))
    (cond (lacks && not is_first) met_nothing (cond (lacks && is_referral r) met_lame
    (met_no_data (no_data_at r name)))) (EachMet P)
    (λ _. h.errors name)
    (λ _. cond_both (lacks && not is_first) met_nothing
    (cond (lacks && is_referral r) met_lame (met_no_data (no_data_at r name))) (EachMet P)
    (λ _. tt)
    (λ _. cond_both (lacks && is_referral r) met_lame (met_no_data (no_data_at r name)) (EachMet P) (λ _. tt)
    (λ _. h.none name)))

led : (P : Piece → Type 0) (p : Piece) (target : Option (List (List ℕ))) → P p → EachMet P (leads p target)
led P p None h = tt
led P p (Some target) h = h

met_alias_or : (r : Reply) (P : Piece → Type 0) (name : List (List ℕ)) (o : Option Piece) (other : AtName) → OfAll r P
    → alias_set r name ≡ o → EachMet P other → EachMet P (alias_or o other)
met_alias_or r P name None other h e m = m
met_alias_or r P name (Some p) other h e m = led P p (target_of p.body)
    (h.sets 5 name p (alias_is (r.question.kind == 5) (answer_set r 5 name) p e))

met_set_or : (r : Reply) (P : Piece → Type 0) (name : List (List ℕ)) (o : Option Piece) (other : AtName) → OfAll r P
    → answer_set r r.question.kind name ≡ o → EachMet P other → EachMet P (set_or r.question.kind o other)
met_set_or r P name None other h e m = m
met_set_or r P name (Some p) other h e m =
    cond_both ((r.question.kind == 5) && has_many p.body) met_lame (met_set p) (EachMet P) (λ _. tt)
    (λ _. h.sets r.question.kind name p e)

each_met : (r : Reply) (P : Piece → Type 0) (is_first : Bool) (name : List (List ℕ)) → OfAll r P
    → EachMet P (met_at r is_first name)
each_met r P is_first name h =
    cond_both (is_on_route r name) (set_or r.question.kind (answer_set r r.question.kind name)
    (alias_or (alias_set r name) (denial_at r is_first name))) met_nothing (EachMet P)
    (λ _. met_set_or r P name (answer_set r r.question.kind name)
    (alias_or (alias_set r name) (denial_at r is_first name)) h refl
    (met_alias_or r P name (alias_set r name) (denial_at r is_first name) h refl
    (met_denial r P is_first name (is_none (soa_for name r.question.class r.authority)) h)))
    (λ _. tt)

-- an alias before a walk
abbrev pub led_by : Piece → Walk → Walk
led_by p w = record { pieces = p ∷ w.pieces; authority = w.authority; end = w.end }

behind_each : (P : Piece → Type 0) (p : Piece) (w : Walk) → P p → AllByRecursion P w.pieces
    → AllByRecursion P (with_alias p w).pieces
behind_each P p w one rest =
    cond_both (is_lame w.end) lame_walk (led_by p w) (λ (x : Walk). AllByRecursion P x.pieces) (λ _. tt)
    (λ _. (one, rest))

go_each : (P : Piece → Type 0) (name : List (List ℕ)) (rest : List (List ℕ) → Walk) (met : AtName) → EachMet P met
    → ((target : List (List ℕ)) → AllByRecursion P (rest target).pieces) → AllByRecursion P (go_on rest name met).pieces
go_each P name rest met_nothing m h = tt
go_each P name rest (met_set p) m h = (m, tt)
go_each P name rest (met_no_data p) m h = (m, tt)
go_each P name rest (met_name_error p) m h = (m, tt)
go_each P name rest (met_alias p target) m h = behind_each P p (rest target) m (h target)
go_each P name rest met_lame m h = tt

walk_each : (r : Reply) (P : Piece → Type 0) (left : ℕ) (is_first : Bool) (name : List (List ℕ)) → OfAll r P
    → AllByRecursion P (walk_from r left is_first name).pieces
unfolding walk_from
walk_each r P zero is_first name h = tt
walk_each r P (suc left) is_first name h = go_each P name (λ target. walk_from r left false target)
    (met_at r is_first name) (each_met r P is_first name h) (λ target. walk_each r P left false target h)

-- the walk itself, before the name servers
abbrev pub own_walk : Reply → Walk
own_walk r = walk_from r most_aliases true r.question.name

-- a walk with the name servers added
abbrev pub beside : Reply → Walk → Walk
beside r w = record { pieces = w.pieces; authority = servers_from r w.pieces r.authority; end = w.end }

-- name servers change neither the pieces nor the end
pub same_pieces : (r : Reply) (w : Walk) → (with_servers r w).pieces ≡ w.pieces
same_pieces r w = cond_both (carries_servers r w.end) (beside r w) w (λ (x : Walk). x.pieces ≡ w.pieces) (λ _. refl)
    (λ _. refl)

pub same_end : (r : Reply) (w : Walk) → (with_servers r w).end ≡ w.end
same_end r w = cond_both (carries_servers r w.end) (beside r w) w (λ (x : Walk). x.end ≡ w.end) (λ _. refl) (λ _. refl)

pub each_piece : (c : Config) (m : Message) (q : Question) (route : ℕ) (P : Piece → Type 0)
    → OfAll (reply_of c m q route) P → AllByRecursion P (walk_of c m q route).pieces
each_piece c m q route P h =
    let r : Reply = reply_of c m q route in
    cond_both (carries_servers r (own_walk r).end) (beside r (own_walk r)) (own_walk r)
    (λ (x : Walk). AllByRecursion P x.pieces)
    (λ _. walk_each r P most_aliases true q.name h)
    (λ _. walk_each r P most_aliases true q.name h)

-- ---- the walk itself has no name servers

behind_plain : (p : Piece) (w : Walk) → w.authority ≡ [] → (with_alias p w).authority ≡ []
behind_plain p w e = cond_both (is_lame w.end) lame_walk (led_by p w) (λ (x : Walk). x.authority ≡ []) (λ _. refl)
    (λ _. e)

go_plain : (name : List (List ℕ)) (rest : List (List ℕ) → Walk) (met : AtName)
    → ((target : List (List ℕ)) → (rest target).authority ≡ []) → (go_on rest name met).authority ≡ []
go_plain name rest met_nothing h = refl
go_plain name rest (met_set p) h = refl
go_plain name rest (met_no_data p) h = refl
go_plain name rest (met_name_error p) h = refl
go_plain name rest (met_alias p target) h = behind_plain p (rest target) (h target)
go_plain name rest met_lame h = refl

walk_plain : (r : Reply) (left : ℕ) (is_first : Bool) (name : List (List ℕ))
    → (walk_from r left is_first name).authority ≡ []
unfolding walk_from
walk_plain r zero is_first name = refl
walk_plain r (suc left) is_first name = go_plain name (λ target. walk_from r left false target)
    (met_at r is_first name) (λ target. walk_plain r left false target)

pub own_walk_is_plain : (r : Reply) → (own_walk r).authority ≡ []
own_walk_is_plain r = walk_plain r most_aliases true r.question.name
