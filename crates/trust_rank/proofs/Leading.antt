-- The walk leads from the asked name to the walk's end, and the name servers next to the walk fit.
use Rattle.std.proofs.Common.{◌≡◌, ℕ, zero, suc, ◌≤◌, Bool, true, false, cond, List, [], ◌∷◌, ◌++◌, length, Some, refl, sym, ap, ◌∙◌, subst, arith}
use Rattle.std.specs.Prelude.{◌==◌, ◌&&◌, not}
use Rattle.std.specs.List.{list_any, AllByRecursion}
use Rattle.std.proofs.lemmas.Bool.{cond_both, and_parts, eqb-true, eq-eqb}
use Rattle.dns_message.specs.DnsName.Labels.{is_under, lowered}
use Rattle.dns_message.specs.Values.{Question, Record}
use Rattle.dns_message.specs.Messages.{AreShaped}
use Rattle.suffix_routes.specs.Routes.{route_of}
use Rattle.trust_rank.specs.Values.{Piece, End, found, ends_no_data, ends_denied, elsewhere, lame, Walk, Reply, reply_of}
use Rattle.trust_rank.specs.Sets.{records_for}
use Rattle.trust_rank.specs.Walks.{AtName, met_nothing, met_set, met_no_data, met_name_error, met_alias, met_lame, is_place, is_on_route, met_at, most_aliases, lame_walk, is_lame, with_alias, go_on, walk_from, is_name_server, is_server_for, has_owner, begins_set, servers_with, servers_at, servers_from, carries_servers, with_servers}
use Rattle.trust_rank.specs.Laws.{IsCarriedFor, IsAliasTo, Lead, last_kind, IsLastBody, Closes, EndsSo, WalkLeads, IsServerSet, ServersFit}
use Rattle.trust_rank.proofs.PieceLaws.{set_shape, set_with_is_piece}
use Rattle.trust_rank.proofs.Carrying.{Meets, meets, on_route_is}

-- the property of a walk from a name, with at most this many aliases
abbrev Ends : Reply → ℕ → List (List ℕ) → List Piece → End → Type 0
Ends r most name pieces found = Closes r most name found pieces
Ends r most name pieces ends_no_data = Closes r most name ends_no_data pieces
Ends r most name pieces ends_denied = Closes r most name ends_denied pieces
Ends r most name pieces (elsewhere last) = (length pieces ≤ most) × Lead r name pieces last
Ends r most name pieces lame = pieces ≡ []

abbrev EndsWell : Reply → ℕ → List (List ℕ) → Walk → Type 0
EndsWell r most name w = Ends r most name w.pieces w.end

closes_more : (r : Reply) (most : ℕ) (name target : List (List ℕ)) (end : End) (p : Piece) (pieces : List Piece) → IsAliasTo r name target p → Closes r most target end pieces → Closes r (suc most) name end (p ∷ pieces)
closes_more r most name target end p pieces alias h = record {
  aliases = p ∷ h.aliases;
  last = h.last;
  last_name = h.last_name;
  whole = ap (λ (ps : List Piece). p ∷ ps) h.whole;
  few = omega (arith, h.few);
  lead = (target, alias, h.lead);
  carried = h.carried;
  body = h.body;
}

-- an alias before a walk
behind_well : (r : Reply) (most : ℕ) (name target : List (List ℕ)) (p : Piece) (pieces authority : List Piece) (end : End) → IsAliasTo r name target p → Ends r most target pieces end
    → EndsWell r (suc most) name (with_alias p (record { pieces = pieces; authority = authority; end = end }))
behind_well r most name target p pieces authority found alias h = closes_more r most name target found p pieces alias h
behind_well r most name target p pieces authority ends_no_data alias h = closes_more r most name target ends_no_data p pieces alias h
behind_well r most name target p pieces authority ends_denied alias h = closes_more r most name target ends_denied p pieces alias h
behind_well r most name target p pieces authority (elsewhere last) alias h = (omega (arith, h.0), (target, alias, h.1))
behind_well r most name target p pieces authority lame alias h = refl

one_closes : (r : Reply) (most : ℕ) (name : List (List ℕ)) (end : End) (p : Piece) → IsCarriedFor r name (last_kind r end) p → IsLastBody end p.body → Closes r (suc most) name end (p ∷ [])
one_closes r most name end p carried body = record { aliases = []; last = p; last_name = name; whole = refl; few = omega arith; lead = refl; carried = carried; body = body }

go_well : (r : Reply) (most : ℕ) (is_first : Bool) (name : List (List ℕ)) (rest : List (List ℕ) → Walk) (met : AtName) → Meets r is_first name met → ((target : List (List ℕ)) → EndsWell r most target (rest target))
    → EndsWell r (suc most) name (go_on rest name met)
go_well r most is_first name rest met_nothing m h = (omega arith, refl)
go_well r most is_first name rest (met_set p) m h = one_closes r most name found p m.0 m.1
go_well r most is_first name rest (met_no_data p) m h = one_closes r most name ends_no_data p m.0 m.1
go_well r most is_first name rest (met_name_error p) m h = one_closes r most name ends_denied p m.0 m.1
go_well r most is_first name rest (met_alias p target) m h = behind_well r most name target p (rest target).pieces (rest target).authority (rest target).end m (h target)
go_well r most is_first name rest met_lame m h = refl

walk_well : (r : Reply) (most : ℕ) (is_first : Bool) (name : List (List ℕ)) → AreShaped r.answers → AreShaped r.authority → EndsWell r most name (walk_from r most is_first name)
unfolding walk_from
walk_well r zero is_first name answers authority = (omega arith, refl)
walk_well r (suc most) is_first name answers authority =
    go_well r most is_first name (λ target. walk_from r most false target) (met_at r is_first name) (meets r is_first name answers authority) (λ target. walk_well r most false target answers authority)

-- ---- the first name

-- a walk that goes elsewhere took an alias
abbrev Moved : Walk → Type 0
Moved w = (name : List (List ℕ)) → w.end ≡ elsewhere name → 1 ≤ length w.pieces

behind_moved : (p : Piece) (pieces authority : List Piece) (end : End) → Moved (with_alias p (record { pieces = pieces; authority = authority; end = end }))
behind_moved p pieces authority found = λ name e. absurd (cc)
behind_moved p pieces authority ends_no_data = λ name e. absurd (cc)
behind_moved p pieces authority ends_denied = λ name e. absurd (cc)
behind_moved p pieces authority (elsewhere last) = λ name e. omega arith
behind_moved p pieces authority lame = λ name e. absurd (cc)

go_moved : (r : Reply) (name : List (List ℕ)) (rest : List (List ℕ) → Walk) (met : AtName) → Meets r true name met → is_on_route r name ≡ true → Moved (go_on rest name met)
go_moved r name rest met_nothing m on = λ last e. absurd (m refl on)
go_moved r name rest (met_set p) m on = λ last e. absurd (cc)
go_moved r name rest (met_no_data p) m on = λ last e. absurd (cc)
go_moved r name rest (met_name_error p) m on = λ last e. absurd (cc)
go_moved r name rest (met_alias p target) m on = behind_moved p (rest target).pieces (rest target).authority (rest target).end
go_moved r name rest met_lame m on = λ last e. absurd (cc)

walk_moved : (r : Reply) (most : ℕ) (name : List (List ℕ)) → AreShaped r.answers → AreShaped r.authority → is_on_route r name ≡ true → Moved (walk_from r (suc most) true name)
unfolding walk_from
walk_moved r most name answers authority on = go_moved r name (λ target. walk_from r most false target) (met_at r true name) (meets r true name answers authority) on

-- ---- name servers

-- the walk itself has no name servers
behind_plain : (p : Piece) (w : Walk) → w.authority ≡ [] → (with_alias p w).authority ≡ []
behind_plain p w e = cond_both (is_lame w.end) lame_walk (record { pieces = p ∷ w.pieces; authority = w.authority; end = w.end }) (λ (x : Walk). x.authority ≡ []) (λ _. refl) (λ _. e)

go_plain : (name : List (List ℕ)) (rest : List (List ℕ) → Walk) (met : AtName) → ((target : List (List ℕ)) → (rest target).authority ≡ []) → (go_on rest name met).authority ≡ []
go_plain name rest met_nothing h = refl
go_plain name rest (met_set p) h = refl
go_plain name rest (met_no_data p) h = refl
go_plain name rest (met_name_error p) h = refl
go_plain name rest (met_alias p target) h = behind_plain p (rest target) (h target)
go_plain name rest met_lame h = refl

pub walk_plain : (r : Reply) (most : ℕ) (is_first : Bool) (name : List (List ℕ)) → (walk_from r most is_first name).authority ≡ []
unfolding walk_from
walk_plain r zero is_first name = refl
walk_plain r (suc most) is_first name = go_plain name (λ target. walk_from r most false target) (met_at r is_first name) (λ target. walk_plain r most false target)

-- ---- all of it

is_own_place : (route : ℕ) → is_place (Some route) route ≡ true
is_own_place route = eq-eqb route route refl

asked_on_route : (r : Reply) → route_of r.config.routes r.question.name ≡ Some r.route → is_on_route r r.question.name ≡ true
asked_on_route r e = ap (λ o. is_place o r.route) e ∙ is_own_place r.route

ends_so : (r : Reply) (pieces authority : List Piece) (end : End) → Ends r most_aliases r.question.name pieces end → ((name : List (List ℕ)) → end ≡ elsewhere name → 1 ≤ length pieces)
    → (end ≡ lame → authority ≡ []) → EndsSo r pieces authority end
ends_so r pieces authority found h moved none = h
ends_so r pieces authority ends_no_data h moved none = h
ends_so r pieces authority ends_denied h moved none = h
ends_so r pieces authority (elsewhere name) h moved none = (moved name refl, h.0, h.1)
ends_so r pieces authority lame h moved none = (h, none refl)

-- a lame walk gets no name servers
lame_alone : (r : Reply) (w : Walk) → w.authority ≡ [] → w.end ≡ lame → (with_servers r w).authority ≡ []
lame_alone r w e is =
    cond_both (carries_servers r w.end) (record { pieces = w.pieces; authority = servers_from r w.pieces r.authority; end = w.end }) w (λ (x : Walk). x.authority ≡ [])
    (λ t. absurd (not_lame (is_lame w.end) (ap is_lame is) (and_parts r.is_authoritative (not (is_lame w.end)) t).1))
    (λ _. e)
  where
    not_lame : (b : Bool) → b ≡ true → not b ≡ true → ⊥
    not_lame true t n = absurd (cc)
    not_lame false t n = absurd (cc)

abbrev joined : Bool → Walk → List Piece → Walk
joined b w sets = cond b (record { pieces = w.pieces; authority = sets; end = w.end }) w

rest_by : (r : Reply) (b : Bool) (w : Walk) (sets : List Piece) → EndsSo r w.pieces (joined b w sets).authority w.end → EndsSo r (joined b w sets).pieces (joined b w sets).authority (joined b w sets).end
rest_by r true w sets h = h
rest_by r false w sets h = h

same_rest : (r : Reply) (w : Walk) → EndsSo r w.pieces (with_servers r w).authority w.end → EndsSo r (with_servers r w).pieces (with_servers r w).authority (with_servers r w).end
same_rest r w h = rest_by r (carries_servers r w.end) w (servers_from r w.pieces r.authority) h

pub walk_leads : WalkLeads
walk_leads c m q route shapes on =
    let r : Reply = reply_of c m q route in
    let w : Walk = walk_from r most_aliases true q.name in
    same_rest r w (ends_so r w.pieces (with_servers r w).authority w.end (walk_well r most_aliases true q.name shapes.answers shapes.authority)
    (walk_moved r 7 q.name shapes.answers shapes.authority (asked_on_route r on)) (lame_alone r w (walk_plain r most_aliases true q.name)))

-- ---- name servers fit

server_set : (r : Reply) (s : Record) (others : List Record) (carried : List Piece) → AreShaped (s ∷ others) → begins_set r carried s ≡ true → IsServerSet r (servers_with r s others)
server_set r s others carried shaped e =
    let fits = (and_parts (is_server_for r s) (not (list_any (has_owner s.owner) carried)) e).0 in
    let all = and_parts ((is_name_server s && (s.class == r.question.class)) && is_under r.question.name s.owner) (is_on_route r s.owner) fits in
    let three = and_parts (is_name_server s && (s.class == r.question.class)) (is_under r.question.name s.owner) all.0 in
    let two = and_parts (is_name_server s) (s.class == r.question.class) three.0 in
    let kind : s.kind ≡ 2 = eqb-true s.kind 2 two.0 in
    let class : s.class ≡ r.question.class = eqb-true s.class r.question.class two.1 in
    let q : Question = record { name = s.owner; kind = s.kind; class = s.class } in
    record {
      carried = record {
        piece = set_with_is_piece 2 r.route s (records_for q others) s.kind refl shaped.0 (set_shape q others shaped.1);
        slot = λ i. record { key = lowered s.owner; class = class i; kind = Some (kind i) };
        route = refl;
        on_route = on_route_is r s.owner all.1;
      };
      above = three.1;
    }

pub all_append : (P : Piece → Type 0) (xs ys : List Piece) → AllByRecursion P xs → AllByRecursion P ys → AllByRecursion P (xs ++ ys)
all_append P [] ys a b = b
all_append P (x ∷ xs) ys a b = (a.0, all_append P xs ys a.1 b)

server_sets : (r : Reply) (carried : List Piece) (records : List Record) → AreShaped records → AllByRecursion (IsServerSet r) (servers_from r carried records)
unfolding servers_from
server_sets r carried [] shaped = tt
server_sets r carried (s ∷ records) shaped =
    all_append (IsServerSet r) (servers_at r carried s records) (servers_from r (carried ++ servers_at r carried s records) records)
    (cond_both (begins_set r carried s) (servers_with r s records ∷ []) [] (AllByRecursion (IsServerSet r)) (λ t. (server_set r s records carried shaped t, tt)) (λ _. tt))
    (server_sets r (carried ++ servers_at r carried s records) records shaped.1)

pub servers_fit : ServersFit
servers_fit c m q route shapes =
    let r : Reply = reply_of c m q route in
    let w : Walk = walk_from r most_aliases true q.name in
    cond_both (carries_servers r w.end) (record { pieces = w.pieces; authority = servers_from r w.pieces r.authority; end = w.end }) w (λ (x : Walk). AllByRecursion (IsServerSet r) x.authority)
    (λ _. server_sets r w.pieces r.authority shapes.authority)
    (λ _. subst (AllByRecursion (IsServerSet r)) (sym (walk_plain r most_aliases true q.name)) tt)
