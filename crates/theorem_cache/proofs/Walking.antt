-- The walk of an accepted reply answers each question waiting for the reply.
use Rattle.std.proofs.Common.{◌≡◌, ℕ, ◌≤◌, length, arith, List, [], ◌∷◌, true, refl, sym, ap, ◌∙◌, subst, inl, inr, Option, Some}
use Rattle.std.specs.Prelude.{map}
use Rattle.dns_name.specs.Labels.{lowered, IsSame, IsUnder}
use Rattle.dns_name.proofs.CallerLemmas.{under_itself, under_respects_same, lowered_is_same}
use Rattle.dns_message.specs.Values.{Question, Message}
use Rattle.dns_message.specs.Messages.{HasShapes}
use Rattle.suffix_routes.specs.Values.{Config}
use Rattle.suffix_routes.specs.Routes.{serving, route_of}
use Rattle.suffix_routes.proofs.CallerLemmas.{route_of_respects_same, serving_is}
use Rattle.trust_rank.specs.Values.{Body, rows, no_data, denied, Piece, End, found, ends_no_data, ends_denied, elsewhere, lame, Walk, Reply, reply_of}
use Rattle.trust_rank.specs.Walks.{walk_of, most_aliases, has_last}
use Rattle.trust_rank.specs.Laws.{IsCarriedFor, IsAliasTo, Lead, last_kind, IsLastBody, Closes, EndsSo}
use Rattle.trust_rank.proofs.CallerLemmas.{walk_leads}
use Rattle.record_cache.specs.Values.{Held}
use Rattle.record_cache.specs.Laws.{Among}
use Rattle.suffix_routes.specs.Serving.{serving_route_of}
use Rattle.step_history.specs.History.{Look}
use Rattle.step_history.specs.Carried.{Justified}
use Rattle.step_history.specs.Answers.{FollowsAliases, EndsChain}
use Rattle.step_history.proofs.CallerLemmas.{alias_to}
use Rattle.alias_chains.specs.Offering.{held_at}
use Rattle.theorem_cache.proofs.Slots.{slot_carried_over}

-- ---- the pieces of an accepted walk

-- at the aliases' end a piece closes, and the walk has no further pieces
abbrev pub ClosesAt : Reply → List Piece → End → Type 0
ClosesAt r pieces end = Closes r most_aliases r.question.name end pieces

pub walk_closes : (c : Config) (m : Message) (q : Question) (route : ℕ) → HasShapes m → serving_route_of c q.name ≡ Some route → has_last (walk_of c m q route).end ≡ true
    → ClosesAt (reply_of c m q route) (walk_of c m q route).pieces (walk_of c m q route).end
walk_closes c m q route shapes on fine = by (walk_of c m q route).end (walk_leads c m q route shapes (serving_is c.routes (route_of c.routes q.name) route on).0) fine
  where
    w : Walk
    w = walk_of c m q route

    by : (e : End) → EndsSo (reply_of c m q route) w.pieces w.authority e → has_last e ≡ true → ClosesAt (reply_of c m q route) w.pieces e
    by found h fine = h
    by ends_no_data h fine = h
    by ends_denied h fine = h
    by (elsewhere name) h fine = absurd (cc)
    by lame h fine = absurd (cc)

-- ---- they serve an equal question

-- the question at a name, with this type and class
abbrev pub at_name : List (List ℕ) → ℕ → ℕ → Question
at_name name kind class = record { name = name; kind = kind; class = class }

-- the newly carried pieces among `new` serve each name on their route
abbrev Serve : Look → ℕ → List Held → Type 0
Serve l t new = (o : Held) (name : List (List ℕ)) → Among o new → serving_route_of l.config name ≡ Some o.piece.route → Justified l name o

-- the reply's route serves names
abbrev pub Serves : Reply → Type 0
Serves r = serving r.config.routes (Some r.route) ≡ Some r.route

-- a name equal to a piece's name is on the piece's route
pub on_its_route : (r : Reply) → Serves r → (name other : List (List ℕ)) (kind : Option ℕ) (p : Piece) → IsCarriedFor r name kind p → IsSame other name → serving_route_of r.config other ≡ Some p.route
on_its_route r serves name other kind p carried alike =
    ap (serving r.config.routes) (route_of_respects_same r.config.routes other name alike ∙ carried.on_route) ∙ serves ∙ ap Some (sym carried.route)

-- aliases leading on in the reply are followed, from each name equal to the first
pub lead_follows : (l : Look) (r : Reply) (t : ℕ) → Serves r → r.config ≡ l.config → (name other last : List (List ℕ)) (aliases : List Piece) → Lead r name aliases last → IsSame other name
    → Serve l t (map (held_at t) aliases)
    → (end : List (List ℕ)) × IsSame end last × FollowsAliases l (at_name other r.question.kind r.question.class) (map (held_at t) aliases) (at_name end r.question.kind r.question.class)
lead_follows l r t serves config name other last [] lead alike serve = (other, alike ∙ ap lowered lead, refl)
lead_follows l r t serves config name other last (p ∷ aliases) lead alike serve =
    let target : List (List ℕ) = lead.0 in
    let alias : IsAliasTo r name target p = lead.1 in
    let rest = lead_follows l r t serves config target target last aliases lead.2 refl (λ o n among. serve o n (inr among)) in
    let route : serving_route_of l.config other ≡ Some p.route = subst (λ (c : Config). serving_route_of c other ≡ Some p.route) config (on_its_route r serves name other (Some 5) p alias.carried alike) in
    (rest.0, rest.1, (alias.follows, serve (held_at t p) other (inl refl) route, slot_carried_over p name other r.question.class (Some 5) alias.carried.slot alike, target, alias_to p target alias.leads, rest.2))

-- to the last name as spelled in the reply, from the first as spelled there
lead_goes : (l : Look) (r : Reply) (t : ℕ) → Serves r → r.config ≡ l.config → (name last : List (List ℕ)) (aliases : List Piece) → Lead r name aliases last → Serve l t (map (held_at t) aliases)
    → FollowsAliases l (at_name name r.question.kind r.question.class) (map (held_at t) aliases) (at_name last r.question.kind r.question.class)
lead_goes l r t serves config name last [] lead serve = λ i. at_name (sym lead i) r.question.kind r.question.class
lead_goes l r t serves config name last (p ∷ aliases) lead serve =
    let alias : IsAliasTo r name lead.0 p = lead.1 in
    let route : serving_route_of l.config name ≡ Some p.route = subst (λ (c : Config). serving_route_of c name ≡ Some p.route) config (on_its_route r serves name name (Some 5) p alias.carried refl) in
    (alias.follows, serve (held_at t p) name (inl refl) route, slot_carried_over p name name r.question.class (Some 5) alias.carried.slot refl, lead.0, alias_to p lead.0 alias.leads, lead_goes l r t serves config lead.0 last aliases lead.2 (λ o n among. serve o n (inr among)))

-- or, after an alias, from each equal name
pub lead_follows_to : (l : Look) (r : Reply) (t : ℕ) → Serves r → r.config ≡ l.config → (name other last : List (List ℕ)) (aliases : List Piece) → Lead r name aliases last → IsSame other name → 1 ≤ length aliases
    → Serve l t (map (held_at t) aliases) → FollowsAliases l (at_name other r.question.kind r.question.class) (map (held_at t) aliases) (at_name last r.question.kind r.question.class)
lead_follows_to l r t serves config name other last [] lead alike some serve = absurd (omega (arith, some))
lead_follows_to l r t serves config name other last (p ∷ aliases) lead alike some serve =
    let alias : IsAliasTo r name lead.0 p = lead.1 in
    let route : serving_route_of l.config other ≡ Some p.route = subst (λ (c : Config). serving_route_of c other ≡ Some p.route) config (on_its_route r serves name other (Some 5) p alias.carried alike) in
    (alias.follows, serve (held_at t p) other (inl refl) route, slot_carried_over p name other r.question.class (Some 5) alias.carried.slot alike, lead.0, alias_to p lead.0 alias.leads, lead_goes l r t serves config lead.0 last aliases lead.2 (λ o n among. serve o n (inr among)))

-- the closing piece ends the look-up of each question at an equal name
pub closes_ends : (r : Reply) (end : End) (last other : List (List ℕ)) (p : Piece) → has_last end ≡ true → IsCarriedFor r last (last_kind r end) p → IsLastBody end p.body → IsSame other last
    → EndsChain (at_name other r.question.kind r.question.class) p p.body
closes_ends r end last other p fine carried body alike = by end fine carried p.body body
  where
    under : IsUnder other p.slot.key
    under =
        under_respects_same other other other p.slot.key refl (sym (ap (λ (s : Rattle.trust_rank.specs.declared.slot.Slot.Slot). lowered s.key) carried.slot ∙ lowered_is_same last ∙ sym alike)) (under_itself other)

    by : (e : End) → has_last e ≡ true → IsCarriedFor r last (last_kind r e) p → (b : Body) → IsLastBody e b → EndsChain (at_name other r.question.kind r.question.class) p b
    by found fine k (rows each) is = slot_carried_over p last other r.question.class (Some r.question.kind) k.slot alike
    by found fine k (no_data soa) is = absurd is
    by found fine k (denied soa) is = absurd is
    by ends_no_data fine k (no_data soa) is = slot_carried_over p last other r.question.class (Some r.question.kind) k.slot alike
    by ends_no_data fine k (rows each) is = absurd is
    by ends_no_data fine k (denied soa) is = absurd is
    by ends_denied fine k (denied soa) is = (under, ap (λ (s : Rattle.trust_rank.specs.declared.slot.Slot.Slot). s.class) k.slot)
    by ends_denied fine k (rows each) is = absurd is
    by ends_denied fine k (no_data soa) is = absurd is
    by (elsewhere name) fine k b is = absurd (cc)
    by lame fine k b is = absurd (cc)
