-- The pieces of an accepted reply can be kept, and answer equal questions.
use Rattle.std.proofs.Common.{◌≡◌, ℕ, List, [], ◌∷◌, ◌++◌, true, false, refl, sym, ap, ◌∙◌, subst, inl, inr, Option, Some}
use Rattle.std.specs.Prelude.{map}
use Rattle.std.specs.List.{AllByRecursion}
use Rattle.dns_name.specs.Labels.{IsSame}
use Rattle.dns_message.specs.Values.{Question, Message}
use Rattle.dns_message.specs.Messages.{IsSameQuestion, HasShapes}
use Rattle.suffix_routes.specs.Values.{Config}
use Rattle.suffix_routes.specs.Routes.{serving, route_of}
use Rattle.suffix_routes.proofs.CallerLemmas.{serving_lowered, serving_is}
use Rattle.trust_rank.specs.declared.slot.Slot.{Slot}
use Rattle.trust_rank.specs.Values.{Piece, End, found, ends_no_data, ends_denied, elsewhere, lame, Walk, Reply, reply_of}
use Rattle.trust_rank.specs.Walks.{walk_of, most_aliases, is_lame, has_last}
use Rattle.trust_rank.specs.Writable.{IsWritable}
use Rattle.trust_rank.specs.Laws.{IsCarriedFor, Lead, last_kind, Closes, EndsSo, IsServerSet}
use Rattle.trust_rank.proofs.CallerLemmas.{walk_leads, servers_fit, pieces_are_writable}
use Rattle.record_cache.specs.Values.{Held}
use Rattle.record_cache.specs.Laws.{Among}
use Rattle.suffix_routes.specs.Serving.{serving_route_of}
use Rattle.step_values.specs.Values.{Step}
use Rattle.step_history.specs.History.{is_restart, moment_at, InEra, Look, Carries}
use Rattle.step_history.specs.Carried.{CarriedInEra, Justified}
use Rattle.step_history.specs.Answers.{FollowsAliases}
use Rattle.dns_message.specs.Questions.{asked_at}
use Rattle.alias_chains.specs.Offering.{held_at}
use Rattle.theorem_cache.specs.Kept.{CanBeKept}
use Rattle.theorem_cache.specs.Chains.{look_from, LeadToEnd, LeadOn}
use Rattle.theorem_cache.specs.Laws.{AcceptedPiecesCanBeKept, AcceptedPiecesAnswer, AcceptedPiecesLeadOn}
use Rattle.step_table.proofs.CallerLemmas.{All-append, All-first}
use Rattle.theorem_cache.proofs.Justifying.{new_is_justified}
use Rattle.theorem_cache.proofs.Walking.{ClosesAt, Serves, walk_closes, at_name, on_its_route, lead_follows, lead_follows_to, closes_ends}

-- ---- the pieces of a walk can be kept

piece_kept : (r : Reply) → Serves r → (name : List (List ℕ)) (kind : Option ℕ) (p : Piece) → IsCarriedFor r name kind p → IsWritable p → CanBeKept r.config p
piece_kept r serves name kind p carried writable = record {
  formed = carried.piece;
  on_route = ap (λ (s : Slot). serving_route_of r.config s.key) carried.slot ∙ serving_lowered r.config.routes name ∙ ap (serving r.config.routes) carried.on_route ∙ serves ∙ ap Some (sym carried.route);
  writable = writable;
}

lead_kept : (r : Reply) → Serves r → (name last : List (List ℕ)) (ps : List Piece) → Lead r name ps last → AllByRecursion IsWritable ps → AllByRecursion (CanBeKept r.config) ps
lead_kept r serves name last [] lead all = tt
lead_kept r serves name last (p ∷ ps) lead all = (piece_kept r serves name (Some 5) p lead.1.carried all.0, lead_kept r serves lead.0 last ps lead.2 all.1)

servers_kept : (r : Reply) → Serves r → (ps : List Piece) → AllByRecursion (IsServerSet r) ps → AllByRecursion IsWritable ps → AllByRecursion (CanBeKept r.config) ps
servers_kept r serves [] fit all = tt
servers_kept r serves (p ∷ ps) fit all = (piece_kept r serves p.owner (Some 2) p fit.0.carried all.0, servers_kept r serves ps fit.1 all.1)

-- the pieces of a walk, unless lame, by the walk's end
walk_kept : (r : Reply) → Serves r → (ps authority : List Piece) (e : End) → EndsSo r ps authority e → is_lame e ≡ false → AllByRecursion IsWritable ps → AllByRecursion (CanBeKept r.config) ps
walk_kept r serves ps authority e ends fine all = by e ends fine
  where
    closed : (e : End) → Closes r most_aliases r.question.name e ps → AllByRecursion (CanBeKept r.config) ps
    closed e closes =
        let own = All-first IsWritable closes.aliases (closes.last ∷ []) (subst (AllByRecursion IsWritable) closes.whole all) in
        subst (AllByRecursion (CanBeKept r.config)) (sym closes.whole)
        (All-append (CanBeKept r.config) closes.aliases (closes.last ∷ []) (lead_kept r serves r.question.name closes.last_name closes.aliases closes.lead own.0)
        (piece_kept r serves closes.last_name (last_kind r e) closes.last closes.carried own.1.0, tt))

    by : (e : End) → EndsSo r ps authority e → is_lame e ≡ false → AllByRecursion (CanBeKept r.config) ps
    by found h fine = closed found h
    by ends_no_data h fine = closed ends_no_data h
    by ends_denied h fine = closed ends_denied h
    by (elsewhere name) h fine = lead_kept r serves r.question.name name ps h.2 all
    by lame h fine = absurd (cc)

pub accepted_pieces_can_be_kept : AcceptedPiecesCanBeKept
accepted_pieces_can_be_kept c m q route message shapes question on fine =
    All-append (CanBeKept c) w.pieces w.authority
    (walk_kept r own.1 w.pieces w.authority w.end (walk_leads c m q route shapes own.0) fine writable.0)
    (servers_kept r own.1 w.authority (servers_fit c m q route shapes) writable.1)
  where
    own : (route_of c.routes q.name ≡ Some route) × (serving c.routes (Some route) ≡ Some route)
    own = serving_is c.routes (route_of c.routes q.name) route on

    r : Reply
    r = reply_of c m q route

    w : Walk
    w = walk_of c m q route

    writable : AllByRecursion IsWritable (walk_of c m q route).pieces × AllByRecursion IsWritable (walk_of c m q route).authority
    writable = pieces_are_writable c m q route question message.answers message.authority

-- ---- they answer equal questions

among_left : (t : ℕ) (o : Held) (ps more : List Piece) → Among o (map (held_at t) ps) → Among o (map (held_at t) (ps ++ more))
among_left t o [] more h = absurd h
among_left t o (p ∷ ps) more (inl here) = inl here
among_left t o (p ∷ ps) more (inr later) = inr (among_left t o ps more later)

among_last : (t : ℕ) (ps : List Piece) (p : Piece) → Among (held_at t p) (map (held_at t) (ps ++ p ∷ []))
among_last t [] p = inl refl
among_last t (q ∷ ps) p = inr (among_last t ps p)

module _ (c : Config) (asked s : Step) (before past : List Step) (os : List Held) (m : Message) (q other : Question) (route : ℕ) (era : InEra (asked ∷ before) past) (runs : is_restart s ≡ false) (carried : CarriedInEra c past os)
    (carries : Carries c s past ((walk_of c m q route).pieces ++ (walk_of c m q route).authority)) (shapes : HasShapes m) (on : serving_route_of c q.name ≡ Some route) (alike : IsSameQuestion other q) where
  abbrev w : Walk
  w = walk_of c m q route

  abbrev r : Reply
  r = reply_of c m q route

  own : Serves r
  own = (serving_is c.routes (route_of c.routes q.name) route on).1

  abbrev t : ℕ
  t = moment_at (s ∷ past)

  abbrev look : Look
  look = look_from c asked before (s ∷ past)

  serves : (o : Held) (name : List (List ℕ)) → Among o (map (held_at t) (w.pieces ++ w.authority)) → serving_route_of c name ≡ Some o.piece.route → Justified look name o
  serves o name among on_route = new_is_justified c asked s before past (w.pieces ++ w.authority) os name o era runs carries carried among on_route

  -- the question at a name
  abbrev here : List (List ℕ) → Question
  here name = at_name name q.kind q.class

  other_is : here other.name ≡ other
  other_is = λ j. record { name = other.name; kind = sym alike.kind j; class = sym alike.class j }

  -- ---- if a piece closes

  module _ (fine : has_last (walk_of c m q route).end ≡ true) where
    closes : ClosesAt (reply_of c m q route) (walk_of c m q route).pieces (walk_of c m q route).end
    closes = walk_closes c m q route shapes on fine

    among_all : (o : Held) → Among o (map (held_at t) (closes.aliases ++ closes.last ∷ [])) → Among o (map (held_at t) (w.pieces ++ w.authority))
    among_all o h = among_left t o w.pieces w.authority (subst (λ (xs : List Piece). Among o (map (held_at t) xs)) (sym closes.whole) h)

    led : (name : List (List ℕ)) × IsSame name closes.last_name × FollowsAliases look (here other.name) (map (held_at t) closes.aliases) (here name)
    led = lead_follows look r t own refl q.name other.name closes.last_name closes.aliases closes.lead alike.name (λ o name among. serves o name (among_all o (among_left t o closes.aliases (closes.last ∷ []) among)))

    leads : LeadToEnd look t other w.pieces
    leads = record {
      aliases = closes.aliases;
      last = closes.last;
      whole = closes.whole;
      to = here led.0;
      follows = subst (λ (x : Question). FollowsAliases look x (map (held_at t) closes.aliases) (here led.0)) other_is led.2;
      justified = serves (held_at t closes.last) led.0 (among_all (held_at t closes.last) (among_last t closes.aliases closes.last)) (on_its_route r own closes.last_name led.0 (last_kind r w.end) closes.last closes.carried led.1);
      right_end = closes_ends r w.end closes.last_name led.0 closes.last fine closes.carried closes.body led.1;
    }

  -- ---- if the aliases lead elsewhere

  lead_on : (name : List (List ℕ)) → EndsSo r w.pieces w.authority (elsewhere name) → LeadOn look t other w.pieces name
  lead_on name h = record {
    some = h.0;
    few = h.1;
    follows = subst (λ (x : Question). FollowsAliases look x (map (held_at t) w.pieces) (asked_at x name)) other_is
        (lead_follows_to look r t own refl q.name other.name name w.pieces h.2 alike.name h.0 (λ o n among. serves o n (among_left t o w.pieces w.authority among)));
  }

pub accepted_pieces_answer : AcceptedPiecesAnswer
accepted_pieces_answer c asked s before past os m q other route era runs carried carries shapes on fine alike = leads c asked s before past os m q other route era runs carried carries shapes on alike fine

pub accepted_pieces_lead_on : AcceptedPiecesLeadOn
accepted_pieces_lead_on c asked s before past os m q other route name era runs carried carries shapes on ends alike =
    lead_on c asked s before past os m q other route era runs carried carries shapes on alike name
    (subst (EndsSo (reply_of c m q route) (walk_of c m q route).pieces (walk_of c m q route).authority) ends
    (walk_leads c m q route shapes (serving_is c.routes (route_of c.routes q.name) route on).0))
