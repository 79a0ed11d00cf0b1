-- The content of an accepted reply is the walk computed by the table.
use Rattle.std.proofs.Common.{◌≡◌, ◌≢◌, ◌⊎◌, ℕ, false, List, ◌++◌, Some, refl, sym, ap, ◌∙◌}
use Rattle.std.proofs.lemmas.Bool.{false≢true}
use Rattle.dns_message.specs.Values.{Question, Message}
use Rattle.dns_message.specs.Messages.{Spells}
use Rattle.dns_message.proofs.CallerLemmas.{spelled_message_has_shapes}
use Rattle.suffix_routes.specs.Values.{Config, AllDiffer}
use Rattle.trust_rank.specs.Values.{Piece, End, found, ends_no_data, ends_denied, elsewhere, lame, Walk}
use Rattle.trust_rank.specs.Walks.{is_lame, walk_of}
use Rattle.suffix_routes.specs.Serving.{serving_route_of}
use Rattle.cache_laws.proofs.CallerLemmas.{carried_exactly, serves_exactly}
use Rattle.step_values.specs.Values.{Step}
use Rattle.step_history.specs.History.{ShownAsk, Matches, Accepts}

ends_well : (end : End) → is_lame end ≡ false → end ≢ lame
ends_well end fine is = false≢true (sym fine ∙ ap is_lame is)

is_fine : (end : End) → end ≢ lame → is_lame end ≡ false
is_fine found n = refl
is_fine ends_no_data n = refl
is_fine ends_denied n = refl
is_fine (elsewhere name) n = refl
is_fine lame n = absurd (n refl)

module _ (c : Config) (s : Step) (past : List Step) (pieces servers : List Piece) (differ : AllDiffer c.routes)
    (a : Accepts c s past pieces servers) where
  abbrev w : Walk
  w = walk_of c a.message a.asked a.route

  walk_is : w ≡ record { pieces = pieces; authority = servers; end = a.end }
  walk_is = carried_exactly.only c a.message a.asked a.route pieces servers a.end differ
      (spelled_message_has_shapes a.octets a.message a.spells) a.content

  pub accepted_fine : is_lame w.end ≡ false
  accepted_fine = ap (λ (x : Walk). is_lame x.end) walk_is ∙ is_fine a.end a.not_lame

  pub accepted_pieces : pieces ++ servers ≡ w.pieces ++ w.authority
  accepted_pieces = sym (ap (λ (x : Walk). x.pieces ++ x.authority) walk_is)

  pub accepted_end : w.end ≡ a.end
  accepted_end = ap (λ (x : Walk). x.end) walk_is

-- a reply is accepted if its walk is not lame
pub walk_accepted : (c : Config) (s : Step) (past : List Step) (ask : ShownAsk) (asked : Question) (route : ℕ)
    (octets : List ℕ) (m : Message) → AllDiffer c.routes → Matches c s past ask octets asked → Spells octets m
    → m.header.tc ≡ false → (m.header.rcode ≡ 0) ⊎ (m.header.rcode ≡ 3)
    → serving_route_of c asked.name ≡ Some route → is_lame (walk_of c m asked route).end ≡ false
    → Accepts c s past (walk_of c m asked route).pieces (walk_of c m asked route).authority
walk_accepted c s past ask asked route octets m differ matches spells untruncated rcode on fine = record {
  ask = ask;
  asked = asked;
  route = route;
  message = m;
  octets = octets;
  matches = matches;
  spells = spells;
  untruncated = untruncated;
  rcode = rcode;
  route_is = serves_exactly.only c asked.name route on;
  end = (walk_of c m asked route).end;
  content = carried_exactly.is c m asked route differ;
  not_lame = ends_well (walk_of c m asked route).end fine;
}

-- and the accepted question is the asked question
pub walk_accepted-asked : (c : Config) (s : Step) (past : List Step) (ask : ShownAsk) (asked : Question) (route : ℕ)
    (octets : List ℕ) (m : Message) (differ : AllDiffer c.routes) (matches : Matches c s past ask octets asked)
    (spells : Spells octets m) (untruncated : m.header.tc ≡ false)
    (rcode : (m.header.rcode ≡ 0) ⊎ (m.header.rcode ≡ 3)) (on : serving_route_of c asked.name ≡ Some route)
    (fine : is_lame (walk_of c m asked route).end ≡ false)
    → (walk_accepted c s past ask asked route octets m differ matches spells untruncated rcode on fine).asked ≡ asked
unfolding walk_accepted
walk_accepted-asked c s past ask asked route octets m differ matches spells untruncated rcode on fine = refl

-- and the accepted end is the walk's
pub walk_accepted-end : (c : Config) (s : Step) (past : List Step) (ask : ShownAsk) (asked : Question) (route : ℕ)
    (octets : List ℕ) (m : Message) (differ : AllDiffer c.routes) (matches : Matches c s past ask octets asked)
    (spells : Spells octets m) (untruncated : m.header.tc ≡ false)
    (rcode : (m.header.rcode ≡ 0) ⊎ (m.header.rcode ≡ 3)) (on : serving_route_of c asked.name ≡ Some route)
    (fine : is_lame (walk_of c m asked route).end ≡ false)
    → (walk_accepted c s past ask asked route octets m differ matches spells untruncated rcode on fine).end
    ≡ (walk_of c m asked route).end
unfolding walk_accepted
walk_accepted-end c s past ask asked route octets m differ matches spells untruncated rcode on fine = refl
