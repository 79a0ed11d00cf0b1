-- The content of a reply: RFC 1034 3.6.2, RFC 2181 5, 8 and 10.1, RFC 2308 2, 3 and 5. Neither code
-- nor table computes any of these definitions. Given are the records read from the octets, equality
-- of names without letter case (`lowered`), and the name in an alias's data (`name_of_rdata`).
use Rattle.std.specs.Prelude.{◌≡◌, ◌≢◌, ◌⊎◌, ℕ, ◌<◌, ◌≤◌, true, false, List, [], ◌∷◌, ◌++◌, length, Option, Some, None}
use Rattle.std.specs.List.{AllByRecursion}
use Rattle.dns_name.specs.Labels.{lowered, IsSame, IsUnder}
use Rattle.dns_message.specs.Values.{Question, Record, Message}
use Rattle.dns_message.specs.Messages.{HasShapes}
use Rattle.dns_message.specs.Data.{name_of_rdata}
use Rattle.suffix_routes.specs.Values.{Config, AllDiffer}
use Rattle.suffix_routes.specs.Routes.{IsRouteOf}
use Rattle.trust_rank.specs.Values.{rows, no_data, denied, Piece, End, found, ends_no_data, ends_denied, elsewhere}
use Rattle.trust_rank.specs.Values.{lame, Reply, reply_of}
use Rattle.trust_rank.specs.Walks.{walk_of}
use Rattle.cache_laws.specs.Lists.{IsBefore}
use Rattle.cache_laws.specs.Sets.{IsRecordFor, IsSetFrom}
use Rattle.cache_laws.specs.Ranks.{IsRanked}
use Rattle.cache_laws.specs.Denials.{question_at, LacksAt, IsLoneAlias, HasNothingAt}
use Rattle.cache_laws.specs.Lifetimes.{IsDenialFrom}
use Rattle.cache_laws.specs.Ends.{HasSoaFor, IsReferral}
use Rattle.cache_laws.specs.Servers.{NoneOwns, IsServerAbove, IsCarriedIn, OwnersDiffer}

-- ---- each piece

-- the slot has the owner's name and the asked class, and the piece the asked route
pub record IsOfReply (r : Reply) (p : Piece) : Type 0 where
  pub name : p.slot.key ≡ lowered p.owner
  pub class : p.slot.class ≡ r.question.class
  pub route : p.route ≡ r.route

-- a set is the whole set of the answer section, a denial has its SOA and lifetime, and the rank is
-- by authority
pub record IsPieceOf (r : Reply) (p : Piece) : Type 0 where
  pub set : IsSetFrom r.answers p
  pub denial : IsDenialFrom r.question.class r.authority p
  pub ranked : IsRanked r.is_authoritative r.question.name p.owner p.rank
  pub own : IsOfReply r p

-- the piece is the set of this type at the name
pub record IsSetAt (kind : ℕ) (name : List (List ℕ)) (p : Piece) : Type 0 where
  pub owner : IsSame p.owner name
  pub kind_is : p.slot.kind ≡ Some kind
  pub each : List (List ℕ)
  pub body : p.body ≡ rows each

-- ---- the aliases, one by one

-- the name is on the asked route: the longest suffix of the name, by labels, is the route's
abbrev pub IsOnRoute : Reply → List (List ℕ) → Type 0
IsOnRoute r name = IsRouteOf r.config.routes name r.route

-- each name but the last is on the asked route and has one alias, with the next name as target
abbrev pub LeadThrough : Reply → List (List ℕ) → List (List (List ℕ)) → List (List ℕ) → Type 0
LeadThrough r name [] last = name ≡ last
LeadThrough r name (target ∷ targets) last = IsOnRoute r name × IsLoneAlias r name target
    × LeadThrough r target targets last

-- the pieces are the aliases of the first name and of each target but the last, in this order
abbrev pub AreAliases : List (List ℕ) → List (List (List ℕ)) → List Piece → Type 0
AreAliases name [] [] = Unit {0}
AreAliases name [] (p ∷ pieces) = ⊥
AreAliases name (target ∷ targets) [] = ⊥
AreAliases name (target ∷ targets) (p ∷ pieces) = IsSetAt 5 name p × AreAliases target targets pieces

-- ---- the last name

-- two CNAME records (5) of the name have different data, against RFC 2181 10.1
pub record HasTwoAliases (r : Reply) (name : List (List ℕ)) : Type 0 where
  pub s : Record
  pub t : Record
  pub first : IsRecordFor (question_at r 5 name) r.answers s
  pub second : IsRecordFor (question_at r 5 name) r.answers t
  pub differ : s.rdata ≢ t.rdata

-- the data of a CNAME record of the name is no name
pub record HasNoTarget (r : Reply) (name : List (List ℕ)) : Type 0 where
  pub s : Record
  pub fits : IsRecordFor (question_at r 5 name) r.answers s
  pub none : name_of_rdata s.rdata ≡ None

-- the piece is the name's set of the asked type; a set of type CNAME has one record
pub record IsFoundAt (r : Reply) (name : List (List ℕ)) (p : Piece) : Type 0 where
  pub set : IsSetAt r.question.kind name p
  pub one : r.question.kind ≡ 5 → HasTwoAliases r name → ⊥

-- the piece is a name error: RCODE is 3, and the name has neither set nor alias (RFC 2308 2.1)
pub record IsErrorAt (r : Reply) (name : List (List ℕ)) (p : Piece) : Type 0 where
  pub rcode : r.rcode ≡ 3
  pub nothing : HasNothingAt r name
  pub owner : p.owner ≡ name
  pub kind_is : p.slot.kind ≡ None
  pub soa : Option Record
  pub body : p.body ≡ denied soa

-- The piece is NODATA: RCODE is not 3, and the name has neither set nor alias (RFC 2308 2.2). The
-- authority section has an SOA for the name; or the name is the asked name, and the reply is no
-- referral.
pub record IsNoDataAt (r : Reply) (count : ℕ) (name : List (List ℕ)) (p : Piece) : Type 0 where
  pub other : r.rcode ≢ 3
  pub nothing : HasNothingAt r name
  pub stated : HasSoaFor r name ⊎ ((count ≡ 0) × (IsReferral r → ⊥))
  pub owner : p.owner ≡ name
  pub kind_is : p.slot.kind ≡ Some r.question.kind
  pub soa : Option Record
  pub body : p.body ≡ no_data soa

-- aliases lead to the name, and the reply says nothing about the name: RCODE is not 3, and there is
-- no SOA
pub record IsLeftOpen (r : Reply) (count : ℕ) (name : List (List ℕ)) : Type 0 where
  pub on_route : IsOnRoute r name
  pub other : r.rcode ≢ 3
  pub nothing : HasNothingAt r name
  pub led : 1 ≤ count
  pub no_soa : HasSoaFor r name → ⊥

-- the name has to be asked for: after eight aliases, on a different route or none, or without a
-- word in the reply
abbrev pub HasToBeAsked : Reply → ℕ → List (List ℕ) → Type 0
HasToBeAsked r count name = (count ≡ 8) ⊎ ((IsOnRoute r name → ⊥) ⊎ IsLeftOpen r count name)

-- CNAME is asked for, and the name has two (RFC 2181 10.1)
pub record AsksForTwo (r : Reply) (name : List (List ℕ)) : Type 0 where
  pub asked : r.question.kind ≡ 5
  pub two : HasTwoAliases r name

-- the type is not CNAME; the name has no set of the type, and two aliases or one without target
pub record LosesItsWay (r : Reply) (name : List (List ℕ)) : Type 0 where
  pub other : r.question.kind ≢ 5
  pub no_set : LacksAt r r.question.kind name
  pub lost : HasTwoAliases r name ⊎ HasNoTarget r name

-- the reply says nothing about the asked name, and refers to further servers (RFC 2308 2.2)
pub record IsReferredOn (r : Reply) (count : ℕ) (name : List (List ℕ)) : Type 0 where
  pub first : count ≡ 0
  pub other : r.rcode ≢ 3
  pub nothing : HasNothingAt r name
  pub no_soa : HasSoaFor r name → ⊥
  pub refers : IsReferral r

-- the reply is lame at this name
abbrev pub IsLameAt : Reply → ℕ → List (List ℕ) → Type 0
IsLameAt r count name = AsksForTwo r name ⊎ (LosesItsWay r name ⊎ IsReferredOn r count name)

-- ---- the walk

-- the name is on the asked route, and has one piece
pub record ClosesAt (r : Reply) (count : ℕ) (name : List (List ℕ)) (closing : List Piece)
    (P : Piece → Type 0) : Type 0 where
  pub few : count < 8
  pub on_route : IsOnRoute r name
  pub p : Piece
  pub alone : closing ≡ p ∷ []
  pub is : P p

-- the pieces of the last name, after `count` aliases, and the end
abbrev pub EndsSo : Reply → ℕ → List (List ℕ) → List Piece → End → Type 0
EndsSo r count name closing found = ClosesAt r count name closing (IsFoundAt r name)
EndsSo r count name closing ends_no_data = ClosesAt r count name closing (IsNoDataAt r count name)
EndsSo r count name closing ends_denied = ClosesAt r count name closing (IsErrorAt r name)
EndsSo r count name closing (elsewhere last) = (count ≤ 8) × (closing ≡ []) × (name ≡ last)
    × HasToBeAsked r count name
EndsSo r count name closing lame = ⊥

-- aliases lead from the asked name to the last name; the pieces are these aliases, then the pieces
-- of the last name
pub record IsWalked (r : Reply) (pieces : List Piece) (end : End) : Type 0 where
  pub targets : List (List (List ℕ))
  pub last : List (List ℕ)
  pub lead : LeadThrough r r.question.name targets last
  pub aliases : List Piece
  pub closing : List Piece
  pub parts : pieces ≡ aliases ++ closing
  pub are : AreAliases r.question.name targets aliases
  pub ends : EndsSo r (length targets) last closing end

-- fewer than eight aliases lead from the asked name to a name on the asked route, where the reply
-- is lame
pub record IsLame (r : Reply) : Type 0 where
  pub targets : List (List (List ℕ))
  pub last : List (List ℕ)
  pub lead : LeadThrough r r.question.name targets last
  pub few : length targets < 8
  pub on_route : IsOnRoute r last
  pub lame_is : IsLameAt r (length targets) last

-- a lame reply has no pieces
abbrev pub AreWalked : Reply → List Piece → End → Type 0
AreWalked r pieces lame = (pieces ≡ []) × IsLame r
AreWalked r pieces found = IsWalked r pieces found
AreWalked r pieces ends_no_data = IsWalked r pieces ends_no_data
AreWalked r pieces ends_denied = IsWalked r pieces ends_denied
AreWalked r pieces (elsewhere name) = IsWalked r pieces (elsewhere name)

-- ---- the name servers of the authority section

-- an NS record (2) to be carried: its owner is on the asked route and has no piece on the walk
pub record IsServerFor (r : Reply) (pieces : List Piece) (s : Record) : Type 0 where
  pub server : IsServerAbove r.question r.authority s
  pub on_route : IsOnRoute r s.owner
  pub no_piece : NoneOwns s.owner pieces

-- the piece is the whole NS set of its owner, with rank 2; the owner is at or above the asked name
-- and on the asked route, and has no piece on the walk
pub record IsServerSet (r : Reply) (pieces : List Piece) (p : Piece) : Type 0 where
  pub set : IsSetFrom r.authority p
  pub at : IsSetAt 2 p.owner p
  pub ranked : p.rank ≡ 2
  pub own : IsOfReply r p
  pub above : IsUnder r.question.name p.owner
  pub on_route : IsOnRoute r p.owner
  pub no_piece : NoneOwns p.owner pieces

-- the question for the name servers of this owner
abbrev pub servers_of : Reply → Piece → Question
servers_of r p = record { name = p.owner; kind = 2; class = r.question.class }

-- a record of the first set comes before all of the second
abbrev pub BeginsFirst : Reply → List Record → Piece → Piece → Type 0
BeginsFirst r [] p q = ⊥
BeginsFirst r (s ∷ records) p q = IsRecordFor (servers_of r p) (s ∷ records) s
    ⊎ ((IsRecordFor (servers_of r q) (s ∷ records) s → ⊥) × BeginsFirst r records p q)

-- each piece is a set of name servers, each NS record to be carried is in a set, no two sets have
-- equal owners, and the sets are in the order of their first records
pub record AreServers (r : Reply) (pieces servers : List Piece) : Type 0 where
  pub each : AllByRecursion (IsServerSet r pieces) servers
  pub all : (s : Record) → IsServerFor r pieces s → IsCarriedIn servers s
  pub apart : OwnersDiffer servers
  pub in_order : (p q : Piece) → IsBefore p q servers → BeginsFirst r r.authority p q

-- ---- all of it

-- The message, as a reply to the question on the route, has these pieces on its walk, these sets of
-- name servers, and this end. Only an authoritative, not lame reply carries name servers.
pub record IsCarriedBy (c : Config) (m : Message) (q : Question) (route : ℕ) (pieces servers : List Piece)
    (end : End) : Type 0 where
  pub each : AllByRecursion (IsPieceOf (reply_of c m q route)) pieces
  pub walk : AreWalked (reply_of c m q route) pieces end
  pub servers_are : m.header.aa ≡ true → end ≢ lame → AreServers (reply_of c m q route) pieces servers
  pub none_without_authority : m.header.aa ≡ false → servers ≡ []
  pub none_if_lame : end ≡ lame → servers ≡ []

-- `walk_of` gives pieces, name servers and end as they are carried, and no others are carried so.
-- No two routes have the same suffix, as in each accepted configuration. The record data has the
-- shapes of its types, as in each message that was read.
pub record CarriedExactly : Type 0 where
  pub is : (c : Config) (m : Message) (q : Question) (route : ℕ) → AllDiffer c.routes
      → IsCarriedBy c m q route (walk_of c m q route).pieces (walk_of c m q route).authority (walk_of c m q route).end
  pub only : (c : Config) (m : Message) (q : Question) (route : ℕ) (pieces servers : List Piece) (end : End)
      → AllDiffer c.routes → HasShapes m → IsCarriedBy c m q route pieces servers end
      → walk_of c m q route ≡ record { pieces = pieces; authority = servers; end = end }
