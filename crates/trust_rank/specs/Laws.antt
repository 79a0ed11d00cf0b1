-- Statements about the walk of a reply.
use Rattle.std.specs.Prelude.{◌≡◌, ◌≢◌, ℕ, ◌<◌, ◌≤◌, true, List, [], ◌∷◌, ◌++◌, length, Option, Some, None}
use Rattle.std.specs.List.{AllByRecursion}
use Rattle.dns_message.specs.DnsName.Labels.{lowered, is_under}
use Rattle.dns_message.specs.Values.{Question, Message}
use Rattle.dns_message.specs.Messages.{HasShapes}
use Rattle.dns_message.specs.Written.{IsQuestion, IsRecord}
use Rattle.suffix_routes.specs.Values.{Config}
use Rattle.suffix_routes.specs.Routes.{route_of}
use Rattle.trust_rank.specs.Values.{Body, rows, no_data, denied, Piece, End, found, ends_no_data, ends_denied}
use Rattle.trust_rank.specs.Values.{elsewhere, lame, Reply, reply_of}
use Rattle.trust_rank.specs.Walks.{target_of, most_aliases, walk_of}
use Rattle.trust_rank.specs.Formed.{IsPiece}
use Rattle.trust_rank.specs.Writable.{IsWritable}

-- a well-formed piece of the asked class, of this name and type, with the asked route, which is the
-- name's
pub record IsCarriedFor (r : Reply) (name : List (List ℕ)) (kind : Option ℕ) (p : Piece) : Type 0 where
  pub piece : IsPiece p
  pub slot : p.slot ≡ record { key = lowered name; class = r.question.class; kind = kind }
  pub route : p.route ≡ r.route
  pub on_route : route_of r.config.routes name ≡ Some r.route

-- an alias at a name, with its target; a question for CNAME follows none (RFC 1034 3.6.2)
pub record IsAliasTo (r : Reply) (name target : List (List ℕ)) (p : Piece) : Type 0 where
  pub carried : IsCarriedFor r name (Some 5) p
  pub leads : target_of p.body ≡ Some target
  pub follows : r.question.kind ≢ 5

-- each is an alias at the target of the alias before, from the first name to the last
abbrev pub Lead : Reply → List (List ℕ) → List Piece → List (List ℕ) → Type 0
Lead r name [] last = name ≡ last
Lead r name (p ∷ pieces) last = (target : List (List ℕ)) × IsAliasTo r name target p × Lead r target pieces last

-- the type of the last piece
abbrev pub last_kind : Reply → End → Option ℕ
last_kind r ends_denied = None
last_kind r found = Some r.question.kind
last_kind r ends_no_data = Some r.question.kind
last_kind r (elsewhere name) = None
last_kind r lame = None

-- the body of the last piece
abbrev pub IsLastBody : End → Body → Type 0
IsLastBody found (rows each) = Unit {0}
IsLastBody ends_no_data (no_data soa) = Unit {0}
IsLastBody ends_denied (denied soa) = Unit {0}
IsLastBody end body = ⊥

-- fewer aliases than `most`, and a last piece at their target
pub record Closes (r : Reply) (most : ℕ) (name : List (List ℕ)) (end : End) (pieces : List Piece) : Type 0 where
  pub aliases : List Piece
  pub last : Piece
  pub last_name : List (List ℕ)
  pub whole : pieces ≡ aliases ++ last ∷ []
  pub few : length aliases < most
  pub lead : Lead r name aliases last_name
  pub carried : IsCarriedFor r last_name (last_kind r end) last
  pub body : IsLastBody end last.body

-- the pieces of a walk with this end
abbrev pub EndsSo : Reply → List Piece → List Piece → End → Type 0
EndsSo r pieces authority found = Closes r most_aliases r.question.name found pieces
EndsSo r pieces authority ends_no_data = Closes r most_aliases r.question.name ends_no_data pieces
EndsSo r pieces authority ends_denied = Closes r most_aliases r.question.name ends_denied pieces
EndsSo r pieces authority (elsewhere name) = (1 ≤ length pieces) × (length pieces ≤ most_aliases)
    × Lead r r.question.name pieces name
EndsSo r pieces authority lame = (pieces ≡ []) × (authority ≡ [])

-- Aliases lead from the asked name to a last name, where a last piece closes: after fewer than
-- eight aliases. After one to eight aliases the last name may have to be asked for. A lame reply
-- carries nothing.
abbrev pub WalkLeads : Type 0
WalkLeads =
    (c : Config) (m : Message) (q : Question) (route : ℕ) → HasShapes m → route_of c.routes q.name ≡ Some route
    → EndsSo (reply_of c m q route) (walk_of c m q route).pieces (walk_of c m q route).authority
    (walk_of c m q route).end

-- an NS set whose owner is at or above the asked name
pub record IsServerSet (r : Reply) (p : Piece) : Type 0 where
  pub carried : IsCarriedFor r p.owner (Some 2) p
  pub above : is_under r.question.name p.owner ≡ true

-- The pieces next to the walk are NS sets of the asked class at or above the asked name, on the
-- asked route.
abbrev pub ServersFit : Type 0
ServersFit =
    (c : Config) (m : Message) (q : Question) (route : ℕ) → HasShapes m
    → AllByRecursion (IsServerSet (reply_of c m q route)) (walk_of c m q route).authority

-- The pieces of a reply can be written if the question and the records of its sections can.
abbrev pub PiecesAreWritable : Type 0
PiecesAreWritable =
    (c : Config) (m : Message) (q : Question) (route : ℕ) → IsQuestion q → AllByRecursion IsRecord m.answers
    → AllByRecursion IsRecord m.authority
    → AllByRecursion IsWritable (walk_of c m q route).pieces × AllByRecursion IsWritable (walk_of c m q route).authority
