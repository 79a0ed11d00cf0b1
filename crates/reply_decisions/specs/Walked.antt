-- The walk of a reply.
use Rattle.std.specs.Prelude.{◌≡◌, ℕ, ◌<◌, List, length}
use Rattle.plain_values.specs.Octets.{AreOctets}
use Rattle.dns_message.specs.Values.{Message}
use Rattle.dns_message.specs.Messages.{HasShapes}
use Rattle.suffix_routes.specs.Values.{Config}
use Rattle.trust_rank.specs.Values.{Piece, End, elsewhere, Walk}
use Rattle.trust_rank.specs.Walks.{walk_of}
use Rattle.outstanding.specs.Values.{Ask}
use Rattle.reply_match.specs.declared.verdict.Judged.{Judged}
use Rattle.reply_match.specs.declared.verdict.Judged.TheVariants.{Whole}

-- each octet of the view, if any, is below 256
abbrev pub ShowsOctets : Judged → Type 0
ShowsOctets (Whole message) = AreOctets message
ShowsOctets other = Unit {0}

-- a read message: the data of each record has the shape of its type, and a section's count has 16
-- bits
pub record IsRead (m : Message) : Type 0 where
  pub shapes : HasShapes m
  pub few : length m.authority < 65536

-- the walk of a read message, from the ask's name
pub record IsWalkFor (c : Config) (a : Ask) (w : Walk) : Type 0 where
  pub message : Message
  pub read : IsRead message
  pub is : w ≡ walk_of c message a.question a.route

-- the walk that carries these and ends so
abbrev pub walk_to : List Piece → List Piece → End → Walk
walk_to pieces authority e = record { pieces = pieces; authority = authority; end = e }

-- the walk with these pieces and name servers that leads on to this name
abbrev pub walk_on : List Piece → List Piece → List (List ℕ) → Walk
walk_on pieces authority name = walk_to pieces authority (elsewhere name)
