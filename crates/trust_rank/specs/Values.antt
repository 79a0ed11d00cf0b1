-- The pieces of a reply.
use Rattle.std.specs.Prelude.{ℕ, Bool, List, Option, Some, None, Box}
use Rattle.dns_message.specs.Values.{Question, Record, Message}
use Rattle.suffix_routes.specs.Values.{Config}
use Rattle.trust_rank.specs.declared.slot.Slot.{Slot}
use Rattle.trust_rank.specs.declared.piece.Body.{Body as OwnedBody}
use Rattle.trust_rank.specs.declared.piece.Body.TheVariants.{Rows, NoData, Denied}
use Rattle.trust_rank.specs.declared.walk.End.{End as OwnedEnd}
use Rattle.trust_rank.specs.declared.walk.End.TheVariants as ends

-- a set's data, or the SOA, if any, of a denial: of a type (NODATA), or of the whole name
-- (NXDOMAIN) (RFC 2308 2)
pub data Body : Type 0 where
  rows : List (List ℕ) → Body
  no_data : Option Record → Body
  denied : Option Record → Body

-- the content of a reply for a slot
pub record Piece : Type 0 where
  pub owner : List (List ℕ)
  pub slot : Slot
  pub body : Body
  pub lifetime : ℕ  -- in seconds
  pub rank : ℕ
  pub route : ℕ

-- how the walk of a reply ends
pub data End : Type 0 where
  found : End
  ends_no_data : End
  ends_denied : End
  elsewhere : List (List ℕ) → End
  lame : End

-- the pieces of a walk in order, the name servers of the authority section, and the walk's end
pub record Walk : Type 0 where
  pub pieces : List Piece
  pub authority : List Piece
  pub end : End

-- a reply to a question on a route, without the parts that no walk needs
pub record Reply : Type 0 where
  pub config : Config
  pub route : ℕ
  pub question : Question
  pub is_authoritative : Bool  -- AA
  pub rcode : ℕ
  pub answers : List Record
  pub authority : List Record

-- a message as the reply to a question on a route
abbrev pub reply_of : Config → Message → Question → ℕ → Reply
reply_of c m q route = record {
  config = c;
  route = route;
  question = q;
  is_authoritative = m.header.aa;
  rcode = m.header.rcode;
  answers = m.answers;
  authority = m.authority;
}

-- the record in the box, if any
abbrev pub unboxed : {A : Type 0} → Option (Box Record A) → Option Record
unboxed None = None
unboxed (Some b) = Some b.value

-- the content of a piece of the code as a plain value
abbrev pub body_of : {A : Type 0} → OwnedBody A → Body
body_of (Rows each) = rows each
body_of (NoData soa) = no_data (unboxed soa)
body_of (Denied soa) = denied (unboxed soa)

-- the end of a walk of the code as a plain value
abbrev pub end_of : {A : Type 0} → OwnedEnd A → End
end_of ends.Found = found
end_of ends.NoData = ends_no_data
end_of ends.Denied = ends_denied
end_of (ends.Elsewhere name) = elsewhere name
end_of ends.Lame = lame
