-- The properties of each piece.
use Rattle.std.specs.Prelude.{◌≡◌, ◌≢◌, ℕ, ◌≤◌, List, [], Option, Some, None}
use Rattle.std.specs.List.{AllByRecursion}
use Rattle.std.specs.Option.{IfSome}
use Rattle.dns_message.specs.DnsName.Labels.{lowered}
use Rattle.dns_message.specs.Values.{Record}
use Rattle.dns_message.specs.Data.{IsShaped}
use Rattle.dns_message.specs.Messages.{AreShaped}
use Rattle.trust_rank.specs.Values.{Body, rows, no_data, denied, Piece}
use Rattle.trust_rank.specs.Sets.{longest}

-- an SOA record with data of the type's shape
pub record IsSoa (soa : Record) : Type 0 where
  pub kind : soa.kind ≡ 6
  pub shaped : IsShaped 6 soa.rdata

-- data of a set of this type: some, and each of the type's shape
pub record AreRows (kind : ℕ) (each : List (List ℕ)) : Type 0 where
  pub some : each ≢ []
  pub shaped : AllByRecursion (IsShaped kind) each

-- the body is of its slot's kind
abbrev pub FitsKind : Option ℕ → Body → Type 0
FitsKind (Some kind) (rows each) = AreRows kind each
FitsKind (Some kind) (no_data soa) = IfSome soa IsSoa
FitsKind None (denied soa) = IfSome soa IsSoa
FitsKind None (rows each) = ⊥
FitsKind None (no_data soa) = ⊥
FitsKind (Some kind) (denied soa) = ⊥

-- The slot is the owner's; a name error, and nothing else, has no type. A set is not empty, a
-- denial's record is an SOA, data has the shape of its type, and the lifetime is a week at most.
pub record IsPiece (p : Piece) : Type 0 where
  pub key : p.slot.key ≡ lowered p.owner
  pub body : FitsKind p.slot.kind p.body
  pub lifetime : p.lifetime ≤ longest

-- the data of each record is of its type's shape
pub record AreShapedSections (answers authority : List Record) : Type 0 where
  pub answers_shaped : AreShaped answers
  pub authority_shaped : AreShaped authority
