-- The properties of a piece without which no text of it could be read.
use Rattle.std.specs.Prelude.{◌<◌}
use Rattle.std.specs.Option.{IfSome}
use Rattle.dns_message.specs.DnsName.Labels.{IsName}
use Rattle.dns_message.specs.Written.{IsRecord}
use Rattle.trust_rank.specs.Values.{Body, rows, no_data, denied, Piece}

-- the SOA of a denial
abbrev pub IsWritableBody : Body → Type 0
IsWritableBody (rows each) = Unit {0}
IsWritableBody (no_data soa) = IfSome soa IsRecord
IsWritableBody (denied soa) = IfSome soa IsRecord

-- names are names, and numbers fit their fields
pub record IsWritable (p : Piece) : Type 0 where
  pub owner : IsName p.owner
  pub class : p.slot.class < 65536
  pub kind : IfSome p.slot.kind (λ kind. kind < 65536)
  pub body : IsWritableBody p.body
