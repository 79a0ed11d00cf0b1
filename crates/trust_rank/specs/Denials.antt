-- Denials: RFC 2308 2, 3 and 5.
use Rattle.std.specs.Prelude.{ℕ, ◌-◌, Bool, ◌==◌, ◌&&◌, min, List, length, Option, Some, None}
use Rattle.std.specs.List.{find}
use Rattle.dns_message.specs.DnsName.Labels.{lowered, is_under}
use Rattle.dns_message.specs.Values.{Record}
use Rattle.dns_message.specs.Numbers.{number32}
use Rattle.trust_rank.specs.Values.{Body, no_data, denied, Piece}
use Rattle.trust_rank.specs.Sets.{seconds_of}

-- an SOA record of the class, whose owner is at or above the name
abbrev pub is_soa_for : List (List ℕ) → ℕ → Record → Bool
is_soa_for name class r = (r.kind == 6) && (r.class == class) && is_under name r.owner

-- the SOA record of a denial at the name: the first that fits
abbrev pub soa_for : List (List ℕ) → ℕ → List Record → Option Record
soa_for name class authority = find (is_soa_for name class) authority

-- MINIMUM, the last field of an SOA's data (RFC 1035 3.3.13)
abbrev pub minimum_of : List ℕ → ℕ
minimum_of rdata = number32 rdata (length rdata - 4)

-- no denial lives longer than three hours (advised by RFC 2308 5)
abbrev pub longest_denial : ℕ
longest_denial = 10800

-- the least of the SOA's TTL and its MINIMUM (RFC 2308 5); a denial without SOA is used once and
-- not kept
abbrev pub denial_lifetime : Option Record → ℕ
denial_lifetime None = 0
denial_lifetime (Some soa) = min (min (seconds_of soa.ttl) (minimum_of soa.rdata)) longest_denial

-- the denial with this body and SOA, of one type, or without a type of the whole name
abbrev pub denial_with : ℕ → ℕ → List (List ℕ) → ℕ → Option ℕ → Body → Option Record → Piece
denial_with rank route name class kind body soa = record {
  owner = name;
  slot = record { key = lowered name; class = class; kind = kind };
  body = body;
  lifetime = denial_lifetime soa;
  rank = rank;
  route = route;
}

-- NODATA: the name has no records of this type (RFC 2308 2.2)
abbrev pub no_data_with : ℕ → ℕ → List (List ℕ) → ℕ → ℕ → Option Record → Piece
no_data_with rank route name class kind soa = denial_with rank route name class (Some kind) (no_data soa) soa

-- a name error: there is no such name (RFC 2308 2.1), nor any name below (RFC 8020 2)
abbrev pub name_error_with : ℕ → ℕ → List (List ℕ) → ℕ → Option Record → Piece
name_error_with rank route name class soa = denial_with rank route name class None (denied soa) soa
