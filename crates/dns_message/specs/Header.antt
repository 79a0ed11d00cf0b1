-- The header: RFC 1035 4.1.1.
use Rattle.std.specs.Prelude.{ℕ, ◌<◌, ◌/◌, ◌%◌, List, [], ◌∷◌, length, Option, Some, None, Bool, nat_lt, nat_le}
use Rattle.std.specs.Prelude.{if◌then◌else◌, slice_index}
pub use Rattle.dns_message.specs.declared.reading.header.Header.{Header}
use Rattle.dns_message.specs.Numbers.{number16}

-- the bit of this weight is set
abbrev pub flag : ℕ → ℕ → Bool
flag octet weight = nat_le 1 (octet / weight % 2)

-- ID; QR, opcode of 4 bits, AA, TC, RD, RA, Z of 3 bits and RCODE of 4, from the high bit down; the
-- four counts
abbrev pub header_in : List ℕ → Header
header_in bytes = record {
  id = number16 bytes 0;
  qr = flag (slice_index bytes 2) 128;
  opcode = slice_index bytes 2 / 8 % 16;
  aa = flag (slice_index bytes 2) 4;
  tc = flag (slice_index bytes 2) 2;
  rd = flag (slice_index bytes 2) 1;
  ra = flag (slice_index bytes 3) 128;
  z = slice_index bytes 3 / 16 % 8;
  rcode = slice_index bytes 3 % 16;
  counts = number16 bytes 4 ∷ number16 bytes 6 ∷ number16 bytes 8 ∷ number16 bytes 10 ∷ [];
}

-- the header, if there are 12 octets
unfoldable pub header_of : List ℕ → Option Header
header_of bytes = if nat_lt (length bytes) 12 then None else Some (header_in bytes)

-- opcode and RCODE fit their 4 bits, and Z its 3
pub record FitsBits (header : Header) : Type 0 where
  pub opcode : header.opcode < 16
  pub z : header.z < 8
  pub rcode : header.rcode < 16
