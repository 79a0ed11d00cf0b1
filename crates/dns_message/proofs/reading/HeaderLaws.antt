-- A header's flags as a 16-bit number, and octet by octet.
use Rattle.std.proofs.Common.{◌≡◌, ℕ, ◌+◌, ◌*◌, ◌<◌, ◌≤◌, List, [], ◌∷◌, length, Some, refl, arith, le-ltb}
use Rattle.std.specs.Prelude.{◌/◌, ◌%◌, slice_index}
use Rattle.dns_message.specs.Header.{flag, header_of}
use Rattle.dns_message.specs.Numbers.{number16}

-- the header with flags read as a 16-bit number
pub header_by_flags : (bytes : List ℕ) (flags : ℕ) → 12 ≤ length bytes → slice_index bytes 3 < 256 → flags ≡ number16 bytes 2
    → Some (record {
      id = number16 bytes 0;
      qr = flag flags 32768;
      opcode = flags / 2048 % 16;
      aa = flag flags 1024;
      tc = flag flags 512;
      rd = flag flags 256;
      ra = flag flags 128;
      z = flags / 16 % 8;
      rcode = flags / 1 % 16;
      counts = number16 bytes 4 ∷ number16 bytes 6 ∷ number16 bytes 8 ∷ number16 bytes 10 ∷ [];
    }) ≡ header_of bytes
unfolding header_of
header_by_flags bytes flags long small is =
    let high : ℕ = slice_index bytes 2 in
    let low : ℕ = slice_index bytes 3 in
    let qr : (high * 256 + low) / 32768 % 2 ≡ high / 128 % 2 = omega (arith, small) in
    let opcode : (high * 256 + low) / 2048 % 16 ≡ high / 8 % 16 = omega (arith, small) in
    let aa : (high * 256 + low) / 1024 % 2 ≡ high / 4 % 2 = omega (arith, small) in
    let tc : (high * 256 + low) / 512 % 2 ≡ high / 2 % 2 = omega (arith, small) in
    let rd : (high * 256 + low) / 256 % 2 ≡ high / 1 % 2 = omega (arith, small) in
    let ra : (high * 256 + low) / 128 % 2 ≡ low / 128 % 2 = omega (arith, small) in
    let z : (high * 256 + low) / 16 % 8 ≡ low / 16 % 8 = omega (arith, small) in
    let rcode : (high * 256 + low) / 1 % 16 ≡ low % 16 = omega (arith, small) in
    rw (le-ltb (length bytes) 12 long, is, qr, opcode, aa, tc, rd, ra, z, rcode) refl
