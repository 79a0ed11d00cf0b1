-- Worked identifiers: the greatest of 16 bits is a message's, and no greater one (RFC 1035 4.1.1).
use Rattle.std.proofs.Common.{ℕ, ◌<◌, [], ◌∷◌, true, false, arith}
use Rattle.dns_message.specs.Values.{Message}
use Rattle.dns_message.specs.Written.{IsMessage}

-- a message with a header alone
abbrev with_identifier : ℕ → Message
with_identifier id = record {
  header = record { id = id; qr = true; opcode = 0; aa = false; tc = false; rd = true; ra = false; z = 0; rcode = 0; counts = 0 ∷ 0 ∷ 0 ∷ 0 ∷ [] };
  questions = [];
  answers = [];
  authority = [];
  additional = [];
}

greatest : IsMessage (with_identifier 65535)
greatest = record { id = omega arith; bits = record { opcode = omega arith; z = omega arith; rcode = omega arith }; questions = tt; answers = tt; authority = tt; additional = tt }

too_great : IsMessage (with_identifier 65536) → ⊥
too_great h = let fits : 65536 < 65536 = h.id in omega (arith, fits)
