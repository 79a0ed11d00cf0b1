-- Octets spell the message read from them.
use Rattle.std.proofs.Common.{◌≡◌, ℕ, List}
use Rattle.std.specs.Prelude.{Ok}
use Rattle.dns_message.specs.Values.{Message}
use Rattle.dns_message.specs.Messages.{message_of, Spells}
use Rattle.dns_message.specs.Header.{header_in}
use Rattle.dns_message.proofs.CallerLemmas.{spelled_message_is_read, message_read_is_spelled}
use Rattle.step_table.proofs.CallerLemmas.{header_there}

pub spells_read : (octets : List ℕ) (m : Message) → Spells octets m → message_of octets ≡ Ok m
spells_read octets m spells = spelled_message_is_read octets m spells

pub read_spells : (octets : List ℕ) (m : Message) → message_of octets ≡ Ok m → Spells octets m
read_spells octets m read = message_read_is_spelled octets m read

pub read_header : (octets : List ℕ) (m : Message) → message_of octets ≡ Ok m → header_in octets ≡ m.header
read_header octets m read = (header_there octets m.header (message_read_is_spelled octets m read).header).0
