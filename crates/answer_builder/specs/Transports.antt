-- The sent octets of an answer (RFC 1035 4.2).
use Rattle.std.specs.Prelude.{ℕ, if◌then◌else◌, nat_le, List, length, map, Result, Ok, Err}
use Rattle.dns_message.specs.Writing.{written}
use Rattle.record_cache.specs.Values.{Held}
use Rattle.answer_builder.specs.declared.asked.Transport.{Transport}
use Rattle.answer_builder.specs.declared.asked.Transport.TheVariants.{Udp, Tcp}
use Rattle.answer_builder.specs.declared.fault.Fault.{Fault}
use Rattle.answer_builder.specs.declared.fault.Fault.TheVariants.{TooLarge}
use Rattle.answer_builder.specs.Values.{Asked, Sections}
use Rattle.answer_builder.specs.Answers.{with_ttl, with_stale_ttls, sections_with_ttls, sections_of, local_sections, full_answer}
use Rattle.answer_builder.specs.Answers.{cut_answer}

-- more than 512 octets are cut: RFC 1035 4.2.1
abbrev pub over_udp : List ℕ → List ℕ → List ℕ
over_udp full cut = if nat_le (length full) 512 then full else cut

-- a length of 16 bits counts no more than 65,535 octets: RFC 1035 4.2.2
abbrev pub over_tcp : List ℕ → Result (List ℕ) Fault
over_tcp full = if nat_le (length full) 65535 then Ok full else Err TooLarge

-- over UDP the truncated text if the full text is too long, otherwise the full text (RFC 1035 4.2)
abbrev pub sent_over : Transport → List ℕ → List ℕ → Result (List ℕ) Fault
sent_over Udp full cut = Ok (over_udp full cut)
sent_over Tcp full cut = over_tcp full

-- the octets of an answer with these sections
abbrev pub text_of : Asked → Sections → Transport → Result (List ℕ) Fault
text_of a s transport = sent_over transport (written (full_answer a s)) (written (cut_answer a s))

-- the octets of the answer from a chain
abbrev pub answer_of : Asked → List Held → ℕ → Transport → Result (List ℕ) Fault
answer_of a chain moment transport = text_of a (sections_of moment chain) transport

-- the answer with expired pieces from index `stale_from` on at 30 seconds (RFC 8767 4), and at 0
-- before
abbrev pub stale_answer_of : Asked → List Held → ℕ → ℕ → Transport → Result (List ℕ) Fault
stale_answer_of a chain stale_from moment transport = text_of a (sections_with_ttls (with_stale_ttls stale_from moment chain)) transport

-- the answer from aliases to a name whose route denies
abbrev pub local_answer_of : Asked → List Held → ℕ → Transport → Result (List ℕ) Fault
local_answer_of a aliases moment transport = text_of a (local_sections (map (with_ttl moment) aliases)) transport
