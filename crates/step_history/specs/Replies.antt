-- The messages for clients.
use Rattle.std.specs.Prelude.{ℕ, ◌≤◌, List, [], ◌∷◌, ◌++◌, length, map}
use Rattle.dns_message.specs.Writing.{written}
use Rattle.record_cache.specs.Values.{Held}
use Rattle.answer_builder.specs.Values.{Asked, Sections}
use Rattle.answer_builder.specs.Answers.{with_ttl, with_stale_ttls, sections_with_ttls, sections_of, local_sections, full_answer}
use Rattle.answer_builder.specs.Answers.{cut_answer, error_response}
use Rattle.answer_builder.specs.Transports.{over_udp}
use Rattle.step_values.specs.declared.event.Client.{Client}
use Rattle.step_values.specs.declared.event.Client.TheVariants.{Udp, Tcp}
use Rattle.step_values.specs.declared.action.Why.{Why}
use Rattle.step_values.specs.Requests.{rcode_of_why}

-- the answer from aliases and their end, with the seconds left at t
abbrev pub answer_text : Asked → List Held → Held → ℕ → List ℕ
answer_text a aliases end t = written (full_answer a (sections_of t (aliases ++ end ∷ [])))

-- the answer, cut to the question
abbrev pub cut_text : Asked → List Held → Held → ℕ → List ℕ
cut_text a aliases end t = written (cut_answer a (sections_of t (aliases ++ end ∷ [])))

-- the answer with these sections
abbrev pub full_text : Asked → Sections → List ℕ
full_text a s = written (full_answer a s)

-- the answer, cut: header with TC, and the question (RFC 1035 4.2.1)
abbrev pub short_text : Asked → Sections → List ℕ
short_text a s = written (cut_answer a s)

-- the held aliases, then aliases and a set, with 30 seconds for expired ones (RFC 8767 4)
abbrev pub stale_sections : ℕ → List Held → List Held → Held → Sections
stale_sections t held found end = sections_with_ttls (with_stale_ttls (length held) t (held ++ (found ++ end ∷ [])))

-- a name error, with the aliases to the denied name
abbrev pub denied_sections : ℕ → List Held → Sections
denied_sections t aliases = local_sections (map (with_ttl t) aliases)

-- over UDP an answer of more than 512 octets is cut (RFC 1035 4.2.1)
abbrev pub sized_for : Client → List ℕ → List ℕ → List ℕ
sized_for (Udp peer) full cut = over_udp full cut
sized_for (Tcp conn) full cut = full

-- over TCP a message has at most 65,535 octets (RFC 1035 4.2.2)
abbrev pub FitsTransport : Client → List ℕ → Type 0
FitsTransport (Udp peer) octets = Unit {0}
FitsTransport (Tcp conn) octets = length octets ≤ 65535

-- the text of a failure for this reason
abbrev pub failure_text : Asked → Why → List ℕ
failure_text a why = written (error_response a (rcode_of_why why))
