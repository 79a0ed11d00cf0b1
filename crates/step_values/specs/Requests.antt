-- The messages of clients that are accepted, and the response code of each reply.
use Rattle.std.specs.Prelude.{ℕ, Bool, ◌&&◌, not, nat_le, List, length}
use Rattle.outstanding.specs.DnsMessage.Header.{header_in}
use Rattle.step_values.specs.declared.action.Why.{Why}
use Rattle.step_values.specs.declared.action.Why.TheVariants.{Answered, BadFormat, BadOpcode, NotServed, NoRoute}
use Rattle.step_values.specs.declared.action.Why.TheVariants.{QuestionsFull, InquiriesFull, NoPort, Exhausted, Deadline}
use Rattle.step_values.specs.declared.action.Why.TheVariants.{ChainLong, TooLarge, Stale, LocalDenied}

-- a client's message is not dropped: 12 to 65,535 octets, and QR not set
abbrev pub is_taken : List ℕ → Bool
is_taken octets = nat_le 12 (length octets) && nat_le (length octets) 65535 && not (header_in octets).qr

-- the response code (RFC 1035 4.1.1)
abbrev pub rcode_of_why : Why → ℕ
rcode_of_why Answered = 0
rcode_of_why BadFormat = 1
rcode_of_why BadOpcode = 4
rcode_of_why NotServed = 4
rcode_of_why NoRoute = 5
rcode_of_why QuestionsFull = 2
rcode_of_why InquiriesFull = 2
rcode_of_why NoPort = 2
rcode_of_why Exhausted = 2
rcode_of_why Deadline = 2
rcode_of_why ChainLong = 2
rcode_of_why TooLarge = 2
rcode_of_why Stale = 0
rcode_of_why LocalDenied = 3
