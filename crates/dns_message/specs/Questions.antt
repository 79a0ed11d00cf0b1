-- Equal questions, and the only question of a message.
use Rattle.std.specs.Prelude.{ℕ, Bool, if◌then◌else◌, ◌==◌, ◌&&◌, List, Option, Some, None, Result, Ok, Err}
use Rattle.std.specs.Prelude.{slice_index, ◌||◌, nat_le}
use Rattle.dns_name.specs.Labels.{same}
use Rattle.dns_message.specs.declared.names.fault.Fault.{Fault}
use Rattle.dns_message.specs.Values.{Question}
use Rattle.dns_message.specs.Header.{header_in}
use Rattle.dns_message.specs.Messages.{first_question}

-- equal name, letter case aside (RFC 1035 2.3.3, RFC 4343), equal type and class
abbrev pub same_question : Question → Question → Bool
same_question a b = same a.name b.name && (a.kind == b.kind) && (a.class == b.class)

-- the question, if readable
abbrev pub question_read : Result Question Fault → Option Question
question_read (Ok question) = Some question
question_read (Err fault) = None

-- the question of octets whose header counts a single question, if readable
abbrev pub one_question : List ℕ → Option Question
one_question octets = if slice_index (header_in octets).counts 0 == 1 then question_read (first_question octets)
    else None

-- the question with this name
abbrev pub asked_at : Question → List (List ℕ) → Question
asked_at q name = record { name = name; kind = q.kind; class = q.class }

-- types 0, 41 and 128 to 255, and class 255: no data, or more than one type or class (RFC 1035
-- 3.2.3 and 3.2.5, RFC 6895 3.1)
abbrev pub is_unserved : Question → Bool
is_unserved q = (q.kind == 0) || (q.kind == 41) || (nat_le 128 q.kind && nat_le q.kind 255) || (q.class == 255)
