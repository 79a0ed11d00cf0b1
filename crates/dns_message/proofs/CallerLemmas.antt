-- Lemmas about messages, for proofs of crates above.
use Rattle.std.proofs.Common.{◌≡◌, ℕ, ◌≤◌, List, [], length, Ok, ◌-◌, take, None, Some, ◌+◌, ◌<◌, Option}
use Rattle.dns_name.specs.Labels.{size_of, labels_of, IsLaidOut, IsName}
use Rattle.dns_message.specs.Names.{NameAt, name_at}
use Rattle.std.specs.Bool.{Decides}
use Rattle.dns_message.specs.Reading.{end_read}
use Rattle.dns_message.specs.Values.{Question, Message}
use Rattle.dns_message.specs.Data.{name_octets, name_of_rdata}
use Rattle.dns_message.specs.Questions.{same_question}
use Rattle.dns_message.specs.Messages.{Spells, FirstQuestion, HasShapes, IsSameQuestion, first_question, message_of}
use Rattle.std.specs.Option.{IfSome}
use Rattle.dns_name.specs.PlainValues.Octets.{AreOctets}
use Rattle.dns_message.specs.Numbers.{number16}
use Rattle.dns_message.specs.declared.reading.header.Header.{Header}
use Rattle.dns_message.specs.Records.{QuestionAt}
use Rattle.dns_message.specs.Borrowed.{message_of as message_of_parts}
use Rattle.dns_message.specs.Writing.{written}
use Rattle.dns_message.specs.Written.{IsQuestion, IsMessage, IsCounted}
use Rattle.dns_message.proofs.names.NameLaws as names
use Rattle.dns_message.proofs.reading.QuestionLaws as questions
use Rattle.dns_message.proofs.reading.WholeLaws as whole
use Rattle.dns_message.proofs.reading.ShapeLaws as shapes
use Rattle.dns_message.proofs.writing.Reading as reading
use Rattle.dns_message.proofs.writing.Short as short
use Rattle.dns_message.proofs.writing.RoundTripMessage as round

-- ---- a name is read exactly if laid out, in at most 255 octets

-- a read name is laid out
pub name_read_stands : (bytes : List ℕ) (o : ℕ) (labels : List (List ℕ)) (e : ℕ) → name_at bytes o ≡ Ok (labels, e) → NameAt bytes o o labels e × (size_of labels ≤ 255)
name_read_stands = names.name_sound

-- a laid out name is read
pub standing_name_is_read : (bytes : List ℕ) (o : ℕ) (labels : List (List ℕ)) (e : ℕ) → NameAt bytes o o labels e → size_of labels ≤ 255 → name_at bytes o ≡ Ok (labels, e)
standing_name_is_read = names.name_complete

-- ---- equal questions, letter case aside

-- the test decides equality of questions
pub same_question_decides : (a b : Question) → Decides (same_question a b) (IsSameQuestion a b)
same_question_decides = questions.same_question_decides

-- equality of questions is an equivalence
pub same_question_reflexive : (a : Question) → IsSameQuestion a a
same_question_reflexive = questions.same_question_refl

pub same_question_symmetric : (a b : Question) → IsSameQuestion a b → IsSameQuestion b a
same_question_symmetric = questions.same_question_sym

pub same_question_transitive : (a b c : Question) → IsSameQuestion a b → IsSameQuestion b c → IsSameQuestion a c
same_question_transitive = questions.same_question_trans

-- ---- a message is read exactly if the octets spell the message

pub message_read_is_spelled : (bytes : List ℕ) (message : Message) → message_of bytes ≡ Ok message → Spells bytes message
message_read_is_spelled = whole.spelled_by

pub spelled_message_is_read : (bytes : List ℕ) (message : Message) → Spells bytes message → message_of bytes ≡ Ok message
spelled_message_is_read = whole.of_spelled

-- no octets spell two messages
pub one_message_is_spelled : (bytes : List ℕ) (a b : Message) → Spells bytes a → Spells bytes b → a ≡ b
one_message_is_spelled = whole.one_message

-- the data of a message's records has the types' shapes
pub spelled_message_has_shapes : (bytes : List ℕ) (message : Message) → Spells bytes message → HasShapes message
spelled_message_has_shapes = shapes.spelled_shapes

-- ---- the first question is read exactly if laid out

pub first_question_read_stands : (bytes : List ℕ) (question : Question) → first_question bytes ≡ Ok question → FirstQuestion bytes question
first_question_read_stands = whole.first_sound

pub standing_first_question_is_read : (bytes : List ℕ) (question : Question) → FirstQuestion bytes question → first_question bytes ≡ Ok question
standing_first_question_is_read = whole.first_complete

-- octets laid out as a name, 255 at most, are a name
pub standing_name_is_name : (bytes : List ℕ) (o f e : ℕ) (labels : List (List ℕ)) → NameAt bytes o f labels e → size_of labels ≤ 255 → IsName labels
standing_name_is_name = shapes.name_is

-- data of a single name is the name in full
pub data_that_is_a_name : (octets : List ℕ) (labels : List (List ℕ)) → name_of_rdata octets ≡ Some labels → IsName labels × (octets ≡ name_octets labels)
data_that_is_a_name = shapes.named_sound

-- data that a name fills is the name; other data is no name
pub name_to_the_end : (octets : List ℕ) (end : ℕ) → end_read (name_at octets 0) ≡ Ok end → end ≡ length octets
    → (1 ≤ end) × IsLaidOut (take (end - 1) octets) × (name_of_rdata octets ≡ Some (labels_of (take (end - 1) octets)))
name_to_the_end octets end ends all = let only = shapes.only_name octets end ends all in (only.some, only.laid, only.name)

pub no_name_to_the_end : (octets : List ℕ) → (end_read (name_at octets 0) ≡ Ok (length octets) → ⊥) → name_of_rdata octets ≡ None
no_name_to_the_end = shapes.no_name

-- ---- written messages

-- The octets written for a message spell the message, if the header counts the lists, the data has
-- the types' shapes, and the octets are within a message's limit.
pub written_message_is_spelled : (message : Message) → IsMessage message → IsCounted message → HasShapes message → length (written message) ≤ 65535 → Spells (written message) message
written_message_is_spelled = round.message_spelled

-- A header with at most a question has at most 271 octets, if the question's name is a name.
pub bare_message_is_short : (header : Header) (question : Option Question) → IfSome question (λ q. IsName q.name) → length (written (message_of_parts header question [] [])) ≤ 271
bare_message_is_short = short.bare_message_is_short

-- ---- values read from octets can be written

-- a number at a place
pub number_at_place_is_small : (bytes : List ℕ) (o : ℕ) → AreOctets bytes → o + 2 ≤ length bytes → number16 bytes o < 65536
number_at_place_is_small = reading.number16_fits

-- a question
pub standing_question_is_question : (bytes : List ℕ) (o : ℕ) (question : Question) (e : ℕ) → AreOctets bytes → QuestionAt bytes o question e → IsQuestion question
standing_question_is_question = reading.standing_question_is_question

-- a whole message
pub spelled_message_is_message : (bytes : List ℕ) (message : Message) → AreOctets bytes → Spells bytes message → IsMessage message
spelled_message_is_message = reading.spelled_message_is_message
