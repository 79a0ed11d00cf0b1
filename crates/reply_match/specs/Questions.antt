-- The question of a reply.
use Rattle.std.specs.Prelude.{Bool, false, Option, Some, None}
use Rattle.dns_message.specs.Values.{Question}
use Rattle.dns_message.specs.Questions.{same_question}

-- a question was read, and is equal to this question
abbrev pub asks_this : Question → Option Question → Bool
asks_this question None = false
asks_this question (Some other) = same_question other question
