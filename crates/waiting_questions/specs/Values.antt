-- Waiting questions.
use Rattle.std.specs.Prelude.{ℕ, Bool, List}
use Rattle.dns_message.specs.Values.{Question}
use Rattle.dns_message.specs.Questions.{same_question}
use Rattle.answer_builder.specs.RecordCache.Values.{Held}
use Rattle.answer_builder.specs.Values.{Asked}
use Rattle.step_values.specs.declared.event.Client.{Client}

-- a waiting question: the request to repeat, the held aliases, the wanted question
pub record Waiting : Type 0 where
  pub client : Client
  pub asked : Asked
  pub taken : ℕ  -- the moment at which it was taken, in milliseconds
  pub held : List Held
  pub wanted : Question

-- w wants q
abbrev pub waits_for : Question → Waiting → Bool
waits_for q x = same_question x.wanted q

-- the waiting questions, in the order of arrival, and whether one more fits without allocating
pub record WaitingList : Type 0 where
  pub items : List Waiting
  pub has_room : Bool
