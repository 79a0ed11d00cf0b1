-- Redirected questions, which wait for the question at the end of their aliases.
use Rattle.std.specs.Prelude.{List, [], Option, Some, None}
use Rattle.dns_message.specs.Values.{Question}
use Rattle.answer_builder.specs.RecordCache.Values.{Held}
use Rattle.waiting_questions.specs.Values.{Waiting}

-- the held aliases, and the question that is wanted now
pub record Onward : Type 0 where
  pub held : List Held
  pub wanted : Question

-- a question without redirection holds no aliases, and wants its own answer
abbrev pub held_of : Option Onward → List Held
held_of None = []
held_of (Some s) = s.held

-- the wanted question: its own, or the question at the end of its aliases
abbrev pub wanted_of : Question → Option Onward → Question
wanted_of q None = q
wanted_of q (Some s) = s.wanted

-- the waiting question with these aliases and this wanted question
abbrev pub redirected : Onward → Waiting → Waiting
redirected s x = record x { held = s.held; wanted = s.wanted }

-- the waiting question, redirected or not
abbrev pub waits_on : Option Onward → Waiting → Waiting
waits_on None x = x
waits_on (Some s) x = redirected s x
