-- Denials by the configuration: RFC 6761 6.4, RFC 2308 2.1.
use Rattle.std.specs.Prelude.{◌≡◌, ℕ, List, [], ◌∷◌, Some}
use Rattle.dns_message.specs.declared.reading.header.Header.{Header}
use Rattle.dns_message.specs.Values.{Question, Message}
use Rattle.dns_message.specs.Messages.{Spells}
use Rattle.record_cache.specs.Values.{Held}
use Rattle.step_values.specs.declared.event.Client.{Client}
use Rattle.cache_laws.specs.Serving.{IsDenied}
use Rattle.step_history.specs.History.{Look, moment_at}
use Rattle.step_history.specs.Answers.{Leads}
use Rattle.step_history.specs.Replies.{full_text, short_text, denied_sections, sized_for, FitsTransport}
use Rattle.answer_builder.specs.Values.{asked_in}

-- `Leads` from q to a denied name; without aliases, the answer is at once
pub record ChainToLocal (l : Look) (q : Question) (aliases : List Held) : Type 0 where
  pub last : Question
  pub leads : Leads l q aliases last
  pub denied : IsDenied l.config last.name
  pub at_once : aliases ≡ [] → l.now ≡ l.asked ∷ l.before

-- the octets answer q with this denial, and can be read
pub record LocalAnswers (l : Look) (client : Client) (h : Header) (q : Question) (octets : List ℕ) : Type 0 where
  pub aliases : List Held
  pub chain : ChainToLocal l q aliases
  pub text : octets ≡ sized_for client (full_text (asked_in h (Some q)) (denied_sections (moment_at l.now) aliases))
      (short_text (asked_in h (Some q)) (denied_sections (moment_at l.now) aliases))
  pub fits : FitsTransport client octets
  pub message : Message
  pub spells : Spells octets message
