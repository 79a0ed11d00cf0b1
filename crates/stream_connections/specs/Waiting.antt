-- Waiting clients, and clients silent for too long (RFC 7766 6.2.3).
use Rattle.std.specs.Prelude.{◌≡◌, ℕ, ◌+◌, ◌-◌, ◌^◌, ◌==◌, ◌&&◌, min, Bool, false, nat_le, List, [], length}
use Rattle.std.specs.Prelude.{if◌then◌else◌}
use Rattle.system_calls.specs.declared.sockets.Stream.{Stream}
use Rattle.tcp_frames.specs.declared.framing.Within.TheVariants as within
use Rattle.stream_connections.specs.declared.answers.Heard.{Heard}
use Rattle.stream_connections.specs.declared.answers.Heard.TheVariants.{Nothing, Done}
use Rattle.stream_connections.specs.declared.client_stream.ClientStream.{ClientStream}

-- A new client, on this stream, has sent nothing.
pub record IsNew {A : Type 0} (stream : Stream) (now : ℕ) (client : ClientStream A) : Type 0 where
  pub on : client.stream ≡ stream
  pub unsent : client.unsent ≡ record { left = []; taken = 0 }
  pub within : client.within ≡ within.Nothing
  pub unanswered : client.unanswered ≡ 0
  pub ended : client.ended ≡ false
  pub active : client.active ≡ now
  pub took : client.took ≡ now

-- The client after `messages` whole messages at this moment, in ms.
abbrev pub Hears : {A : Type 0} → (messages now : ℕ) → ClientStream A → ClientStream A → Type 0
Hears messages now before after =
    after ≡ record before {
      within = after.within;
      unanswered = min (before.unanswered + messages) (2 ^ 64 - 1);
      active = if messages == 0 then before.active else now;
    }

-- whether a client waits for nothing: no messages without a reply, and no octets left to take
abbrev pub is_idle : ℕ → List ℕ → Bool
is_idle unanswered unsent = (unanswered == 0) && (length unsent == 0)

-- whether a client sends nothing more and waits for nothing
abbrev pub is_done : {A : Type 0} → ClientStream A → Bool
is_done client = client.ended && is_idle client.unanswered client.unsent.left

-- the finding of a client that sends nothing now: done or not
abbrev pub silence_of : {A : Type 0} → ClientStream A → Heard
silence_of client = if is_done client then Done else Nothing

-- whether a client has been silent for too long (RFC 7766 6.2.3): for 10 s it took nothing of the
-- octets left; or, with none left, sent no whole message and got no reply for 10 s, and with
-- replies due for `deadline` ms more
abbrev pub is_late : (unanswered : ℕ) (unsent : List ℕ) (took active now deadline : ℕ) → Bool
is_late unanswered unsent took active now deadline =
    if length unsent == 0 then nat_le (10000 + (if unanswered == 0 then 0 else deadline)) (now - active)
    else nat_le 10000 (now - took)

-- whether a client has waited for nothing for a second: no reply is due, and no octets are left to
-- take
abbrev pub is_resting : (unanswered : ℕ) (unsent : List ℕ) (active now : ℕ) → Bool
is_resting unanswered unsent active now = is_idle unanswered unsent && nat_le 1000 (now - active)
