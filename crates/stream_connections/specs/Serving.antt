-- The effect of a call on the connection of a client.
use Rattle.std.specs.declared.io.Error.{Error}
use Rattle.std.specs.Prelude.{◌≡◌, ℕ, zero, suc, ◌+◌, ◌-◌, ◌^◌, ◌<◌, ◌≤◌, ◌==◌, ◌++◌}
use Rattle.std.specs.Prelude.{Bool, true, false, not, List, length}
use Rattle.std.specs.Prelude.{take, Result, Ok, Err, if◌then◌else◌}
use Rattle.system_calls.specs.Call.{Call}
use Rattle.tcp_frames.specs.declared.fault.FrameFault.{FrameFault}
use Rattle.tcp_frames.specs.declared.fault.FrameFault.TheVariants as fault
use Rattle.tcp_frames.specs.Frames.{framed, frames_of, unfinished_of}
use Rattle.tcp_frames.specs.Counting.{Stands}
use Rattle.tcp_frames.specs.Unsent.{Keeping, pushed}
use Rattle.stream_connections.specs.declared.client_stream.ClientStream.{ClientStream}
use Rattle.stream_connections.specs.declared.answers.Heard.{Heard}
use Rattle.stream_connections.specs.declared.answers.Heard.TheVariants.{Octets, Nothing, Done, Failed}
use Rattle.stream_connections.specs.declared.lost.Lost.{Lost}
use Rattle.stream_connections.specs.declared.lost.Lost.TheVariants.{Memory, TooLong, TooMuch, Gone}
use Rattle.stream_connections.specs.Answers.{heard_by}
use Rattle.stream_connections.specs.Queries.{IsWithin}
use Rattle.stream_connections.specs.Streams.{Offers, ReadsBy}
use Rattle.stream_connections.specs.Waiting.{Hears, is_done, silence_of}

-- The effect of a write by the number of taken octets: some are progress, none changes nothing.
abbrev pub WroteBy : {A : Type 0} → Result ℕ Error → (now : ℕ) → Result (Unit {0}) Error
    → (before after : ClientStream A) → Type 0
WroteBy (Ok zero) now result before after = (result ≡ Ok tt) × (after ≡ before)
WroteBy (Ok (suc more)) now result before after = (result ≡ Ok tt) × (after ≡ record before { took = now })
WroteBy (Err error) now result before after = (result ≡ Err error) × (after ≡ before)

-- Sending: the octets left are offered once, if any. Taken ones are progress.
pub record Sends {A : Type 0} (now : ℕ) (result : Result (Unit {0}) Error) (calls calls' : List Call)
    (before after : ClientStream A) : Type 0 where
  pub taken : Result ℕ Error
  pub unsent : Keeping
  pub offers : Offers before.stream before.unsent taken unsent calls calls'
  pub wrote : WroteBy taken now result (record before { unsent = unsent }) after

-- A piece of the client's stream arrives at this moment: the messages that end in the piece have no
-- reply yet.
pub record HearsPiece {A : Type 0} (piece : List ℕ) (now : ℕ) (before after : ClientStream A) : Type 0 where
  pub stands : (rest : List ℕ) → Stands before.within rest → Stands after.within (unfinished_of (rest ++ piece))
  pub hears : (rest : List ℕ) → Stands before.within rest → Hears (length (frames_of (rest ++ piece))) now before after

-- The effect of a read with this result: a piece at the beginning of the buffer, or the client's
-- end. Otherwise nothing has changed.
abbrev pub HearsBy : {A : Type 0} → Heard → (now : ℕ) (buffer : List ℕ) → (result : Heard)
    → (before after : ClientStream A) → Type 0
HearsBy (Octets count) now buffer result before after =
    (result ≡ Octets count) × HearsPiece (take count buffer) now before after
HearsBy Nothing now buffer result before after = (result ≡ Nothing) × (after ≡ before)
HearsBy Done now buffer result before after = (result ≡ silence_of after) × (after ≡ record before { ended = true })
HearsBy Failed now buffer result before after = (result ≡ Failed) × (after ≡ before)

-- A read that is made, since the client's stream has not ended.
pub record Reads {A : Type 0} (heard : Heard) (now : ℕ) (buffer : List ℕ) (calls calls' : List Call)
    (before after : ClientStream A) : Type 0 where
  pub answer : Result ℕ Error
  pub reads : ReadsBy before.stream buffer answer calls calls'
  pub hears : HearsBy (heard_by answer) now buffer heard before after

-- Reading into the buffer, unless the client's stream is at its end.
abbrev pub ReadsUnless : {A : Type 0} → (ended : Bool) → Heard → (now : ℕ) (buffer : List ℕ)
    → (calls calls' : List Call) → (before after : ClientStream A) → Type 0
ReadsUnless true heard now buffer calls calls' before after =
    (heard ≡ silence_of before) × (after ≡ before) × (calls' ≡ calls)
ReadsUnless false heard now buffer calls calls' before after = Reads heard now buffer calls calls' before after

-- Reading into the buffer, unless the client's stream is at its end.
pub record Receives {A : Type 0} (heard : Heard) (now : ℕ) (buffer : List ℕ) (calls calls' : List Call)
    (before after : ClientStream A) : Type 0 where
  pub reads : ReadsUnless before.ended heard now buffer calls calls' before after
  pub within : IsWithin heard buffer

-- Reading after a send with this result: after a failed one, none is made.
abbrev pub ReceivesAfter : {A : Type 0} → (sent : Result (Unit {0}) Error) → Heard → (now : ℕ) (buffer : List ℕ)
    → (calls calls' : List Call) → (before after : ClientStream A) → Type 0
ReceivesAfter (Ok _) heard now buffer calls calls' before after =
    Receives heard now buffer calls calls' before after
ReceivesAfter (Err error) heard now buffer calls calls' before after =
    (heard ≡ Failed) × (after ≡ before) × (calls' ≡ calls)

-- Sending the octets left, and then reading into the buffer.
pub record Serves {A : Type 0} (heard : Heard) (now : ℕ) (buffer : List ℕ) (calls calls' : List Call)
    (before after : ClientStream A) : Type 0 where
  pub sent : Result (Unit {0}) Error
  pub written : List Call
  pub between : ClientStream A
  pub sends : Sends now sent calls written before between
  pub receives : ReceivesAfter sent heard now buffer written calls' between after

-- with the frame of a reply appended to the octets left
abbrev pub with_frame : {A : Type 0} → (frame : List ℕ) (now : ℕ) → ClientStream A → ClientStream A
with_frame frame now before = record before {
  unsent = pushed frame before.unsent;
  unanswered = before.unanswered - 1;
  active = now;
  took = if length before.unsent.left == 0 then now else before.took;
}

-- whether the connection is to be closed after a reply was lost for this reason
abbrev pub is_over : Lost → Bool
is_over Memory = false
is_over TooLong = false
is_over TooMuch = true
is_over Gone = true

-- why a reply without a frame is lost
abbrev pub lost_by : FrameFault → Lost
lost_by fault.Memory = Memory
lost_by fault.TooLong = TooLong

-- The result of a reply: its frame is appended to the octets left, and then the client takes as
-- many as the stream takes. True if the connection goes on. A lost reply changes nothing, unless
-- the stream takes nothing any more.
abbrev pub Answers : {A : Type 0} → (reply : List ℕ) (now : ℕ) → Result Bool Lost → (calls calls' : List Call)
    → ClientStream A → ClientStream A → Type 0
Answers reply now (Ok goes_on) calls calls' before after =
    Sends now (Ok tt) calls calls' (with_frame (framed reply) now before) after
    × (goes_on ≡ not (is_done after)) × (length after.unsent.left ≤ 2 ^ 20)
Answers reply now (Err Memory) calls calls' before after = (after ≡ before) × (calls' ≡ calls)
Answers reply now (Err TooLong) calls calls' before after =
    (after ≡ before) × (calls' ≡ calls) × (65535 < length reply)
Answers reply now (Err TooMuch) calls calls' before after =
    (after ≡ before) × (calls' ≡ calls) × (2 ^ 20 < length before.unsent.left + length reply + 2)
Answers reply now (Err Gone) calls calls' before after =
    (error : Error) × Sends now (Err error) calls calls' (with_frame (framed reply) now before) after

-- Replying: never more than 2 ^ 20 octets are left, and one reply more closes the connection.
pub record Replies {A : Type 0} (reply : List ℕ) (now : ℕ) (answer : Result Bool Lost) (calls calls' : List Call)
    (before after : ClientStream A) : Type 0 where
  pub answers : Answers reply now answer calls calls' before after
  pub much : 2 ^ 20 < length before.unsent.left + length reply + 2 → answer ≡ Err TooMuch
