-- Writes to streams and reads of streams, each by one call.
use Rattle.std.specs.Prelude.{◌≡◌, ℕ, List, [], ◌∷◌, ◌++◌, Result, Ok, Err}
use Rattle.std.specs.declared.io.Error.{Error}
use Rattle.system_calls.specs.Call.{Call, read, write}
use Rattle.system_calls.specs.declared.sockets.Stream.{Stream}
use Rattle.tcp_frames.specs.Unsent.{Keeping, sent}
use Rattle.stream_connections.specs.Answers.{heard_by, taken_by}
use Rattle.stream_connections.specs.declared.answers.Heard.{Heard}
use Rattle.stream_connections.specs.declared.answers.Heard.TheVariants.{Failed}

-- the octets left after a write with this answer
abbrev pub left_by : Result ℕ Error → Keeping → Keeping
left_by (Ok count) before = sent count before
left_by (Err error) before = before

-- These octets are written by one call; as many are left out as its answer says.
abbrev pub Writes : Stream → (octets : List ℕ) → Keeping → (taken : Result ℕ Error) → Keeping
    → (before after : List Call) → Type 0
Writes stream octets unsent taken unsent' before after =
    (answer : Result ℕ Error) × (after ≡ before ++ write stream octets answer ∷ [])
    × (taken ≡ taken_by answer) × (unsent' ≡ left_by answer unsent)

-- The octets left, if any, are written by one call. Without any, none is made.
abbrev pub OffersLeft : Stream → (left : List ℕ) → Keeping → (taken : Result ℕ Error) → Keeping
    → (before after : List Call) → Type 0
OffersLeft stream [] unsent taken unsent' before after =
    (taken ≡ Ok 0) × (unsent' ≡ unsent) × (after ≡ before)
OffersLeft stream (first ∷ later) unsent taken unsent' before after =
    Writes stream (first ∷ later) unsent taken unsent' before after

abbrev pub Offers : Stream → Keeping → (taken : Result ℕ Error) → Keeping
    → (before after : List Call) → Type 0
Offers stream unsent taken unsent' before after =
    OffersLeft stream unsent.left unsent taken unsent' before after

-- The stream is read into the buffer by one call, with this answer.
abbrev pub ReadsBy : Stream → (buffer : List ℕ) → Result ℕ Error → (before after : List Call) → Type 0
ReadsBy stream buffer answer before after = after ≡ before ++ read stream buffer answer ∷ []

-- The finding of a read after a write with this result: after a failed one, none is made.
abbrev pub HearsAfter : {T : Type 0} → (written : Result T Error) → Stream → (buffer : List ℕ) → Heard
    → (before after : List Call) → Type 0
HearsAfter (Ok _) stream buffer heard before after =
    (answer : Result ℕ Error) × ReadsBy stream buffer answer before after × (heard ≡ heard_by answer)
HearsAfter (Err error) stream buffer heard before after = (heard ≡ Failed) × (after ≡ before)
