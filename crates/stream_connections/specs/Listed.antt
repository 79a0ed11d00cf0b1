-- The open connections of clients, by their numbers.
use Rattle.std.specs.Prelude.{◌≡◌, ℕ, Bool, false, List, [], ◌∷◌, Option, None, Some, Result, if◌then◌else◌, slice_get}
use Rattle.std.specs.Option.{option_map}
use Rattle.std.specs.Ordering.{nat_cmp}
use Rattle.std.specs.declared.ops.Bound.TheVariants.{Included, Unbounded}
use Rattle.std.specs.Map.{lookup, set_value}
use Rattle.std.specs.BTreeMap.{insert_entry, is_at}
use Rattle.std.specs.BTreeMap.Range.{entries_between}
use Rattle.system_calls.specs.Call.{Call}
use Rattle.system_calls.specs.declared.sockets.Stream.{Stream}
use Rattle.stream_connections.specs.declared.client_stream.ClientStream.{ClientStream}
use Rattle.stream_connections.specs.declared.answers.Heard.{Heard}
use Rattle.stream_connections.specs.declared.lost.Lost.{Lost}
use Rattle.stream_connections.specs.Serving.{Replies, Serves}
use Rattle.stream_connections.specs.Waiting.{IsNew, is_idle, is_late, is_resting}

-- The open connection with this number changes so, and no other connection changes.
pub record ChangesAt {X : Type 0} (conn : ℕ) (Changes : X → X → Type 0) (before after : List (ℕ × X)) : Type 0 where
  pub connection : X
  pub changed : X
  pub is_open : lookup (is_at (nat_cmp conn)) before ≡ Some connection
  pub changes : Changes connection changed
  pub listed : after ≡ set_value (is_at (nat_cmp conn)) before changed

-- The connection with this number isn't open, and nothing has changed.
pub record IsNotOpen {X : Type 0} (conn : ℕ) (before after : List (ℕ × X)) : Type 0 where
  pub is_not_open : lookup (is_at (nat_cmp conn)) before ≡ None
  pub same : after ≡ before

-- Serving the connection with this number, by these calls; by none if not open.
abbrev pub ServesOn : {A : Type 0} → (conn : ℕ) → Option Heard → (now : ℕ) (buffer : List ℕ)
    → (calls calls' : List Call) → (before after : List (ℕ × ClientStream A)) → Type 0
ServesOn conn (Some heard) now buffer calls calls' before after =
    ChangesAt conn (Serves heard now buffer calls calls') before after
ServesOn conn None now buffer calls calls' before after = IsNotOpen conn before after × (calls' ≡ calls)

-- Replying on the connection with this number, by these calls; by none if not open.
abbrev pub RepliesOn : {A : Type 0} → (conn : ℕ) (reply : List ℕ) (now : ℕ) → Option (Result Bool Lost)
    → (calls calls' : List Call) → (before after : List (ℕ × ClientStream A)) → Type 0
RepliesOn conn reply now (Some answer) calls calls' before after =
    ChangesAt conn (Replies reply now answer calls calls') before after
RepliesOn conn reply now None calls calls' before after = IsNotOpen conn before after × (calls' ≡ calls)

-- An admitted connection is listed under its number, as a new client's on this stream; the rest
-- stays.
pub record Admits {A : Type 0} (conn : ℕ) (stream : Stream) (now : ℕ)
    (before after : List (ℕ × ClientStream A)) : Type 0 where
  pub client : ClientStream A
  pub is_new : IsNew stream now client
  pub listed : after ≡ insert_entry nat_cmp before conn client

-- the number of the first client that waits for nothing
abbrev pub first_idle : {A : Type 0} → List (ℕ × ClientStream A) → Option ℕ
first_idle [] = None
first_idle (entry ∷ later) = if is_idle entry.1.unanswered entry.1.unsent.left then Some entry.0 else first_idle later

-- the number of the first client that has waited for nothing for a while
abbrev pub first_resting : {A : Type 0} → (now : ℕ) → List (ℕ × ClientStream A) → Option ℕ
first_resting now [] = None
first_resting now (entry ∷ later) =
    if is_resting entry.1.unanswered entry.1.unsent.left entry.1.active now then Some entry.0
    else first_resting now later

-- the first number from this one on
abbrev pub first_number : {X : Type 0} → (from : ℕ) → List (ℕ × X) → Option ℕ
first_number from entries =
    option_map (λ entry. entry.0) (slice_get (entries_between nat_cmp (Included from) Unbounded entries) 0)

-- whether a client, if found, has been silent for too long
abbrev pub is_late_if : {A : Type 0} → (now deadline : ℕ) → Option (ClientStream A) → Bool
is_late_if now deadline (Some client) =
    is_late client.unanswered client.unsent.left client.took client.active now deadline
is_late_if now deadline None = false

-- whether the client with this number is open and has been silent for too long
abbrev pub is_late_on : {A : Type 0} → (conn now deadline : ℕ) → List (ℕ × ClientStream A) → Bool
is_late_on conn now deadline clients = is_late_if now deadline (lookup (is_at (nat_cmp conn)) clients)
