-- Event lines, read as moments and events.
use Rattle.std.specs.Prelude.{◌≡◌, ℕ, ◌^◌, Bool, true, false, ◌==◌, ◌&&◌, nat_lt, nat_le, if◌then◌else◌, List, []}
use Rattle.std.specs.Prelude.{length, codes, Option, Some, None, Result, Ok, Err}
use Rattle.std.specs.List.{list_all, position_or_len, before_first, after_first}
use Rattle.std.specs.Char.{is_ascii_digit}
use Rattle.std.specs.Str.{bytes_eq, is_utf8}
use Rattle.plain_values.specs.FirstFault as reading
use Rattle.plain_values.specs.FirstFault.{◌>>=◌}
use Rattle.hex.specs.Hex.{decode_of}
use Rattle.hex.specs.declared.error.FromHexError.{FromHexError}
use Rattle.suffix_routes.specs.declared.peer.Peer.{Peer}
use Rattle.suffix_routes.specs.Peers.{decimal_value, peer_of}
use Rattle.outstanding.specs.declared.ask.Path.{Path}
use Rattle.outstanding.specs.declared.ask.Path.TheVariants as path
use Rattle.step_values.specs.declared.event.Client.{Client}
use Rattle.step_values.specs.declared.event.Client.TheVariants as client
use Rattle.step_values.specs.Values.{Event, from_client, delivery, path_failed, tick, restart}
use Rattle.replay_script.specs.declared.events.Refusal.{Refusal}
use Rattle.replay_script.specs.declared.events.Refusal.TheVariants.{Form, Memory}
use Rattle.replay_script.specs.declared.fault.ReplayFault.{ReplayFault}
use Rattle.replay_script.specs.declared.fault.ReplayFault.TheVariants.{Line, Memory as OutOfMemory}

-- the line was refused since memory ran out
abbrev pub wants_memory : Refusal → Bool
wants_memory Memory = true
wants_memory Form = false

-- The result of a call, seen by view, is the answer, unless memory ran out.
abbrev pub Gives : {X Y : Type 0} → (X → Y) → Result X Refusal → Result Y Refusal → Type 0
Gives view given answer = reading.Gives wants_memory view given answer

-- The result of a call, seen by view, is the answer; such a call does not allocate.
abbrev pub Shows : {X Y : Type 0} → (X → Y) → Result X Refusal → Result Y Refusal → Type 0
Shows view (Ok x) answer = answer ≡ Ok (view x)
Shows view (Err refusal) answer = answer ≡ Err refusal

-- a form, or the refusal of a line of none of the forms
abbrev pub formed : {X : Type 0} → Option X → Result X Refusal
formed (Some x) = Ok x
formed None = Err Form

-- the value read, if the line has one of the forms
abbrev pub read_of : {X : Type 0} → Result X Refusal → Option X
read_of (Ok x) = Some x
read_of (Err refusal) = None

-- ---- fields

-- the octet is a space
abbrev pub is_space : ℕ → Bool
is_space octet = octet == 32

-- the first field, and the text after the space
unfoldable pub cut : List ℕ → Result (List ℕ × List ℕ) Refusal
cut text = if nat_lt (position_or_len is_space text) (length text)
    then Ok (before_first is_space text, after_first is_space text) else Err Form

-- 1 to `most` digits, and nothing else
abbrev pub is_numeral : ℕ → List ℕ → Bool
is_numeral most text = nat_lt 0 (length text) && (nat_le (length text) most && list_all is_ascii_digit text)

-- a decimal number of 1 to `most` digits and at most 64 bits
unfoldable pub number_in : ℕ → List ℕ → Result ℕ Refusal
number_in most text = if is_numeral most text then (if nat_lt (decimal_value text) (2 ^ 64) then Ok (decimal_value text)
    else Err Form) else Err Form

-- a number of at most 16 bits
abbrev pub port_from : ℕ → Result ℕ Refusal
port_from n = if nat_lt n (2 ^ 16) then Ok n else Err Form

-- a port of at most 5 digits
unfoldable pub port_in : List ℕ → Result ℕ Refusal
port_in text = number_in 5 text >>= port_from

-- an address and a port
unfoldable pub peer_in : List ℕ → Result Peer Refusal
peer_in text = formed (peer_of text)

-- octets in hexadecimal digits, or the refusal Form
abbrev pub decoded : Result (List ℕ) FromHexError → Result (List ℕ) Refusal
decoded (Ok octets) = Ok octets
decoded (Err fault) = Err Form

-- hexadecimal digits of either case, or `-` for none; not the empty text
unfoldable pub octets_in : List ℕ → Result (List ℕ) Refusal
octets_in text = if bytes_eq text (codes "") then Err Form else (if bytes_eq text (codes "-") then Ok []
    else decoded (decode_of text))

-- ---- events

-- by UDP or over TCP, else none of the forms
abbrev pub by_transport : {X : Type 0} → List ℕ → Result X Refusal → Result X Refusal → Result X Refusal
by_transport transport udp tcp = if bytes_eq transport (codes "udp") then udp
    else (if bytes_eq transport (codes "tcp") then tcp else Err Form)

-- the path to a server: a port, or the number of a connection
unfoldable pub path_in : List ℕ → List ℕ → Result Path Refusal
path_in transport at = by_transport transport (port_in at >>= λ port. Ok (path.Udp port)) (number_in 20 at
    >>= λ number. Ok (path.Tcp number))

-- who asks: a peer, or the number of a connection
unfoldable pub client_in : List ℕ → List ℕ → Result Client Refusal
client_in transport from = by_transport transport (peer_in from >>= λ peer. Ok (client.Udp peer)) (number_in 20 from
    >>= λ number. Ok (client.Tcp number))

-- a transport, who asks, octets
unfoldable pub client_event_in : List ℕ → Result Event Refusal
client_event_in text =
    cut text >>= λ first.
    cut first.1 >>= λ second.
    client_in first.0 second.0 >>= λ who.
    octets_in second.1 >>= λ octets.
    Ok (from_client who octets)

-- a transport, a path, a peer, octets
unfoldable pub reply_event_in : List ℕ → Result Event Refusal
reply_event_in text =
    cut text >>= λ first.
    cut first.1 >>= λ second.
    cut second.1 >>= λ third.
    path_in first.0 second.0 >>= λ on.
    peer_in third.0 >>= λ peer.
    octets_in third.1 >>= λ octets.
    Ok (delivery on peer octets)

-- a transport, a path
unfoldable pub failed_event_in : List ℕ → Result Event Refusal
failed_event_in text =
    cut text >>= λ first.
    path_in first.0 first.1 >>= λ on.
    Ok (path_failed on)

-- an event with more than a kind
abbrev pub event_of_kind : List ℕ → List ℕ → Result Event Refusal
event_of_kind kind rest =
    if bytes_eq kind (codes "client") then client_event_in rest
    else (if bytes_eq kind (codes "reply") then reply_event_in rest
    else (if bytes_eq kind (codes "failed") then failed_event_in rest else Err Form))

-- the event of a line after its moment
unfoldable pub event_in : List ℕ → Result Event Refusal
event_in text = cut text >>= λ first. event_of_kind first.0 first.1

-- the event of a line: a kind alone, or a kind with more
unfoldable pub happening_in : List ℕ → Result Event Refusal
happening_in text = if bytes_eq text (codes "tick") then Ok tick
    else (if bytes_eq text (codes "restart") then Ok restart else event_in text)

-- a moment in milliseconds, and an event
unfoldable pub moment_and_event_in : List ℕ → Result (ℕ × Event) Refusal
moment_and_event_in text =
    cut text >>= λ first.
    number_in 20 first.0 >>= λ moment.
    happening_in first.1 >>= λ event.
    Ok (moment, event)

-- a line is UTF-8
unfoldable pub line_in : List ℕ → Result (ℕ × Event) Refusal
line_in line = if is_utf8 line then moment_and_event_in line else Err Form

-- why the event line of this number hands nothing over
abbrev pub IsLineFault : ℕ → List ℕ → ReplayFault → Type 0
IsLineFault number line (Line refused) = (refused ≡ number) × (line_in line ≡ Err Form)
IsLineFault number line OutOfMemory = Unit {0}
IsLineFault number line other = ⊥
