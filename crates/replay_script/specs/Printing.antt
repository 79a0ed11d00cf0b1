-- The printed lines of a replay, and a writer's part of a text.
use Rattle.std.specs.Prelude.{◌≡◌, ℕ, ◌+◌, List, [], ◌∷◌, ◌++◌, codes, Option, Result, Ok, Err}
use Rattle.std.specs.List.{flat_map}
use Rattle.std.specs.Fmt.{decimal}
use Rattle.std.specs.Io.KnownBytes.{Appends}
use Rattle.hex.specs.Hex.{encode_lower}
use Rattle.suffix_routes.specs.Peers.{peer_text}
use Rattle.step_values.specs.declared.action.Why.{Why}
use Rattle.step_values.specs.declared.event.Client.{Client}
use Rattle.step_values.specs.declared.event.Client.TheVariants.{Udp, Tcp}
use Rattle.step_values.specs.Values.{Action, ask_udp, ask_tcp, close_udp, close_tcp, send_reply, Step}
use Rattle.replay_script.specs.Configs.{IsOfStream}
use Rattle.replay_script.specs.declared.fault.ReplayFault.{ReplayFault}
use Rattle.replay_script.specs.Reasons.{number_of}

-- fields, each after a space, and a line feed
abbrev pub ended_fields : List (List ℕ) → List ℕ
ended_fields [] = 10 ∷ []
ended_fields (field ∷ more) = 32 ∷ (field ++ ended_fields more)

-- the number of an event line, and fields
abbrev pub numbered : ℕ → List (List ℕ) → List ℕ
numbered number more = decimal number ++ ended_fields more

abbrev pub printed_reply : ℕ → Client → List ℕ → Why → List ℕ
printed_reply number (Udp peer) octets why =
    numbered number (codes "reply" ∷ codes "udp" ∷ peer_text peer ∷ decimal (number_of why) ∷ encode_lower octets ∷ [])
printed_reply number (Tcp conn) octets why =
    numbered number (codes "reply" ∷ codes "tcp" ∷ decimal conn ∷ decimal (number_of why) ∷ encode_lower octets ∷ [])

-- the line of an action of the event line with this number: numbers in decimal digits, octets in
-- hexadecimal digits
abbrev pub printed : ℕ → Action → List ℕ
printed number (ask_udp port server octets) =
    numbered number (codes "ask-udp" ∷ decimal port ∷ peer_text server ∷ encode_lower octets ∷ [])
printed number (ask_tcp conn server octets) =
    numbered number (codes "ask-tcp" ∷ decimal conn ∷ peer_text server ∷ encode_lower octets ∷ [])
printed number (close_udp port) = numbered number (codes "close-udp" ∷ decimal port ∷ [])
printed number (close_tcp conn) = numbered number (codes "close-tcp" ∷ decimal conn ∷ [])
printed number (send_reply client octets why) = printed_reply number client octets why

-- the lines of a step's actions, in order
abbrev pub printed_all : ℕ → List Action → List ℕ
printed_all number actions = flat_map (printed number) actions

-- the lines of steps, the first from the event line with this number
abbrev pub printed_steps : ℕ → List Step → List ℕ
printed_steps number [] = []
printed_steps number (t ∷ steps) = printed_all number t.outcome.actions ++ printed_steps (number + 1) steps

-- the whole begins with the written text
abbrev pub Begins : List ℕ → List ℕ → Type 0
Begins written whole = (left : List ℕ) × (whole ≡ written ++ left)

-- A text was written whole; or a beginning, if memory ran out or the writer failed.
abbrev pub Writes : Option (List ℕ) → List ℕ → Result (Unit {0}) ReplayFault → Option (List ℕ) → Type 0
Writes held text (Ok done) held' = Appends held held' text
Writes held text (Err fault) held' =
    IsOfStream fault × ((written : List ℕ) × Begins written text × Appends held held' written)
