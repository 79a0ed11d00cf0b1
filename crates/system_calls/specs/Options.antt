-- Options of sockets.
use Rattle.std.specs.Prelude.{◌≡◌, ℕ, ℤ, List, [], ◌∷◌, ◌++◌}
use Rattle.system_calls.specs.Call.{Call, set_receive_buffer}
use Rattle.system_calls.specs.declared.sockets.DatagramSocket.{DatagramSocket}

-- The option for the receive buffer is set once to this value, whatever the status.
abbrev pub SetsReceiveBuffer : DatagramSocket → (value : List ℕ) → (before after : List Call) → Type 0
SetsReceiveBuffer socket value before after =
    (status : ℤ) × (after ≡ before ++ set_receive_buffer socket value status ∷ [])
