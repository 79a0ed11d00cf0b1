-- Tokens of sockets: the kind in the lowest three bits, above them the number or the port.
use Rattle.std.specs.Prelude.{ℕ, ◌+◌, ◌*◌, ◌%◌, ◌^◌, ◌<◌, Bool, true, false}
use Rattle.ready_sockets.specs.declared.origin.Origin.{Origin}
use Rattle.ready_sockets.specs.declared.origin.Origin.TheVariants.{Datagrams, Connections, Client}
use Rattle.ready_sockets.specs.declared.origin.Origin.TheVariants.{Ask, Server}

-- the token of a socket
abbrev pub token_of : Origin → ℕ
token_of Datagrams = 0
token_of Connections = 1
token_of (Client conn) = conn % 2 ^ 61 * 8 + 2
token_of (Ask port) = port * 8 + 3
token_of (Server conn) = conn % 2 ^ 61 * 8 + 4

-- The socket has a token of its own: each port, and the number of a connection below 2^61.
abbrev pub HasToken : Origin → Type 0
HasToken Datagrams = Unit {0}
HasToken Connections = Unit {0}
HasToken (Client conn) = conn < 2 ^ 61
HasToken (Ask port) = port < 2 ^ 16
HasToken (Server conn) = conn < 2 ^ 61

-- whether the system reports when the socket can be written, too: the streams are written in parts
abbrev pub is_written : Origin → Bool
is_written Datagrams = false
is_written Connections = false
is_written (Client conn) = true
is_written (Ask port) = false
is_written (Server conn) = true
