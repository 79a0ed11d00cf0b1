-- The system calls of a wire over sockets, each with its arguments and its answer.
use Rattle.mio.specs.declared.interest.Interest.{Interest}
use Rattle.mio.specs.declared.token.Token.{Token}
use Rattle.std.specs.Prelude.{ℕ, ℤ, List, Option, Result}
use Rattle.std.specs.declared.io.Error.{Error}
use Rattle.std.specs.declared.net.socket_addr.SocketAddr.{SocketAddr}
use Rattle.std.specs.declared.time.Duration.{Duration}
use Rattle.std.specs.declared.time.Instant.{Instant}
use Rattle.system_calls.specs.declared.sockets.DatagramSocket.{DatagramSocket}
use Rattle.system_calls.specs.declared.sockets.Listener.{Listener}
use Rattle.system_calls.specs.declared.sockets.Reports.{Reports}
use Rattle.system_calls.specs.declared.sockets.Stream.{Stream}

pub data Call : Type 0 where
  -- random octets (getrandom), and the clock at its start and now (clock_gettime)
  fill_random : (octets : List ℕ) → Result (Unit {0}) Error → Call
  start_clock : Result Instant Error → Call
  read_clock : Instant → Result Duration Error → Call
  -- a socket for datagrams: made and bound at an address (socket, bind); with an option for its
  -- receive buffer (setsockopt); connected to an address (connect); sending octets to an address
  -- (sendto) or to that of its connection (send); receiving octets, which are then at the front of
  -- the buffer, from an address (recvfrom)
  bind : SocketAddr → Result DatagramSocket Error → Call
  set_receive_buffer : DatagramSocket → (value : List ℕ) → ℤ → Call
  connect : DatagramSocket → SocketAddr → Result (Unit {0}) Error → Call
  send_to : DatagramSocket → (octets : List ℕ) → SocketAddr → Result ℕ Error → Call
  send : DatagramSocket → (octets : List ℕ) → Result ℕ Error → Call
  receive : DatagramSocket → (buffer : List ℕ) → Result (ℕ × SocketAddr) Error → Call
  -- a listener bound at an address (socket, bind, listen), and its next connection with the
  -- client's address (accept)
  listen : SocketAddr → Result Listener Error → Call
  accept : Listener → Result (Stream × SocketAddr) Error → Call
  -- a connection: begun to an address (socket, connect); without delay of small segments
  -- (setsockopt); reading octets, which are then at the front of the buffer (recv); writing octets
  -- (send)
  begin : SocketAddr → Result Stream Error → Call
  set_no_delay : Stream → Result (Unit {0}) Error → Call
  read : Stream → (buffer : List ℕ) → Result ℕ Error → Call
  write : Stream → (octets : List ℕ) → Result ℕ Error → Call
  -- the system's reports of sockets that may be ready (epoll_create), for each watched socket under
  -- its token (epoll_ctl), and the wait for them, for a time at most (epoll_wait)
  make_reports : Result Reports Error → Call
  watch_datagrams : DatagramSocket → Token → Interest → Result (Unit {0}) Error → Call
  watch_listener : Listener → Token → Interest → Result (Unit {0}) Error → Call
  watch_stream : Stream → Token → Interest → Result (Unit {0}) Error → Call
  wait : Option Duration → Result (Unit {0}) Error → Call
