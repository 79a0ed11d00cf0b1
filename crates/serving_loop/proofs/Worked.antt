-- Worked arrivals: their events, computed. Counts at their last values.
use Rattle.std.proofs.Common.{◌≡◌, ◌-◌, ◌^◌, refl, false, [], ◌∷◌, Some, None}
use Rattle.tcp_frames.specs.Frames.{frames_within, frames_of}
use Rattle.suffix_routes.specs.declared.peer.Peer.{Peer}
use Rattle.outstanding.specs.declared.ask.Path.TheVariants.{Udp, Tcp}
use Rattle.step_values.specs.Values.{path_failed, delivery, ask_udp, close_udp}
use Rattle.wires.specs.Wire.{client_stream, client_closed, server_stream, path_gone}
use Rattle.serving_loop.specs.Events.{client_message, events_of, failed_of}
use Rattle.serving_loop.specs.Serving.{capped}

server : Peer
server = record { ip = 192 ∷ 0 ∷ 2 ∷ 1 ∷ []; port = 53 }

-- a frame of three octets in two pieces, and two octets of the next
two_pieces : events_of (Some (client_stream 3 (0 ∷ 3 ∷ 97 ∷ [])) ∷ None ∷ []) (Some (client_stream 3 (98 ∷ 99 ∷ 0 ∷ 1 ∷ []))) ≡ client_message 3 (97 ∷ 98 ∷ 99 ∷ []) ∷ []
unfolding frames_of frames_within
two_pieces = refl

-- two frames at once, one of them empty
two_frames : events_of [] (Some (client_stream 3 (0 ∷ 0 ∷ 0 ∷ 1 ∷ 97 ∷ []))) ≡ client_message 3 [] ∷ client_message 3 (97 ∷ []) ∷ []
unfolding frames_of frames_within
two_frames = refl

-- the pieces of another connection, and of one that was closed, are not joined to it
others : events_of (Some (client_stream 4 (0 ∷ 3 ∷ 97 ∷ [])) ∷ Some (client_stream 3 (0 ∷ 2 ∷ 97 ∷ [])) ∷ Some (client_closed 3) ∷ []) (Some (client_stream 3 (0 ∷ 1 ∷ 98 ∷ []))) ≡ client_message 3 (98 ∷ []) ∷ []
unfolding frames_of frames_within
others = refl

-- a client and a server may have a connection of one number
both_sides : events_of (Some (client_stream 0 (0 ∷ 1 ∷ [])) ∷ []) (Some (server_stream 0 server (0 ∷ 1 ∷ 98 ∷ []))) ≡ delivery (Tcp 0) server (98 ∷ []) ∷ []
unfolding frames_of frames_within
both_sides = refl

-- half a frame of a connection to a server is not joined to what comes after its end
ended : events_of (Some (server_stream 0 server (0 ∷ 3 ∷ 97 ∷ [])) ∷ Some (path_gone (Tcp 0)) ∷ []) (Some (server_stream 0 server (0 ∷ 1 ∷ 98 ∷ []))) ≡ delivery (Tcp 0) server (98 ∷ []) ∷ []
unfolding frames_of frames_within
ended = refl

-- the end of another connection, or of the port with its number, takes nothing of it away
other_ended : events_of (Some (server_stream 0 server (0 ∷ 2 ∷ 97 ∷ [])) ∷ Some (path_gone (Tcp 1)) ∷ Some (path_gone (Udp 0)) ∷ []) (Some (server_stream 0 server (98 ∷ []))) ≡ delivery (Tcp 0) server (97 ∷ 98 ∷ []) ∷ []
unfolding frames_of frames_within
other_ended = refl

gone : events_of [] (Some (path_gone (Udp 1032))) ≡ path_failed (Udp 1032) ∷ []
gone = refl

-- a refused close is no failed path, a refused ask is one
refused : failed_of None (record { action = close_udp 1031; sent = false } ∷ record { action = ask_udp 1032 server []; sent = false } ∷ []) ≡ Some (Udp 1032)
refused = refl

-- a count goes on past 32 bits, and stays at its last value of 64
counts : (capped (2 ^ 32) ≡ 4294967296) × (capped (2 ^ 64 - 1) ≡ 18446744073709551615) × (capped (2 ^ 64) ≡ 18446744073709551615)
counts = (refl, refl, refl)
