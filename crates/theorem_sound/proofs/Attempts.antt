-- Facts about the next ask.
use Rattle.std.proofs.Common.{◌≡◌, ℕ, refl, Option, Some, None}
use Rattle.std.specs.Prelude.{slice_get}
use Rattle.dns_message.specs.Values.{Question}
use Rattle.suffix_routes.specs.declared.peer.Peer.{Peer}
use Rattle.suffix_routes.specs.Values.{Config, Route}
use Rattle.suffix_routes.specs.Serving.{serving_route_of}
use Rattle.step_history.proofs.CacheLaws.CallerLemmas.{serves_exactly}
use Rattle.step_history.specs.Asked.{IsServerFor}
use Rattle.step_table.specs.Attempts.{group_of, servers_in, peer_at}

-- ---- servers

pub group_there : (o : Option Route) (server : ℕ) (p : Peer) → slice_get (servers_in o) server ≡ Some p → (r : Route) × (o ≡ Some r) × (slice_get r.servers server ≡ Some p)
group_there None server p e = absurd (cc)
group_there (Some r) server p e = (r, refl, e)

-- a peer at a place of the route's group is a server for the question
pub serves : (c : Config) (q : Question) (route server : ℕ) (p : Peer) → serving_route_of c q.name ≡ Some route → peer_at c route server ≡ Some p → IsServerFor c q p
serves c q route server p on there =
    let at = group_there (group_of c route) server p there in
    record { route = route; group = at.0; place = server; route_is = serves_exactly.only c q.name route on; there = at.1; server = at.2 }
