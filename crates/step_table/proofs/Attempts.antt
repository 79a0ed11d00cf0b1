-- Facts about the ask that comes next.
use Rattle.std.proofs.Common.{◌≡◌, ℕ, false, zero, suc, ◌<◌, List, [], ◌∷◌, length, refl, sym, ap, subst, arith, Option, Some, None}
use Rattle.std.specs.Prelude.{map, get_or, slice_get, slice_set}
use Rattle.std.specs.List.{AllByRecursion}
use Rattle.std.proofs.lemmas.Option.{slice_get_within, slice_get-get_or}
use Rattle.dns_message.specs.Values.{Question}
use Rattle.suffix_routes.specs.declared.peer.Peer.{Peer}
use Rattle.suffix_routes.specs.Values.{Config, Route, IsRoute}
use Rattle.suffix_routes.specs.Routes.{IsRouteOf, route_of}
use Rattle.suffix_routes.proofs.CallerLemmas.{route_found_is_longest, serving_is, serving_denies_nothing}
use Rattle.outstanding.specs.declared.ask.Path.{Path}
use Rattle.outstanding.specs.declared.ask.Path.TheVariants.{Udp, Tcp}
use Rattle.outstanding.specs.Values.{Ask}
use Rattle.suffix_routes.specs.Serving.{serving_route_of}
use Rattle.step_table.specs.Attempts.{group_of, servers_in, peer_at, over_udp, over_tcp, ask_by}
use Rattle.step_table.specs.Progress.{ArePreferred}

pub record IsAskBy (n : ℕ) (q : Question) (route server used : ℕ) (peer : Option Peer) (drawn : Option (ℕ × Path)) (a : Ask) : Type 0 where
  pub question : a.question ≡ q
  pub route_is : a.route ≡ route
  pub server_is : a.server ≡ server
  pub used_is : a.used ≡ used
  pub asked : a.asked ≡ n
  pub peer_is : peer ≡ Some a.peer
  pub drawn_is : drawn ≡ Some (a.id, a.path)

pub ask_by-some : (n : ℕ) (q : Question) (route server used : ℕ) (peer : Option Peer) (drawn : Option (ℕ × Path)) (a : Ask) → ask_by n q route server used peer drawn ≡ Some a → IsAskBy n q route server used peer drawn a
ask_by-some n q route server used None drawn a e = absurd (cc)
ask_by-some n q route server used (Some p) None a e = absurd (cc)
ask_by-some n q route server used (Some p) (Some d) a e =
    let is : record { question = q; route = route; server = server; peer = p; used = used; path = d.1; id = d.0; asked = n } ≡ a = cc in
    record {
      question = sym (ap (λ (x : Ask). x.question) is);
      route_is = sym (ap (λ (x : Ask). x.route) is);
      server_is = sym (ap (λ (x : Ask). x.server) is);
      used_is = sym (ap (λ (x : Ask). x.used) is);
      asked = sym (ap (λ (x : Ask). x.asked) is);
      peer_is = ap (λ (x : Ask). Some x.peer) is;
      drawn_is = ap (λ (x : Ask). Some (x.id, x.path)) is;
    }

-- where there is a server, there is no ask only if nothing was drawn
pub ask_by-none : (n : ℕ) (q : Question) (route server used : ℕ) (peer : Option Peer) (p : Peer) (drawn : Option (ℕ × Path)) → peer ≡ Some p → ask_by n q route server used peer drawn ≡ None → drawn ≡ None
ask_by-none n q route server used None p drawn there e = absurd (cc)
ask_by-none n q route server used (Some x) p None there e = refl
ask_by-none n q route server used (Some x) p (Some d) there e = absurd (cc)

pub udp-some : (r : Option (ℕ × ℕ)) (id : ℕ) (path : Path) → over_udp r ≡ Some (id, path) → (port : ℕ) × (path ≡ Udp port) × (r ≡ Some (id, port))
udp-some None id path e = absurd (cc)
udp-some (Some d) id path e =
    let is : (d.0, Udp d.1) ≡ (id, path) = cc in
    (d.1, sym (ap (λ (x : ℕ × Path). x.1) is), ap (λ (k : ℕ). Some (k, d.1)) (ap (λ (x : ℕ × Path). x.0) is))

pub udp-none : (r : Option (ℕ × ℕ)) → over_udp r ≡ None → r ≡ None
udp-none None e = refl
udp-none (Some d) e = absurd (cc)

pub tcp-some : (r : Option (ℕ × ℕ)) (id : ℕ) (path : Path) → over_tcp r ≡ Some (id, path) → (conn : ℕ) × (path ≡ Tcp conn) × (r ≡ Some (id, conn))
tcp-some None id path e = absurd (cc)
tcp-some (Some d) id path e =
    let is : (d.0, Tcp d.1) ≡ (id, path) = cc in
    (d.1, sym (ap (λ (x : ℕ × Path). x.1) is), ap (λ (k : ℕ). Some (k, d.1)) (ap (λ (x : ℕ × Path). x.0) is))

pub tcp-none : (r : Option (ℕ × ℕ)) → over_tcp r ≡ None → r ≡ None
tcp-none None e = refl
tcp-none (Some d) e = absurd (cc)

pub peer_within : (c : Config) (route server : ℕ) (p : Peer) → peer_at c route server ≡ Some p → server < length (servers_in (group_of c route))
peer_within c route server p there = slice_get_within (servers_in (group_of c route)) server p there

nobody : Peer
nobody = record { ip = []; port = 0 }

-- there is a server at each place of a group
pub peer_there : (c : Config) (route server : ℕ) → server < length (servers_in (group_of c route)) → (p : Peer) × (peer_at c route server ≡ Some p)
peer_there c route server less = (get_or (servers_in (group_of c route)) server nobody, slice_get-get_or (servers_in (group_of c route)) server nobody less)

-- at first the first one of each group
pub preferred_first : (routes : List Route) → AllByRecursion IsRoute routes → ArePreferred routes (map (λ r. 0) routes)
preferred_first [] all = tt
preferred_first (r ∷ routes) all = (λ serves. let some = (all.0.serves serves).0 in omega (arith, some), preferred_first routes all.1)

-- a preferred server of a route that serves is there
pub preferred_there : (routes : List Route) (places : List ℕ) (route : ℕ) → ArePreferred routes places → (r : Route) → slice_get routes route ≡ Some r → r.deny ≡ false → get_or places route 0 < length r.servers
preferred_there [] places route are r e serves = absurd (cc)
preferred_there (x ∷ routes) [] route are r e serves = absurd are
preferred_there (x ∷ routes) (p ∷ places) zero are r e serves = let is : x ≡ r = cc in subst (λ (y : Route). y.deny ≡ false → p < length y.servers) is are.0 serves
preferred_there (x ∷ routes) (p ∷ places) (suc route) are r e serves = preferred_there routes places route are.1 r e serves

-- another server of the group may be preferred
pub preferred_put : (routes : List Route) (places : List ℕ) (route server : ℕ) → ArePreferred routes places → ((r : Route) → slice_get routes route ≡ Some r → server < length r.servers) → ArePreferred routes (slice_set places route server)
preferred_put [] [] route server are within = are
preferred_put [] (p ∷ places) route server are within = absurd are
preferred_put (x ∷ routes) [] route server are within = absurd are
preferred_put (x ∷ routes) (p ∷ places) zero server are within = (λ serves. within x refl, are.1)
preferred_put (x ∷ routes) (p ∷ places) (suc route) server are within = (are.0, preferred_put routes places route server are.1 within)

-- the preferred server of a question's route
pub preferred_peer : (c : Config) (q : Question) (route : ℕ) (places : List ℕ) → serving_route_of c q.name ≡ Some route → ArePreferred c.routes places → (p : Peer) × (peer_at c route (get_or places route 0) ≡ Some p)
preferred_peer c q route places on are =
    let own = serving_is c.routes (route_of c.routes q.name) route on in
    let at : IsRouteOf c.routes q.name route = route_found_is_longest c.routes q.name route own.0 in
    let within = preferred_there c.routes places route are at.route at.there (serving_denies_nothing c.routes route at.route own.1 at.there) in
    peer_there c route (get_or places route 0) (subst (λ (o : Option Route). get_or places route 0 < length (servers_in o)) (sym at.there) within)
