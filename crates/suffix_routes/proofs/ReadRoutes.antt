-- A configuration read without a fault is well formed, and faults are passed on.
use Rattle.std.proofs.Common.{◌≡◌, ℕ, suc, ◌+◌, ◌<◌, Bool, true, false, ◌==◌, List, [], ◌∷◌, ◌++◌, length, get_or, Option, Some, None, Result, Ok, Err, refl, sym, ap, subst, arith, inl, inr}
use Rattle.std.specs.Prelude.{slice_get, position, codes}
use Rattle.std.proofs.lemmas.Bool.Decides.{nat_tests}
use Rattle.std.specs.List.{AllByRecursion, position_or_len}
use Rattle.std.proofs.lemmas.Bool.{cases_lt, lt-ltb, le-ltb}
use Rattle.std.proofs.lemmas.List.{length-append}
use Rattle.std.proofs.lemmas.List.Sums.{position_or_len_is}
use Rattle.std.proofs.lemmas.Option.{slice_get_within, get_or_from_slice_get, slice_get-get_or}
use Rattle.suffix_routes.specs.declared.place.Place.TheVariants as place
use Rattle.toml.specs.Data.{Data, Members, get_member}
use Rattle.dns_name.specs.Labels.{IsName, IsSame}
use Rattle.dns_name.specs.Text.{name_in}
use Rattle.dns_name.specs.declared.fault.NameFault.{NameFault}
use Rattle.dns_name.proofs.CallerLemmas.{name_in_text}
use Rattle.suffix_routes.specs.declared.version.Version.{Version}
use Rattle.suffix_routes.specs.declared.version.Version.TheVariants.{One}
use Rattle.suffix_routes.specs.declared.fault.ConfigFault.{ConfigFault}
use Rattle.suffix_routes.specs.declared.fault.ConfigFault.TheVariants as fault
use Rattle.suffix_routes.specs.declared.peer.Peer.{Peer}
use Rattle.suffix_routes.specs.Values.{Route, IsRoute, IsWithin, HasNoSuffix, AllDiffer}
use Rattle.suffix_routes.specs.Excerpts.{excerpt}
use Rattle.suffix_routes.specs.Routes.{route_at}
use Rattle.dns_name.proofs.PlainValues.CallerLemmas.{fault_fails, fault_before_next}
use Rattle.suffix_routes.specs.Reading.{◌>>=◌, wants_memory, Fails, required, text_in, array_in, table_in, known_keys, suffix_name, new_suffix, servers_after, counted_servers, servers_in, suffix_in, deny_of, deny_in, no_servers, group_in, route_in, routes_after, counted_routes, routes_in}
use Rattle.suffix_routes.proofs.RouteLaws.{no_own}
use Rattle.suffix_routes.proofs.VersionLaws.{deny_is_strange}

-- ---- a fault is passed on

pub fails_bind : {A B : Type 0} (e : ConfigFault) (r : Result A ConfigFault) (f : A → Result B ConfigFault) → Fails e r → Fails e (r >>= f)
fails_bind e r f fails = fault_before_next wants_memory e r f fails

pub fails_of : {A : Type 0} (e : ConfigFault) (r : Result A ConfigFault) → r ≡ Err e → Fails e r
fails_of e r is = fault_fails wants_memory e r is

-- ---- the result for a present value

pub record Bound {A B : Type 0} (r : Result A ConfigFault) (f : A → Result B ConfigFault) (y : B) : Type 0 where
  pub value : A
  pub there : r ≡ Ok value
  pub next : f value ≡ Ok y

pub bind_ok : {A B : Type 0} (r : Result A ConfigFault) (f : A → Result B ConfigFault) (y : B) → (r >>= f) ≡ Ok y → Bound r f y
bind_ok (Ok x) f y is = record { value = x; there = refl; next = is }
bind_ok {B = B} (Err e) f y is = absurd (let no : Err e ≡ Ok y = is in cc)

some : (n : ℕ) → (suc n == 0) ≡ false
some n = grind (arith, nat_tests)

-- ---- servers

servers_count : (route : ℕ) (earlier : List Peer) (ds : List Data) (servers : List Peer) → servers_after route earlier ds ≡ Ok servers → length servers ≡ length earlier + length ds
servers_count route earlier [] servers is = let one : earlier ≡ servers = cc in rw (← one) (omega arith)
servers_count route earlier (d ∷ ds) servers is =
    let b = bind_ok _ (λ peer. servers_after route (earlier ++ peer ∷ []) ds) servers is in
    omega (arith, servers_count route (earlier ++ b.value ∷ []) ds servers b.next, length-append earlier (b.value ∷ []))

counted : (route : ℕ) (ds : List Data) (servers : List Peer) → counted_servers route ds ≡ Ok servers → IsWithin 1 8 (length servers)
counted route [] servers is = absurd (let no : Err (fault.NoServers route) ≡ Ok servers = is in cc)
counted route (d ∷ ds) servers is =
    elim (cases_lt 8 (length (d ∷ ds))) [
      | inl lt ↦ absurd (let no : Err (fault.TooManyServers route (length (d ∷ ds))) ≡ Ok servers = rw (some (length ds), lt-ltb 8 (length (d ∷ ds)) lt) at is in cc)
      | inr le ↦
          let all : servers_after route [] (d ∷ ds) ≡ Ok servers = rw (some (length ds), le-ltb 8 (length (d ∷ ds)) le) at is in
          let count = servers_count route [] (d ∷ ds) servers all in
          (omega (arith, count), omega (arith, count, le))
    ]

pub servers_range : (route : ℕ) (ms : Members) (servers : List Peer) → servers_in route ms ≡ Ok servers → IsWithin 1 8 (length servers)
unfolding servers_in
servers_range route ms servers is =
    let value = bind_ok (required (place.Servers route) (codes "servers") ms) (λ d. array_in (place.Servers route) d >>= counted_servers route) servers is in
    let items = bind_ok (array_in (place.Servers route) value.value) (counted_servers route) servers value.next in
    counted route items.value servers items.next

-- a denying route has no servers
none_named : (route : ℕ) (named : Option Data) (servers : List Peer) → no_servers route named ≡ Ok servers → length servers ≡ 0
none_named route None servers is = let one : [] ≡ servers = cc in rw (← one) refl
none_named route (Some d) servers is = absurd (let no : Err (fault.DenyWithServers route) ≡ Ok servers = is in cc)

pub group_range : (deny : Bool) (route : ℕ) (ms : Members) (servers : List Peer) → group_in deny route ms ≡ Ok servers
    → (deny ≡ false → IsWithin 1 8 (length servers)) × (deny ≡ true → length servers ≡ 0)
unfolding group_in
group_range true route ms servers is = (λ no. absurd cc, λ _. none_named route (get_member (codes "servers") ms) servers is)
group_range false route ms servers is = (λ _. servers_range route ms servers is, λ no. absurd cc)

-- ---- suffixes

name_of : (place : ℕ) (text : List ℕ) (r : Result (List (List ℕ)) NameFault) (name : List (List ℕ)) → suffix_name place text r ≡ Ok name → r ≡ Ok name
name_of place text (Ok n) name is = let one : n ≡ name = cc in ap Ok one
name_of place text (Err e) name is = absurd (let no : Err (fault.BadName place (excerpt text) e) ≡ Ok name = is in cc)

new_is : (place : ℕ) (suffix name : List (List ℕ)) (first : Option ℕ) → new_suffix place suffix first ≡ Ok name → (suffix ≡ name) × (first ≡ None)
new_is place suffix name None is = (cc, refl)
new_is place suffix name (Some j) is = absurd (let no : Err (fault.TwiceSuffix place j) ≡ Ok name = is in cc)

pub record IsNewSuffix (earlier : List Route) (suffix : List (List ℕ)) : Type 0 where
  pub name : IsName suffix
  pub new : route_at earlier suffix ≡ None

pub suffix_is_new : (earlier : List Route) (ms : Members) (suffix : List (List ℕ)) → suffix_in earlier ms ≡ Ok suffix → IsNewSuffix earlier suffix
unfolding suffix_in
suffix_is_new earlier ms suffix is =
    let told : List ℕ → Result (List (List ℕ)) ConfigFault = λ text. suffix_name (length earlier) text (name_in text) >>= λ n. new_suffix (length earlier) n (route_at earlier n) in
    let value = bind_ok (required (place.Suffix (length earlier)) (codes "suffix") ms) (λ d. text_in (place.Suffix (length earlier)) d >>= told) suffix is in
    let text = bind_ok (text_in (place.Suffix (length earlier)) value.value) told suffix value.next in
    let name = bind_ok (suffix_name (length earlier) text.value (name_in text.value)) (λ n. new_suffix (length earlier) n (route_at earlier n)) suffix text.next in
    let parts = new_is (length earlier) name.value suffix (route_at earlier name.value) name.next in
    record {
      name = rw (← parts.0) (name_in_text text.value name.value (name_of (length earlier) text.value (name_in text.value) name.value name.there));
      new = rw (← parts.0) parts.1;
    }

-- ---- routes

pub record IsNewRoute (version : Version) (earlier : List Route) (r : Route) : Type 0 where
  pub route : IsRoute r
  pub new : route_at earlier r.suffix ≡ None
  pub serves : version ≡ One → r.deny ≡ false

-- in the first version no key makes a route deny
first_serves : (version : Version) (route : ℕ) (ms : Members) (known : Unit {0}) (deny : Bool) → known_keys version (place.Route route) ms ≡ Ok known → deny_in route ms ≡ Ok deny
    → version ≡ One → deny ≡ false
unfolding deny_in
first_serves version route ms known deny keys is first =
    let none : get_member (codes "deny") ms ≡ None = deny_is_strange route ms known (rw first at keys) in
    let one : Ok false ≡ Ok deny = rw none at is in
    cc

route_is_new : (version : Version) (earlier : List Route) (d : Data) (r : Route) → route_in version earlier d ≡ Ok r → IsNewRoute version earlier r
unfolding route_in
route_is_new version earlier d r is =
    let made : List (List ℕ) → Bool → List Peer → Result Route ConfigFault = λ suffix deny servers. Ok (record { suffix = suffix; deny = deny; servers = servers }) in
    let group : Members → List (List ℕ) → Bool → Result Route ConfigFault = λ ms suffix deny. group_in deny (length earlier) ms >>= made suffix deny in
    let behind : Members → List (List ℕ) → Result Route ConfigFault = λ ms suffix. deny_in (length earlier) ms >>= group ms suffix in
    let inner : Members → Result Route ConfigFault = λ ms. known_keys version (place.Route (length earlier)) ms >>= λ _. suffix_in earlier ms >>= behind ms in
    let table = bind_ok (table_in (place.Route (length earlier)) d) inner r is in
    let keys = bind_ok (known_keys version (place.Route (length earlier)) table.value) (λ _. suffix_in earlier table.value >>= behind table.value) r table.next in
    let suffix = bind_ok (suffix_in earlier table.value) (behind table.value) r keys.next in
    let deny = bind_ok (deny_in (length earlier) table.value) (group table.value suffix.value) r suffix.next in
    let servers = bind_ok (group_in deny.value (length earlier) table.value) (made suffix.value deny.value) r deny.next in
    let route : Route = record { suffix = suffix.value; deny = deny.value; servers = servers.value } in
    let whole : Ok route ≡ Ok r = servers.next in
    let one : route ≡ r = cc in
    let new = suffix_is_new earlier table.value suffix.value suffix.there in
    let range = group_range deny.value (length earlier) table.value servers.value servers.there in
    subst (IsNewRoute version earlier) {x = route} one (record {
      route = record { suffix = new.name; serves = range.0; denies = range.1 };
      new = new.new;
      serves = first_serves version (length earlier) table.value keys.value deny.value keys.there deny.there;
    })

each_push : (P : Route → Type 0) (routes : List Route) (r : Route) → AllByRecursion P routes → P r → AllByRecursion P (routes ++ r ∷ [])
each_push P [] r each one = (one, tt)
each_push P (x ∷ xs) r each one = (each.0, each_push P xs r each.1 one)

none_push : (suffix : List (List ℕ)) (routes : List Route) (r : Route) → HasNoSuffix suffix routes → (IsSame suffix r.suffix → ⊥) → HasNoSuffix suffix (routes ++ r ∷ [])
none_push suffix [] r none one = (one, tt)
none_push suffix (x ∷ xs) r none one = (none.0, none_push suffix xs r none.1 one)

differ_push : (routes : List Route) (r : Route) → AllDiffer routes → ((k : ℕ) (other : Route) → slice_get routes k ≡ Some other → IsSame r.suffix other.suffix → ⊥) → AllDiffer (routes ++ r ∷ [])
differ_push [] r differ new = (tt, tt)
differ_push (x ∷ xs) r differ new =
    (none_push x.suffix xs r differ.0 (λ same. new 0 x refl (sym same)), differ_push xs r differ.1 (λ k other there. new (suc k) other there))

pub record AreRoutes (version : Version) (routes : List Route) : Type 0 where
  pub each : AllByRecursion IsRoute routes
  pub differ : AllDiffer routes
  pub serve : version ≡ One → AllByRecursion (λ r. r.deny ≡ false) routes

routes_hold : (version : Version) (earlier : List Route) (ds : List Data) (routes : List Route) → routes_after version earlier ds ≡ Ok routes → AreRoutes version earlier
    → AreRoutes version routes × (length routes ≡ length earlier + length ds)
routes_hold version earlier [] routes is holds = let one : earlier ≡ routes = cc in rw (← one) (holds, omega arith)
routes_hold version earlier (d ∷ ds) routes is holds =
    let b = bind_ok (route_in version earlier d) (λ r. routes_after version (earlier ++ r ∷ []) ds) routes is in
    let new = route_is_new version earlier d b.value b.there in
    let more : AreRoutes version (earlier ++ b.value ∷ []) = record {
      each = each_push IsRoute earlier b.value holds.each new.route;
      differ = differ_push earlier b.value holds.differ (no_own earlier b.value.suffix new.new);
      serve = λ first. each_push (λ r. r.deny ≡ false) earlier b.value (holds.serve first) (new.serves first);
    } in
    let all = routes_hold version (earlier ++ b.value ∷ []) ds routes b.next more in
    (all.0, omega (arith, all.1, length-append earlier (b.value ∷ [])))

counted_hold : (version : Version) (ds : List Data) (routes : List Route) → counted_routes version ds ≡ Ok routes → AreRoutes version routes × IsWithin 1 64 (length routes)
counted_hold version [] routes is = absurd (let no : Err (fault.MissingKey place.Routes) ≡ Ok routes = is in cc)
counted_hold version (d ∷ ds) routes is =
    elim (cases_lt 64 (length (d ∷ ds))) [
      | inl lt ↦ absurd (let no : Err (fault.TooManyRoutes (length (d ∷ ds))) ≡ Ok routes = rw (some (length ds), lt-ltb 64 (length (d ∷ ds)) lt) at is in cc)
      | inr le ↦
          let all : routes_after version [] (d ∷ ds) ≡ Ok routes = rw (some (length ds), le-ltb 64 (length (d ∷ ds)) le) at is in
          let hold = routes_hold version [] (d ∷ ds) routes all (record { each = tt; differ = tt; serve = λ _. tt }) in
          (hold.0, (omega (arith, hold.1), omega (arith, hold.1, le)))
    ]

pub routes_accepted : (version : Version) (ms : Members) (routes : List Route) → routes_in version ms ≡ Ok routes → AreRoutes version routes × IsWithin 1 64 (length routes)
unfolding routes_in
routes_accepted version ms routes is =
    let value = bind_ok (required place.Routes (codes "route") ms) (λ d. array_in place.Routes d >>= counted_routes version) routes is in
    let items = bind_ok (array_in place.Routes value.value) (counted_routes version) routes value.next in
    counted_hold version items.value routes items.next

-- ---- the first place of a suffix

pub first_at : {X : Type 0} (p : X → Bool) (xs : List X) (i : ℕ) (x : X) → ((k : ℕ) (y : X) → k < i → slice_get xs k ≡ Some y → p y ≡ false) → slice_get xs i ≡ Some x → p x ≡ true → position p xs ≡ Some i
first_at p xs i x before there pass =
    let lt : i < length xs = slice_get_within xs i x there in
    let here : get_or xs i x ≡ x = get_or_from_slice_get xs i x x there in
    let place : position_or_len p xs ≡ i = position_or_len_is p xs i x (omega arith) (λ k below. before k (get_or xs k x) below (slice_get-get_or xs k x (omega arith))) (λ _. rw here pass) in
    rw place (rw (lt-ltb i (length xs) lt) refl)

pub none_first : {X : Type 0} (p : X → Bool) (xs : List X) → ((k : ℕ) (y : X) → slice_get xs k ≡ Some y → p y ≡ false) → position p xs ≡ None
none_first p [] none = refl
none_first p (x ∷ xs) none =
    let place : position_or_len p (x ∷ xs) ≡ length (x ∷ xs) = position_or_len_is p (x ∷ xs) (length (x ∷ xs)) x (omega arith) (λ k below. none k (get_or (x ∷ xs) k x) (slice_get-get_or (x ∷ xs) k x below)) (λ lt. absurd (omega (arith, lt))) in
    rw (place, le-ltb (length (x ∷ xs)) (length (x ∷ xs)) (omega arith)) refl

pub one_more : {X : Type 0} (p : X → Bool) (xs : List X) (i : ℕ) (x : X) → ((k : ℕ) (y : X) → k < i → slice_get xs k ≡ Some y → p y ≡ false) → slice_get xs i ≡ Some x → p x ≡ false
    → (k : ℕ) (y : X) → k < i + 1 → slice_get xs k ≡ Some y → p y ≡ false
one_more p xs i x before there fail k y below at =
    elim (cases_lt k i) [
      | inl lt ↦ before k y lt at
      | inr ge ↦
          let place : k ≡ i = omega arith in
          let both : slice_get xs i ≡ Some y = rw (← place) at in
          let one : x ≡ y = cc in
          rw (← one) fail
    ]
