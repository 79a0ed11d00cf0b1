-- Configurations of the first version.
use Rattle.std.proofs.Common.{◌≡◌, ℕ, false, List, Option, Some, None, Result, Ok, Err, refl, ap, sym, subst, ◌∙◌}
use Rattle.std.specs.Prelude.{codes}
use Rattle.std.specs.List.{AllByRecursion}
use Rattle.toml.specs.Data.{Data, Members, get_member}
use Rattle.toml.specs.Parse.{parse_document}
use Rattle.suffix_routes.specs.declared.version.Version.{Version}
use Rattle.suffix_routes.specs.declared.version.Version.TheVariants.{One}
use Rattle.suffix_routes.specs.declared.place.Limit.TheVariants as limit
use Rattle.suffix_routes.specs.declared.place.Place.TheVariants as place
use Rattle.suffix_routes.specs.declared.fault.ConfigFault.{ConfigFault}
use Rattle.suffix_routes.specs.declared.peer.Peer.{Peer}
use Rattle.suffix_routes.specs.declared.limits.Limits.{Limits}
use Rattle.suffix_routes.specs.Values.{Route, Config, HasNeither, default_limits}
use Rattle.suffix_routes.specs.Reading.{◌>>=◌, HasVersion, IsAnswerFor, table_in, known_keys, version_in, listen_in, limit_in, all_limits_in, limits_of, limits_in, routes_in, config_in}
use Rattle.suffix_routes.specs.Laws.{FirstVersionHasNeither}
use Rattle.suffix_routes.proofs.VersionLaws.{stale_s_is_strange}
use Rattle.suffix_routes.proofs.ReadRoutes.{bind_ok, routes_accepted}

-- ---- the limits

-- a limit without a key has its default
no_window : (ms : Members) (n : ℕ) → get_member (codes "stale_s") ms ≡ None → limit_in limit.StaleS ms ≡ Ok n → n ≡ 0
unfolding limit_in
no_window ms n none is = let one : Ok 0 ≡ Ok n = rw none at is in cc

all_limits_window : (ms : Members) (limits : Limits) → all_limits_in One ms ≡ Ok limits → limits.stale_s ≡ 0
unfolding all_limits_in
all_limits_window ms limits is =
    let seven : ℕ → ℕ → ℕ → ℕ → ℕ → ℕ → ℕ → Result Limits ConfigFault = λ q i c t a d s. Ok (record { questions = q; inquiries = i; cache = c; tries = t; ask_ms = a; deadline_ms = d; stale_s = s }) in
    let six : ℕ → ℕ → ℕ → ℕ → ℕ → ℕ → Result Limits ConfigFault = λ q i c t a d. limit_in limit.StaleS ms >>= seven q i c t a d in
    let five : ℕ → ℕ → ℕ → ℕ → ℕ → Result Limits ConfigFault = λ q i c t a. limit_in limit.DeadlineMs ms >>= six q i c t a in
    let four : ℕ → ℕ → ℕ → ℕ → Result Limits ConfigFault = λ q i c t. limit_in limit.AskMs ms >>= five q i c t in
    let three : ℕ → ℕ → ℕ → Result Limits ConfigFault = λ q i c. limit_in limit.Tries ms >>= four q i c in
    let two : ℕ → ℕ → Result Limits ConfigFault = λ q i. limit_in limit.Cache ms >>= three q i in
    let one : ℕ → Result Limits ConfigFault = λ q. limit_in limit.Inquiries ms >>= two q in
    let keys = bind_ok (known_keys One place.Limits ms) (λ _. limit_in limit.Questions ms >>= one) limits is in
    let q = bind_ok (limit_in limit.Questions ms) one limits keys.next in
    let i = bind_ok (limit_in limit.Inquiries ms) (two q.value) limits q.next in
    let c = bind_ok (limit_in limit.Cache ms) (three q.value i.value) limits i.next in
    let t = bind_ok (limit_in limit.Tries ms) (four q.value i.value c.value) limits c.next in
    let a = bind_ok (limit_in limit.AskMs ms) (five q.value i.value c.value t.value) limits t.next in
    let d = bind_ok (limit_in limit.DeadlineMs ms) (six q.value i.value c.value t.value a.value) limits a.next in
    let s = bind_ok (limit_in limit.StaleS ms) (seven q.value i.value c.value t.value a.value d.value) limits d.next in
    let none : s.value ≡ 0 = no_window ms s.value (stale_s_is_strange ms keys.value keys.there) s.there in
    let made : Limits = record { questions = q.value; inquiries = i.value; cache = c.value; tries = t.value; ask_ms = a.value; deadline_ms = d.value; stale_s = s.value } in
    let whole : Ok made ≡ Ok limits = s.next in
    let same : made ≡ limits = cc in
    sym (ap (λ (l : Limits). l.stale_s) {x = made} same) ∙ none

limits_window : (stands : Option Data) (limits : Limits) → limits_of One stands ≡ Ok limits → limits.stale_s ≡ 0
limits_window None limits is = let same : default_limits ≡ limits = cc in sym (ap (λ (l : Limits). l.stale_s) same)
limits_window (Some d) limits is = let table = bind_ok (table_in place.Limits d) (all_limits_in One) limits is in all_limits_window table.value limits table.next

-- ---- the whole

has_neither : (ms : Members) (config : Config) → version_in ms ≡ Ok One → config_in ms ≡ Ok config → HasNeither config
unfolding config_in limits_in
has_neither ms config first is =
    let three : Peer → Limits → List Route → Result Config ConfigFault = λ listen limits routes. Ok (record { listen = listen; limits = limits; routes = routes }) in
    let two : Version → Peer → Limits → Result Config ConfigFault = λ version listen limits. routes_in version ms >>= three listen limits in
    let one : Version → Peer → Result Config ConfigFault = λ version listen. limits_in version ms >>= two version listen in
    let none : Version → Result Config ConfigFault = λ version. known_keys version place.Document ms >>= λ _. listen_in ms >>= one version in
    let all : none One ≡ Ok config = rw first at is in
    let keys = bind_ok (known_keys One place.Document ms) (λ _. listen_in ms >>= one One) config all in
    let listen = bind_ok (listen_in ms) (one One) config keys.next in
    let limits = bind_ok (limits_in One ms) (two One listen.value) config listen.next in
    let routes = bind_ok (routes_in One ms) (three listen.value limits.value) config limits.next in
    let made : Config = record { listen = listen.value; limits = limits.value; routes = routes.value } in
    let whole : Ok made ≡ Ok config = routes.next in
    let same : made ≡ config = cc in
    let window : limits.value.stale_s ≡ 0 = limits_window (get_member (codes "limits") ms) limits.value limits.there in
    let serve : AllByRecursion (λ (r : Route). r.deny ≡ false) routes.value = (routes_accepted One ms routes.value routes.there).0.serve refl in
    subst HasNeither {x = made} same (record { window = window; routes = serve })

has_neither_told : (text : List ℕ) (read : Option Members) (config : Config) → HasVersion One read → IsAnswerFor text read (Ok config) → HasNeither config
has_neither_told text None config first told = absurd first
has_neither_told text (Some ms) config first told = has_neither ms config first told

pub first_version : FirstVersionHasNeither
first_version text config first told = has_neither_told text (parse_document text) config first told
