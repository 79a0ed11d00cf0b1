-- The keys of a configuration, its limits, and the numbers of its faults.
use Rattle.std.specs.Prelude.{ℕ, Bool, false, List, [], ◌∷◌, codes, nat_eq}
use Rattle.std.specs.List.{list_any}
use Rattle.std.specs.Cmp.Lexicographic.{pointwise}
use Rattle.suffix_routes.specs.declared.version.Version.{Version}
use Rattle.suffix_routes.specs.declared.version.Version.TheVariants.{One, Two}
use Rattle.suffix_routes.specs.declared.place.Limit.{Limit}
use Rattle.suffix_routes.specs.declared.place.Limit.TheVariants.{Questions, Inquiries, Cache, Tries, AskMs, DeadlineMs}
use Rattle.suffix_routes.specs.declared.place.Limit.TheVariants.{StaleS}
use Rattle.suffix_routes.specs.declared.place.Place.{Place}
use Rattle.suffix_routes.specs.declared.place.Place.TheVariants.{Document, Limits, Route}
use Rattle.suffix_routes.specs.declared.fault.ConfigFault.{ConfigFault}
use Rattle.suffix_routes.specs.declared.fault.ConfigFault.TheVariants as fault

-- ---- the table of limits

-- the key of a limit in the table `limits`
abbrev pub limit_key : Limit → List ℕ
limit_key Questions = codes "questions"
limit_key Inquiries = codes "inquiries"
limit_key Cache = codes "cache"
limit_key Tries = codes "tries"
limit_key AskMs = codes "ask_ms"
limit_key DeadlineMs = codes "deadline_ms"
limit_key StaleS = codes "stale_s"

-- the value of a limit without a key
abbrev pub default_of : Limit → ℕ
default_of Questions = 1024
default_of Inquiries = 256
default_of Cache = 4096
default_of Tries = 4
default_of AskMs = 1500
default_of DeadlineMs = 8000
default_of StaleS = 0

-- the least allowed value of a limit
abbrev pub lowest : Limit → ℕ
lowest Questions = 1
lowest Inquiries = 1
lowest Cache = 1
lowest Tries = 1
lowest AskMs = 100
lowest DeadlineMs = 500
lowest StaleS = 0

-- the greatest allowed value of a limit
abbrev pub highest : Limit → ℕ
highest Questions = 4096
highest Inquiries = 1024
highest Cache = 65536
highest Tries = 16
highest AskMs = 10000
highest DeadlineMs = 30000
highest StaleS = 86400

-- ---- the keys of each table: version 2 has one more of a limit, and one more of a route

-- the keys of a configuration
abbrev pub document_keys : List (List ℕ)
document_keys = codes "version" ∷ codes "listen" ∷ codes "limits" ∷ codes "route" ∷ []

-- the keys of `limits` in version 1
abbrev pub first_limit_keys : List (List ℕ)
first_limit_keys = limit_key Questions ∷ limit_key Inquiries ∷ limit_key Cache ∷ limit_key Tries ∷ limit_key AskMs
    ∷ limit_key DeadlineMs ∷ []

-- the keys of `limits` in a version
abbrev pub limit_keys : Version → List (List ℕ)
limit_keys One = first_limit_keys
limit_keys Two = limit_key StaleS ∷ first_limit_keys

-- the keys of a route in version 1
abbrev pub first_route_keys : List (List ℕ)
first_route_keys = codes "suffix" ∷ codes "servers" ∷ []

-- the keys of a route in a version
abbrev pub route_keys : Version → List (List ℕ)
route_keys One = first_route_keys
route_keys Two = codes "deny" ∷ first_route_keys

-- the list has this key
abbrev pub is_among : List (List ℕ) → List ℕ → Bool
is_among keys key = list_any (λ k. pointwise nat_eq key k) keys

-- a table at this place may have the key in this version
abbrev pub knows : Version → Place → List ℕ → Bool
knows version Document key = is_among document_keys key
knows version Limits key = is_among (limit_keys version) key
knows version (Route place) key = is_among (route_keys version) key
knows version _ key = false

-- ---- the numbers of faults, for programs

-- the number of a fault, as printed by `replay`
abbrev pub number_of : ConfigFault → ℕ
number_of (fault.Toml at) = 1
number_of (fault.Version value) = 2
number_of (fault.MissingKey place) = 3
number_of (fault.WrongKind place kind) = 4
number_of (fault.BadName route text why) = 5
number_of (fault.BadPeer place text) = 6
number_of (fault.Range limit value) = 7
number_of (fault.TooManyServers route count) = 7
number_of (fault.TwiceSuffix route earlier) = 8
number_of (fault.TooManyRoutes count) = 9
number_of (fault.NoServers route) = 10
number_of (fault.UnknownKey version place key) = 11
number_of fault.Memory = 12
number_of (fault.DenyWithServers route) = 13
