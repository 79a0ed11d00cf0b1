-- Configurations, and the facts about accepted ones.
use Rattle.std.specs.Prelude.{◌≡◌, ℕ, Bool, true, false, ◌≤◌, List, [], ◌∷◌, length}
use Rattle.std.specs.List.{AllByRecursion}
use Rattle.dns_name.specs.Labels.{IsName, IsSame}
use Rattle.suffix_routes.specs.declared.peer.Peer.{Peer}
use Rattle.suffix_routes.specs.declared.limits.Limits.{Limits}

-- suffix, whether the route denies, and servers in the order of asking
pub record Route : Type 0 where
  pub suffix : List (List ℕ)
  pub deny : Bool
  pub servers : List Peer

-- a configuration
pub record Config : Type 0 where
  pub listen : Peer
  pub limits : Limits
  pub routes : List Route

-- from the lowest value to the highest, both counted
abbrev pub IsWithin : ℕ → ℕ → ℕ → Type 0
IsWithin low high n = (low ≤ n) × (n ≤ high)

-- each limit is in its range; times in milliseconds, `stale_s` in seconds
pub record AreLimits (limits : Limits) : Type 0 where
  pub questions : IsWithin 1 4096 limits.questions
  pub inquiries : IsWithin 1 1024 limits.inquiries
  pub cache : IsWithin 1 65536 limits.cache
  pub tries : IsWithin 1 16 limits.tries
  pub ask_ms : IsWithin 100 10000 limits.ask_ms
  pub deadline_ms : IsWithin 500 30000 limits.deadline_ms
  pub stale_s : IsWithin 0 86400 limits.stale_s

-- the limits of a configuration without a table `limits`
abbrev pub default_limits : Limits
default_limits = record {
  questions = 1024;
  inquiries = 256;
  cache = 4096;
  tries = 4;
  ask_ms = 1500;
  deadline_ms = 8000;
  stale_s = 0;
}

-- the suffix is a name, with 1 to 8 servers, or none if the route denies
pub record IsRoute (route : Route) : Type 0 where
  pub suffix : IsName route.suffix
  pub serves : route.deny ≡ false → IsWithin 1 8 (length route.servers)
  pub denies : route.deny ≡ true → length route.servers ≡ 0

-- no suffix of the routes is this name
abbrev pub HasNoSuffix : List (List ℕ) → List Route → Type 0
HasNoSuffix suffix routes = AllByRecursion (λ r. IsSame suffix r.suffix → ⊥) routes

-- no two suffixes are equal names
abbrev pub AllDiffer : List Route → Type 0
AllDiffer [] = Unit {0}
AllDiffer (r ∷ rs) = HasNoSuffix r.suffix rs × AllDiffer rs

-- accepted: limits in range, 1 to 64 well-formed routes, different suffixes
pub record IsConfig (config : Config) : Type 0 where
  pub limits : AreLimits config.limits
  pub count : IsWithin 1 64 (length config.routes)
  pub each : AllByRecursion IsRoute config.routes
  pub differ : AllDiffer config.routes

-- no window for stale answers, and no denying route
pub record HasNeither (config : Config) : Type 0 where
  pub window : config.limits.stale_s ≡ 0
  pub routes : AllByRecursion (λ r. r.deny ≡ false) config.routes
