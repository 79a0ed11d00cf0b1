-- Statements about look-ups.
use Rattle.std.specs.Prelude.{◌≡◌, ℕ, List, ◌⊎◌}
use Rattle.dns_message.specs.Values.{Question}
use Rattle.dns_message.specs.Messages.{IsSameQuestion}
use Rattle.trust_rank.specs.SuffixRoutes.Values.{Route}
use Rattle.negative_cache.specs.RecordCache.Values.{Held}
use Rattle.alias_chains.specs.LookingUp.{LookUp, look_up}

-- two look-ups that began with these aliases take the same ones, end alike and use the same; they
-- want the same question, spelled alike after an alias that they took
pub record AreAlike (held : List Held) (l other : LookUp) : Type 0 where
  pub held_alike : l.held ≡ other.held
  pub met_alike : l.met ≡ other.met
  pub used_alike : l.used ≡ other.used
  pub wanted_same : IsSameQuestion l.wanted other.wanted
  pub wanted_alike : (l.held ≡ held) ⊎ (l.wanted ≡ other.wanted)

-- Questions that differ by letter case alone are looked up alike.
abbrev pub SameAreLookedUpAlike : Type 0
SameAreLookedUpAlike = (routes : List Route) (n : ℕ) (entries : List Held) (more : ℕ) (held : List Held)
    (q other : Question) → IsSameQuestion q other
    → AreAlike held (look_up routes n entries more held q) (look_up routes n entries more held other)
