-- The pieces in an era's replies, and the pieces that still count.
use Rattle.std.specs.Prelude.{◌≡◌, ℕ, ◌+◌, ◌*◌, ◌<◌, true, false, List, [], ◌∷◌, ◌++◌, ◌⊎◌}
use Rattle.suffix_routes.specs.Values.{Config}
use Rattle.trust_rank.specs.Values.{Piece}
use Rattle.record_cache.specs.Values.{Held}
use Rattle.record_cache.specs.Laws.{Among}
use Rattle.cache_laws.specs.Replacing.{Replaces}
use Rattle.cache_laws.specs.Serving.{IsServedBy}
use Rattle.step_values.specs.Values.{Step}
use Rattle.step_history.specs.History.{is_restart, moment_at, Look, Carries, NothingAccepted}

-- pieces from the moment t, put before the older pieces, the newest first
abbrev pub then_carried : ℕ → List Piece → List Held → List Held
then_carried t [] os = os
then_carried t (p ∷ ps) os = then_carried t ps (record { piece = p; accepted = t } ∷ os)

-- the pieces carried in this era, the newest first
abbrev pub CarriedInEra : Config → List Step → List Held → Type 0
CarriedInEra c [] os = os ≡ []
CarriedInEra c (s ∷ past) os =
    ((is_restart s ≡ true) × (os ≡ []))
    ⊎ ((is_restart s ≡ false) × NothingAccepted c s past × CarriedInEra c past os)
    ⊎ ((is_restart s ≡ false) × (ps : List Piece) × (before : List Held)
    × Carries c s past ps × CarriedInEra c past before × (os ≡ then_carried (moment_at (s ∷ past)) ps before))

-- o was carried, and nothing carried since takes its place, whatever its lifetime (RFC 2181 5.4,
-- RFC 8020 2)
abbrev pub NotReplaced : Held → List Held → Type 0
NotReplaced o [] = ⊥
NotReplaced o (x ∷ os) = (x ≡ o) ⊎ ((Replaces x.piece o.piece → ⊥) × NotReplaced o os)

-- o may serve this name: one reply on the name's route carried o whole. It was alive (RFC 1035
-- 3.2.1) and not replaced when the client asked, or came while the client waited.
pub record Justified (l : Look) (name : List (List ℕ)) (o : Held) : Type 0 where
  pub old : List Held
  pub new : List Held
  pub carried_before : CarriedInEra l.config (l.asked ∷ l.before) old
  pub carried_now : CarriedInEra l.config l.now (new ++ old)
  pub on_route : IsServedBy l.config name o.piece.route
  pub counts : (NotReplaced o old × (moment_at (l.asked ∷ l.before) < o.accepted + 1000 * o.piece.lifetime))
      ⊎ Among o new
