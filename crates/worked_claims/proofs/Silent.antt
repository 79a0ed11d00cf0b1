-- If no server was heard, nothing was carried, no alias leads on, and nothing came to be given. A
-- piece carried before may serve at once.
use Rattle.std.proofs.Common.{◌≡◌, ℕ, ◌<◌, List, [], ◌∷◌, ◌++◌, false, None, refl, sym, ◌∙◌, subst, ◌⊎◌, inl, inr}
use Rattle.suffix_routes.specs.Values.{Config}
use Rattle.dns_message.specs.Values.{Question}
use Rattle.trust_rank.specs.Values.{Piece}
use Rattle.record_cache.specs.Values.{Held}
use Rattle.record_cache.specs.Ageing.{end_of}
use Rattle.record_cache.specs.Laws.{Among}
use Rattle.step_values.specs.Values.{delivery_in, Step}
use Rattle.cache_laws.specs.Serving.{IsServedBy}
use Rattle.step_history.specs.Given.{EndsHere, EndsAsking}
use Rattle.step_history.specs.History.{is_restart, Look, Accepts, NothingAccepted, moment_at}
use Rattle.step_history.specs.Carried.{CarriedInEra, NotReplaced, Justified}
use Rattle.step_history.specs.Answers.{FollowsAliases}
use Rattle.worked_claims.proofs.Texts.{no_delivery}

-- no server was heard in any of the steps
abbrev pub IsSilent : List Step → Type 0
IsSilent [] = Unit {0}
IsSilent (s ∷ past) = (delivery_in s.input.event ≡ None) × IsSilent past

pub nothing_heard : (c : Config) (s : Step) (past : List Step) → delivery_in s.input.event ≡ None
    → NothingAccepted c s past
nothing_heard c s past none ps carries = no_delivery (sym none ∙ carries.accepts.matches.delivered)

pub nothing_came : (c : Config) (s : Step) (past : List Step) → delivery_in s.input.event ≡ None
    → (pieces servers : List Piece) (a : Accepts c s past pieces servers) → EndsHere a.end → EndsAsking s past a.asked
nothing_came c s past none pieces servers a ends = absurd (no_delivery (sym none ∙ a.matches.delivered))

pub nothing_carried : (c : Config) (now : List Step) (os : List Held) → IsSilent now → CarriedInEra c now os → os ≡ []
nothing_carried c [] os silent h = h
nothing_carried c (s ∷ past) os silent (inl begun) = begun.1
nothing_carried c (s ∷ past) os silent (inr (inl quiet)) = nothing_carried c past os silent.1 quiet.2
nothing_carried c (s ∷ past) os silent (inr (inr more)) = absurd (nothing_heard c s past silent.0 more.1 more.3)

pub nothing_justified : (l : Look) (name : List (List ℕ)) (o : Held) → IsSilent l.now → Justified l name o → ⊥
nothing_justified l name o silent j =
    by j.new j.old (nothing_carried l.config l.now (j.new ++ j.old) silent j.carried_now) j.counts
  where
    by : (new old : List Held) → new ++ old ≡ []
        → (NotReplaced o old × (moment_at (l.asked ∷ l.before) < end_of o)) ⊎ Among o new → ⊥
    by [] old none (inl before) = subst (NotReplaced o) none before.0
    by [] old none (inr since) = since
    by (x ∷ new) old none h = absurd cc

pub nothing_followed : (l : Look) (q last : Question) (aliases : List Held) → IsSilent l.now
    → FollowsAliases l q aliases last → (aliases ≡ []) × (last ≡ q)
nothing_followed l q last [] silent h = (refl, h)
nothing_followed l q last (o ∷ os) silent h = absurd (nothing_justified l q.name o silent h.1)

-- in such a step a piece carried before may serve at once, if alive and not replaced
pub justified_at_once : (c : Config) (s : Step) (before : List Step) (os : List Held) (name : List (List ℕ)) (o : Held)
    → delivery_in s.input.event ≡ None → is_restart s ≡ false → CarriedInEra c before os
    → IsServedBy c name o.piece.route → NotReplaced o os → moment_at (s ∷ before) < end_of o
    → Justified (record { config = c; asked = s; before = before; now = s ∷ before }) name o
justified_at_once c s before os name o none runs carried on kept alive = record {
  old = os;
  new = [];
  carried_before = inr (inl (runs, nothing_heard c s before none, carried));
  carried_now = inr (inl (runs, nothing_heard c s before none, carried));
  on_route = on;
  counts = inl (kept, alive);
}
