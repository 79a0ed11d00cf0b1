-- The tries of an inquiry are the last asks of the era for its question.
use Rattle.std.proofs.Common.{◌≡◌, ◌⊎◌, ℕ, zero, suc, List, [], ◌∷◌, false, refl, sym, ap, ◌∙◌, subst, inl, inr}
use Rattle.dns_message.specs.Values.{Question}
use Rattle.outstanding.specs.declared.ask.Path.{Path}
use Rattle.suffix_routes.specs.Values.{Config}
use Rattle.suffix_routes.specs.declared.peer.Peer.{Peer}
use Rattle.step_values.specs.Values.{Event, from_client, delivery, path_failed, tick, restart, Step}
use Rattle.step_history.specs.History.{is_restart, is_restart_event, ShownAsk, Delivers, NothingAccepted}
use Rattle.step_history.specs.Causes.{ClosesAsk, LastFailed, ClosesNow, SendsAsk, MayFail, FailsAsk, BeginsToAsk}
use Rattle.step_history.specs.Causes.{LeavesAsks, FailedSoFar, TriesFailed}
use Rattle.step_history.specs.Laws.{TriesAreTheLastOfTheEra}

-- a delivery is no restart
brought : (e : Event) (path : Path) (from : Peer) (octets : List ℕ) → Delivers e path from octets
    → is_restart_event e ≡ false
brought (from_client client request) path from octets d = refl
brought (delivery p f o) path from octets d = refl
brought (path_failed p) path from octets d = refl
brought tick path from octets d = refl
brought restart path from octets d = absurd cc

-- nor is any other step in which an ask may fail
no_restart : (c : Config) (s : Step) (past : List Step) (ask : ShownAsk) (asked : Question)
    → MayFail c s past ask asked → is_restart s ≡ false
no_restart c s past ask asked (inl matched) =
    brought s.input.event ask.path ask.server matched.0 matched.1.delivered
no_restart c s past ask asked (inr (inl broken)) = ap is_restart_event broken
no_restart c s past ask asked (inr (inr over)) = ap is_restart_event over.0

pub failed_so_far_last : (c : Config) (q : Question) (past : List Step) (n : ℕ) → FailedSoFar c q past n
    → LastFailed c q past n
failed_so_far_last c q [] n h = absurd h
failed_so_far_last c q (s ∷ past) zero h = tt
failed_so_far_last c q (s ∷ past) (suc k) h = (h.0, by (failed_so_far_last c q past) h.1)
  where
    by : ((n : ℕ) → FailedSoFar c q past n → LastFailed c q past n)
        → (FailsAsk c q s past × SendsAsk q s.outcome.actions × FailedSoFar c q past k)
        ⊎ (LeavesAsks q s past × FailedSoFar c q past (suc k))
        → (ClosesAsk q s past × NothingAccepted c s past × LastFailed c q past k)
        ⊎ ((ClosesAsk q s past → ⊥) × LastFailed c q past (suc k))
    by rest (inl failed) = inl (failed.0.closes, failed.0.quiet, rest k failed.2)
    by rest (inr left) = inr (left.0.0, rest (suc k) left.1)

pub tries_failed_last : (c : Config) (q : Question) (now : List Step) (n : ℕ) → TriesFailed c q now n
    → LastFailed c q now n × ClosesNow q now
tries_failed_last c q [] n h = absurd h
tries_failed_last c q (s ∷ past) zero h = absurd h
tries_failed_last c q (s ∷ past) (suc k) h = (
  (
    no_restart c s past h.0.closes.ask h.0.closes.asked h.0.why,
    inl (h.0.closes, h.0.quiet, failed_so_far_last c q past k h.1),
  ),
  h.0.closes,
)

pub tries_are_last : TriesAreTheLastOfTheEra
tries_are_last l octets h = tries_failed_last l.config h.last l.now l.config.limits.tries h.failed
