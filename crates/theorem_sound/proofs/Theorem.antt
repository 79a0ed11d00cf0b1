-- The state stays explained by a row.
use Rattle.std.proofs.Common.{◌≡◌, ℕ, ◌^◌, List, [], ◌∷◌, Bool, refl, sym, subst, arith}
use Rattle.std.specs.Prelude.{min, max}
use Rattle.suffix_routes.specs.Values.{Config, IsConfig}
use Rattle.step_values.specs.Values.{Event, from_client, delivery, path_failed, tick, restart, StepInput, Outcome, Step}
use Rattle.step_table.specs.State.{State, start}
use Rattle.step_table.specs.Steps.{Done, initial}
use Rattle.step_table.specs.Row.{is_due_at, Happens, HandsOctets, Row}
use Rattle.theorem_sound.specs.Explains.{Explains}
use Rattle.step_table.proofs.CallerLemmas.{preferred_first}
use Rattle.theorem_sound.proofs.Cases.{step_of, restart_explained}
use Rattle.theorem_sound.proofs.Clients.{client_explained}
use Rattle.theorem_sound.proofs.Deliveries.{delivery_explained}
use Rattle.theorem_sound.proofs.Times.{path_explained, tick_explained}

module _ (c : Config) (past : List Step) (w : List (List ℕ)) (s : State) (x : Explains c past w s) (now : ℕ) (words : List ℕ) (unkept : ℕ) (more : Bool) where
  abbrev n : ℕ
  n = max (min now (2 ^ 62)) s.moment

  abbrev Explained : Event → Done → Type 0
  Explained e d = more ≡ is_due_at c d.state.moment d.state → (os : List ℕ) × Explains c (step_of (record { now = now; words = words; event = e }) d.actions unkept more ∷ past) (os ∷ w) d.state

  event_row : (e : Event) → HandsOctets e → (d : Done) → Happens (start c n words s) e d → Explained e d
  event_row (from_client client request) are d h = subst (Explained (from_client client request)) (sym h) (client_explained c past w s x now words unkept more client request are)
  event_row (delivery path from octets) are d h = subst (Explained (delivery path from octets)) (sym h.1) (delivery_explained c past w s x now words unkept more path from octets h.0 are)
  event_row (path_failed path) are d h = subst (Explained (path_failed path)) (sym h) (path_explained c past w s x now words unkept more path)
  event_row tick are d h = subst (Explained tick) (sym h) (tick_explained c past w s x now words unkept more)
  event_row restart are d h = subst (Explained restart) (sym h) (λ more_is. ([], restart_explained c past w s x (record { now = now; words = words; event = restart }) unkept more n (initial c) refl refl more_is))

-- an explained state stays explained
pub row_explained : (c : Config) (past : List Step) (w : List (List ℕ)) (s : State) (h : StepInput) (o : Outcome) (s' : State) → Explains c past w s → Row c s h o s'
    → (os : List ℕ) × Explains c (record { input = h; outcome = o } ∷ past) (os ∷ w) s'
row_explained c past w s h o s' x r = event_row c past w s x h.now h.words o.unkept o.more h.event r.octets (record { actions = o.actions; unkept = o.unkept; state = s' }) r.happens r.more

-- the empty history explains a new forwarder
pub start_explained : (c : Config) → IsConfig c → Explains c [] [] (initial c)
start_explained c config = record {
  config = config;
  sound = tt;
  asked_well = tt;
  tells = tt;
  moment = refl;
  tcp = refl;
  asks = refl;
  asks_are = record { few = omega arith; by_arrival = tt; in_time = tt };
  earlier = tt;
  tried = tt;
  connections = tt;
  preferred = preferred_first c.routes config.each;
  cache = record {
    carried = [];
    carried_is = refl;
    capacity = refl;
    held = record { some = config.limits.cache.0; few = omega arith; apart = tt; formed = tt };
    kept = tt;
    found = tt;
  };
  numbers_of = [];
  waiting = refl;
  numbers = refl;
  waits = tt;
  few = omega arith;
  owners = tt;
}
