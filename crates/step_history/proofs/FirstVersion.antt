-- The claims without a window and without denying routes: version 2 adds nothing.
use Rattle.std.proofs.Common.{◌≡◌, ℕ, ◌≤◌, List, false, sym, ◌∙◌, inl, inr, arith}
use Rattle.std.proofs.lemmas.Bool.{false≢true}
use Rattle.suffix_routes.proofs.RouteLaws.{all_hold}
use Rattle.step_values.specs.declared.event.Client.{Client}
use Rattle.step_values.specs.declared.event.Client.TheVariants.{Udp, Tcp}
use Rattle.step_values.specs.declared.action.Why.TheVariants.{TooLarge}
use Rattle.suffix_routes.specs.Values.{Route, HasNeither}
use Rattle.suffix_routes.specs.Routes.{IsRouteOf}
use Rattle.cache_laws.specs.Serving.{IsDenied}
use Rattle.step_history.specs.History.{Look}
use Rattle.step_history.specs.Causes.{Cause, AnswerIsTooLarge}
use Rattle.step_history.specs.Laws.{FirstVersionStandsAlone}

module _ (l : Look) (neither : HasNeither l.config) where
  no_window : 1 ≤ l.config.limits.stale_s → ⊥
  no_window some = let none = neither.window in omega (arith, some, none)

  serves : (name : List (List ℕ)) (place : ℕ) (of_name : IsRouteOf l.config.routes name place)
      → of_name.route.deny ≡ false
  serves name place of_name =
      all_hold (λ (r : Route). r.deny ≡ false) l.config.routes place of_name.route neither.routes of_name.there

  none_local : (name : List (List ℕ)) → IsDenied l.config name → ⊥
  none_local name is = false≢true (sym (serves name is.place is.longest) ∙ is.denies)

  only_living : (client : Client) (request : List ℕ) (waiting : ℕ) → Cause l client request waiting TooLarge → AnswerIsTooLarge l request
  only_living (Udp peer) request waiting cause = absurd cause
  only_living (Tcp conn) request waiting (inl living) = living
  only_living (Tcp conn) request waiting (inr (inl past)) = absurd (no_window past.window)
  only_living (Tcp conn) request waiting (inr (inr told)) = absurd (none_local told.chain.last.name told.chain.denied)

pub first_version_stands_alone : FirstVersionStandsAlone
first_version_stands_alone l client request octets waiting neither = record {
  stale = λ right. no_window l neither right.window;
  local = λ right. none_local l neither right.answers.chain.last.name right.answers.chain.denied;
  large = only_living l neither client request waiting;
  routed = λ name place of_name. record { longest = of_name; serves = serves l neither name place of_name };
}
