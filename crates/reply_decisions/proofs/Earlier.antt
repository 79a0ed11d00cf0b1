-- The aliases of a question sent on were accepted by now.
use Rattle.std.proofs.Common.{◌≡◌, ℕ, List, [], ◌∷◌, ◌++◌, Option, None, Some, sym, subst, refl}
use Rattle.std.specs.Prelude.{map}
use Rattle.std.specs.List.{AllByRecursion}
use Rattle.record_cache.specs.Values.{Held}
use Rattle.dns_message.specs.Questions.{asked_at}
use Rattle.waiting_questions.specs.Onward.{Onward}
use Rattle.waiting_questions.specs.Values.{Waiting}
use Rattle.alias_chains.specs.Looked.{chain_of}
use Rattle.alias_chains.proofs.CallerLemmas.{look_up_holds, held_holds}
use Rattle.step_table.specs.State.{StepStart}
use Rattle.step_table.specs.Steps.{Fate, gets, waits}
use Rattle.step_table.specs.Replies.{without_port}
use Rattle.step_table.specs.Clients.{fate_of}
use Rattle.reply_decisions.specs.Fates.{looked_on, onward_of}
use Rattle.reply_decisions.proofs.Going.{all_append, waits_with_it}

module _ (P : Held → Type 0) where
  -- the chain of a look-up going on after a reply's aliases
  pub looked_holds : (t : StepStart) (aliases : List Held) (name : List (List ℕ)) (x : Waiting) → AllByRecursion P t.state.cache.entries
      → AllByRecursion P aliases → AllByRecursion P x.held → AllByRecursion P (chain_of (looked_on t aliases name x))
  looked_holds t aliases name x entries lead own =
      look_up_holds P t.config.routes t.moment t.state.cache.entries entries (x.held ++ aliases) (asked_at x.wanted name)
      (all_append P x.held aliases own lead)

  -- a fate that leaves all held entries with the property P
  abbrev pub Holds : (Waiting → Fate) → Type 0
  Holds fate = (x y : Waiting) → AllByRecursion P x.held → fate x ≡ waits y → AllByRecursion P y.held

  pub behind_holds : (t : StepStart) (aliases : List Held) (name : List (List ℕ)) → AllByRecursion P t.state.cache.entries → AllByRecursion P aliases
      → Holds (λ x. fate_of t.config t.moment x (looked_on t aliases name x))
  behind_holds t aliases name entries lead = λ x y own is.
      let l = looked_on t aliases name x in
      subst (AllByRecursion P) (sym (waits_with_it t.config t.moment l x y is).held)
      (held_holds P l (looked_holds t aliases name x entries lead own))

  -- without a port no question waits on
  pub no_port_holds : (fate : Waiting → Fate) → Holds (λ x. without_port (fate x))
  no_port_holds fate = λ x y own is. by (fate x) y is
    where
      by : (f : Fate) (z : Waiting) → without_port f ≡ waits z → AllByRecursion P z.held
      by (gets reply) z e = absurd (cc)
      by (waits w) z e = absurd (cc)

  -- all entries held by a question sent on have the property P
  abbrev pub IsHeld : Option Onward → Type 0
  IsHeld None = Unit {0}
  IsHeld (Some s) = AllByRecursion P s.held

  pub all_hold : (fate : Waiting → Fate) → Holds fate → (xs : List Waiting) → AllByRecursion (λ x. AllByRecursion P x.held) xs
      → AllByRecursion (λ f. IsHeld (onward_of f)) (map fate xs)
  all_hold fate holds [] own = tt
  all_hold fate holds (x ∷ xs) own = (one (fate x) refl, all_hold fate holds xs own.1)
    where
      one : (f : Fate) → fate x ≡ f → IsHeld (onward_of f)
      one (gets action) is = tt
      one (waits y) is = holds x y own.0 is
