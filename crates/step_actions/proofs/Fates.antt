-- A question's fate by its look-up: the decision is the table's.
use Rattle.std.proofs.Common.{◌≡◌, ℕ, List, true, false, Option, Some, None, refl, sym, ap, ◌∙◌}
use Rattle.std.proofs.lemmas.Bool.{cond-true, cond-false}
use Rattle.dns_name.specs.Labels.{lowered}
use Rattle.suffix_routes.specs.Values.{Config}
use Rattle.suffix_routes.specs.Serving.{serving_route_of, is_local}
use Rattle.suffix_routes.proofs.CallerLemmas.{serving_lowered, denied_lowered}
use Rattle.record_cache.specs.Values.{Held}
use Rattle.answer_builder.specs.Transports.{answer_of}
use Rattle.step_texts.specs.AliasChains.LookingUp.{LookUpEnd, ends, too_long, missed, LookUp}
use Rattle.step_texts.specs.AliasChains.Looked.{chain_at, kind_of}
use Rattle.step_texts.specs.AliasChains.declared.looked.LookUpEnd.TheVariants.{Ends, TooLong, Missed}
use Rattle.step_values.specs.Values.{Action}
use Rattle.step_values.specs.declared.action.Why.TheVariants.{Answered, ChainLong, NoRoute}
use Rattle.step_texts.specs.WaitingQuestions.Values.{Waiting}
use Rattle.step_texts.specs.StepTable.Steps.{gets, waits, gives_up, denied_locally, sends, transport_of}
use Rattle.step_texts.specs.StepTable.Clients.{fate_missed, fate_at, fate_of, waits_with}

-- ---- the configuration's answers for a key are those for the name

pub served_by_key : (c : Config) (key name : List (List ℕ)) → key ≡ lowered name
    → serving_route_of c key ≡ serving_route_of c name
served_by_key c key name is = ap (serving_route_of c) is ∙ serving_lowered c.routes name

pub denied_by_key : (c : Config) (key name : List (List ℕ)) → key ≡ lowered name → is_local c key ≡ is_local c name
denied_by_key c key name is = ap (is_local c) is ∙ denied_lowered c.routes name

-- ---- a look-up that missed

pub it_missed : (m : LookUpEnd) → kind_of m ≡ Missed → m ≡ missed
it_missed (ends e) is = absurd (cc)
it_missed too_long is = absurd (cc)
it_missed missed is = refl

-- a missed look-up's chain has aliases alone
pub chain_missed : (held : List Held) (m : LookUpEnd) → m ≡ missed → chain_at held m ≡ held
chain_missed held m is = ap (chain_at held) is

module _ (c : Config) (n : ℕ) (x : Waiting) (l : LookUp) where
  -- ---- a question's fate, by the end of the look-up

  pub ended_fate : (m : LookUpEnd) → kind_of m ≡ Ends
      → gets (sends Answered x (answer_of x.asked (chain_at l.held m) n (transport_of x.client))) ≡ fate_at c n x l m
  ended_fate (ends e) is = refl
  ended_fate too_long is = absurd (cc)
  ended_fate missed is = absurd (cc)

  pub long_fate : (m : LookUpEnd) → kind_of m ≡ TooLong → gets (gives_up ChainLong x) ≡ fate_at c n x l m
  long_fate (ends e) is = absurd (cc)
  long_fate too_long is = refl
  long_fate missed is = absurd (cc)

  -- a question waits only after a missed look-up
  pub waits_missed : (y : Waiting) → waits y ≡ fate_of c n x l → l.met ≡ missed
  waits_missed y is = by l.met is
    where
      by : (m : LookUpEnd) → waits y ≡ fate_at c n x l m → m ≡ missed
      by (ends e) is = absurd (cc)
      by too_long is = absurd (cc)
      by missed is = refl

  -- ---- a question after a missed look-up, by the wanted name's route

  by_route : (route : Option ℕ) → l.met ≡ missed → route ≡ serving_route_of c l.wanted.name
      → fate_missed c n x l route ≡ fate_of c n x l
  by_route route met is = ap (fate_missed c n x l) is ∙ ap (fate_at c n x l) (sym met)

  -- a route serves the name: the question waits
  pub served_fate : (route : ℕ) → l.met ≡ missed → Some route ≡ serving_route_of c l.wanted.name
      → waits (waits_with x l) ≡ fate_of c n x l
  served_fate route met served = by_route (Some route) met served

  -- the configuration denies the name
  pub denied_fate : l.met ≡ missed → None ≡ serving_route_of c l.wanted.name → true ≡ is_local c l.wanted.name
      → gets (denied_locally n x l.held) ≡ fate_of c n x l
  denied_fate met none denied =
      ap (λ (a : Action). gets a) (sym (cond-true (is_local c l.wanted.name) _ _ (sym denied)))
      ∙ by_route None met none

  -- the name has no route
  pub unrouted_fate : l.met ≡ missed → None ≡ serving_route_of c l.wanted.name → false ≡ is_local c l.wanted.name
      → gets (gives_up NoRoute x) ≡ fate_of c n x l
  unrouted_fate met none not_denied =
      ap (λ (a : Action). gets a) (sym (cond-false (is_local c l.wanted.name) _ _ (sym not_denied)))
      ∙ by_route None met none
