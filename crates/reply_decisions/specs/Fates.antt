-- The fates of questions that waited for a reply with aliases to an unanswered name.
use Rattle.std.specs.Prelude.{◌≡◌, ℕ, true, false, List, [], ◌∷◌, ◌++◌, filter, map, Option, Some, None}
use Rattle.dns_message.specs.Values.{Question}
use Rattle.dns_message.specs.Questions.{asked_at}
use Rattle.trust_rank.specs.declared.slot.Slot.{Slot}
use Rattle.record_cache.specs.Values.{Held}
use Rattle.step_values.specs.Values.{action_of}
use Rattle.waiting_questions.specs.Values.{Waiting, waits_for}
use Rattle.waiting_questions.specs.Onward.{Onward, redirected}
use Rattle.alias_chains.specs.LookingUp.{LookUp, goes_on}
use Rattle.step_table.specs.State.{StepStart}
use Rattle.step_table.specs.Steps.{Fate, gets, waits}
use Rattle.reply_decisions.specs.declared.fate.WaitingFate.{WaitingFate}
use Rattle.reply_decisions.specs.declared.fate.WaitingFate.TheVariants.{Reply, WaitsOn}

-- of all of them, in the order of arrival, and the slots used by their look-ups
pub record Fates : Type 0 where
  pub each : List Fate
  pub used : List Slot

-- the fate of a question as the table has it
abbrev pub fate_now : {A : Type 0} → WaitingFate A → Fate
fate_now (Reply action) = gets (action_of action)
fate_now (WaitsOn x s) = waits (redirected s x.now)

-- the aliases and the question with which a question waits on, if it does
abbrev pub onward_of : Fate → Option Onward
onward_of (gets action) = None
onward_of (waits y) = Some (record { held = y.held; wanted = y.wanted })

-- the question that the first of these wants
abbrev pub first_wanted : List Waiting → Option Question
first_wanted [] = None
first_wanted (y ∷ ys) = Some y.wanted

-- the look-up of a question that goes on after the aliases of a reply, which lead to this name
abbrev pub looked_on : StepStart → List Held → List (List ℕ) → Waiting → LookUp
looked_on t aliases name x =
    goes_on t.config.routes t.moment t.state.cache.entries (x.held ++ aliases) (asked_at x.wanted name)

-- these are the fates of the questions that wait for one: with its own client, each gets its reply
-- or waits on; all others wait on as they are
pub record AreFates (q : Question) (fate : Waiting → Fate) (xs : List Waiting) (each : List Fate) : Type 0 where
  pub are : each ≡ map fate (filter (waits_for q) xs)
  pub own : (x y : Waiting) → waits_for q x ≡ true → fate x ≡ waits y
      → y ≡ redirected (record { held = y.held; wanted = y.wanted }) x
  pub others : (x : Waiting) → waits_for q x ≡ false → fate x ≡ waits x
