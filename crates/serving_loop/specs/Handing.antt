-- The effects of the parts of a turn.
use Rattle.std.specs.Prelude.{◌≡◌, ◌⊎◌, ℕ, suc, ◌+◌, ◌*◌, ◌<◌, ◌≤◌, Bool, true, false, List, [], ◌∷◌, length, map}
use Rattle.std.specs.Prelude.{Option, Some, None}
use Rattle.outstanding.specs.declared.ask.Path.{Path}
use Rattle.step_values.specs.Values.{Event, from_client, delivery, path_failed, tick, restart, Action}
use Rattle.forwarder_core.specs.StepTable.State.{Running}
use Rattle.wires.specs.Wire.{Put, Report, silence, ReportsMore}
use Rattle.serving_loop.specs.Events.{Taken, failed_of, more_in, reports_more, joined, IsChain, AreTicks}
use Rattle.serving_loop.specs.Serving.{Standing, Does, Adds, refused_of, left}

-- the report of puts
abbrev pub report_of_puts : List Put → Report
report_of_puts puts = record silence { puts = puts }

-- These actions were put in order. `last` is the last failed path before, `failed` the last failed
-- path after.
pub record Puts (last : Option Path) (actions : List Action) (failed : Option Path) (before after : Standing)
    : Type 0 where
  pub puts : List Put
  pub actions_are : map (λ (p : Put). p.action) puts ≡ actions
  pub failed_is : failed ≡ failed_of last puts
  pub running : after.running ≡ before.running
  pub reports : ReportsMore before.report (report_of_puts puts) after.report
  pub refused : Adds before.counts.refused_puts (refused_of puts) after.counts.refused_puts
  pub turns : after.counts.turns ≡ before.counts.turns
  pub lost : after.counts.lost ≡ before.counts.lost
  pub arrivals : after.counts.refused_arrivals ≡ before.counts.refused_arrivals
  pub same_forwarder : after.of_forwarder ≡ before.of_forwarder
  pub same_wire : after.of_wire ≡ before.of_wire

-- the most work left to a forwarder
abbrev pub most_left : Running → ℕ
most_left r = r.config.limits.questions + r.config.limits.inquiries * r.config.limits.tries

-- an event made by the loop itself
abbrev pub IsOwn : Event → Type 0
IsOwn (from_client client octets) = ⊥
IsOwn (delivery path from octets) = ⊥
IsOwn (path_failed path) = Unit {0}
IsOwn tick = Unit {0}
IsOwn restart = ⊥

-- Less is left to do; or nothing was done, no path failed, and a tick reported that nothing more is
-- due.
abbrev pub StepsDown : Running → Running → Event → Option Path → Bool → Type 0
StepsDown before after event failed more = (left after < left before)
    ⊎ ((failed ≡ None) × (left after ≡ left before) × (event ≡ tick → more ≡ false))

-- The forwarder took an event.
pub record Hands (event : Event) (failed : Option Path) (more : Bool) (before after : Standing) : Type 0 where
  pub taken : Taken
  pub event_is : taken.input.event ≡ event
  pub failed_is : failed ≡ failed_of None taken.puts
  pub more_is : more ≡ more_in taken.answer
  pub does : Does before (taken ∷ []) after
  pub bounded : left before.running ≤ most_left before.running
  pub falls : IsOwn event → StepsDown before.running after.running event failed more

-- The forwarder took an event, and after it the failures of the paths of refused asks.
pub record HandsOn (event : Event) (more : Bool) (before after : Standing) : Type 0 where
  pub chain : List Taken
  pub is_chain : IsChain (Some event) chain
  pub more_is : more ≡ reports_more chain
  pub does : Does before chain after
  pub bounded : left before.running ≤ most_left before.running
  pub falls : event ≡ tick → more ≡ true → left after.running < left before.running

-- The forwarder took ticks until nothing more was due.
pub record Ticks (before after : Standing) : Type 0 where
  pub chains : List (List Taken)
  pub are_ticks : AreTicks true chains
  pub does : Does before (joined chains) after
  pub few : length chains ≤ suc (most_left before.running)
