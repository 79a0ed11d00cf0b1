-- A step of the forwarder.
use Rattle.std.specs.Prelude.{◌≡◌, ℕ, ◌^◌, Bool, false, ◌||◌, nat_le, min, max, List, [], None}
use Rattle.std.specs.List.{list_any}
use Rattle.suffix_routes.specs.Values.{Config}
use Rattle.outstanding.specs.Lists.{on_path as ask_on}
use Rattle.outstanding.specs.Values.{Ask}
use Rattle.reply_match.specs.declared.verdict.Verdict.TheVariants.{Stranger}
use Rattle.plain_values.specs.Octets.{AreOctets}
use Rattle.step_values.specs.Values.{Event, from_client, delivery, path_failed, tick, restart, StepInput, Outcome}
use Rattle.step_values.specs.Requests.{is_taken}
use Rattle.step_table.specs.State.{State, StepStart, start}
use Rattle.step_table.specs.Steps.{Done, initial}
use Rattle.step_table.specs.Clients.{row_of_request}
use Rattle.step_table.specs.Failures.{row_of_failed_path}
use Rattle.step_table.specs.Replies.{timeout_of, row_of_delivery, verdict_on}
use Rattle.step_table.specs.Ticks.{deadline_of, row_of_tick}

-- a question has reached its deadline, or an ask the end of its time
abbrev pub is_due_at : Config → ℕ → State → Bool
is_due_at c n s = list_any (λ x. nat_le (deadline_of c x) n) s.waiting
    || list_any (λ a. nat_le (timeout_of c a) n) s.asks

-- the event leads from this start to these actions and the state after
abbrev pub Happens : StepStart → Event → Done → Type 0
Happens t (from_client client octets) d = d ≡ row_of_request t client octets
-- rooms has true for each new slot that found memory
Happens t (delivery path from octets) d = (rooms : List Bool)
    × (d ≡ row_of_delivery t rooms from octets (ask_on path t.state.asks))
Happens t (path_failed path) d = d ≡ row_of_failed_path t (ask_on path t.state.asks)
Happens t tick d = d ≡ row_of_tick t
Happens t restart d = d ≡ record { actions = []; unkept = 0; state = initial t.config }

-- the numbers of the event are octets
abbrev pub HandsOctets : Event → Type 0
HandsOctets (from_client client octets) = AreOctets octets
HandsOctets (delivery path from octets) = AreOctets octets
HandsOctets (path_failed path) = Unit {0}
HandsOctets tick = Unit {0}
HandsOctets restart = Unit {0}

-- the effective moment: the greatest passed in so far, at most 2^62
abbrev pub effective : ℕ → State → ℕ
effective now s = max (min now (2 ^ 62)) s.moment

-- events without allocations: a dropped message, a delivery that matches nothing, a path without an
-- ask, a tick with nothing due, and a restart
abbrev pub TakesNoMemory : Config → ℕ → State → Event → Type 0
TakesNoMemory c n s (from_client client octets) = is_taken octets ≡ false
TakesNoMemory c n s (delivery path from octets) = verdict_on c n from octets (ask_on path s.asks) ≡ Stranger
TakesNoMemory c n s (path_failed path) = ask_on path s.asks ≡ None
TakesNoMemory c n s tick = is_due_at c n s ≡ false
TakesNoMemory c n s restart = Unit {0}

-- from s, this step may have this outcome and leave s'
pub record Row (c : Config) (s : State) (h : StepInput) (o : Outcome) (s' : State) : Type 0 where
  pub octets : HandsOctets h.event
  pub happens : Happens (start c (effective h.now s) h.words s) h.event
      (record { actions = o.actions; unkept = o.unkept; state = s' })
  pub more : o.more ≡ is_due_at c s'.moment s'
