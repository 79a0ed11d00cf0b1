-- The rows of a failed attempt.
use Rattle.std.specs.Prelude.{ℕ, ◌-◌, if◌then◌else◌, ◌==◌, List, length, Option, Some, None}
use Rattle.dns_message.specs.Values.{Question}
use Rattle.suffix_routes.specs.Values.{Config}
use Rattle.outstanding.specs.Values.{Ask}
use Rattle.retry_failover.specs.declared.Failure.{Failure}
use Rattle.retry_failover.specs.declared.Failure.TheVariants as failure
use Rattle.retry_failover.specs.declared.Next.{Next}
use Rattle.retry_failover.specs.declared.Next.TheVariants.{AskUdp, AskTcp, GiveUp}
use Rattle.retry_failover.specs.Table.{after_failure}
use Rattle.trust_rank.specs.Walks.{most_aliases}
use Rattle.alias_chains.specs.RecordCache.Values.{Held}
use Rattle.step_values.specs.declared.action.Why.TheVariants.{NoPort, Exhausted}
use Rattle.step_values.specs.Values.{Action}
use Rattle.step_table.specs.State.{State, StepStart}
use Rattle.waiting_questions.specs.Values.{Waiting, waits_for}
use Rattle.step_table.specs.Attempts.{plan_of, next_ask}
use Rattle.alias_chains.specs.StaleLookUps.{look_up_stale}
use Rattle.step_table.specs.Steps.{idle_step, Done, Fate, gets, waits, closing_step, gives_up, answered_stale, fails}

-- the next ask takes the place of the failed ask; without a port all questions waiting for it fail
abbrev pub row_of_attempt : ℕ → Ask → State → Option Ask → Done
row_of_attempt n a s None = closing_step n a (fails NoPort a.question) None s
row_of_attempt n a s (Some next) = closing_step n a (λ x. waits x) (Some next) s

-- no try is left: the answer has the found expired data, or says that all tries failed
abbrev pub with_stale_ttl : ℕ → Waiting → Option (List Held) → Action
with_stale_ttl n x None = gives_up Exhausted x
with_stale_ttl n x (Some chain) = answered_stale n x chain

-- the expired data in the cache for a question within the window, after as many aliases as the
-- question may still take; nothing is looked up without a window
abbrev pub found_stale : Config → ℕ → List Held → Waiting → Option (List Held)
found_stale c n entries x =
    if c.limits.stale_s == 0
    then None
    else look_up_stale c.limits.stale_s n entries (most_aliases - length x.held) x.wanted

-- questions that wait for this question get the last possible reply; all further questions wait on
abbrev pub runs_out : Config → ℕ → List Held → Question → Waiting → Fate
runs_out c n entries q x = if waits_for q x then gets (with_stale_ttl n x (found_stale c n entries x)) else waits x

-- the next step after a failed ask: a query by UDP, a query over TCP, or the end of the inquiry
abbrev pub row_of_next : StepStart → Ask → Next → Done
row_of_next t a (AskUdp server) = row_of_attempt t.moment a t.state (next_ask t a (AskUdp server))
row_of_next t a (AskTcp server) = row_of_attempt t.moment a t.state (next_ask t a (AskTcp server))
row_of_next t a GiveUp = closing_step t.moment a (runs_out t.config t.moment t.state.cache.entries a.question) None
    t.state

-- the ask is closed; then the next ask goes out, or the questions waiting for it get the reason why
-- not
abbrev pub row_of_failure : StepStart → Ask → Failure → Done
row_of_failure t a f = row_of_next t a (after_failure (plan_of t.config a) f)

-- a path that the system gave up
abbrev pub row_of_failed_path : StepStart → Option Ask → Done
row_of_failed_path t None = idle_step t.moment t.state
row_of_failed_path t (Some a) = row_of_failure t a failure.Broken
