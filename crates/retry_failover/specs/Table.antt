-- The next step after a failure, as a table.
use Rattle.std.specs.Prelude.{ℕ, ◌+◌, ◌%◌, Bool, true, false, ◌==◌}
use Rattle.retry_failover.specs.declared.Plan.{Plan}
use Rattle.retry_failover.specs.declared.Failure.{Failure}
use Rattle.retry_failover.specs.declared.Failure.TheVariants.{Truncated}
use Rattle.retry_failover.specs.declared.Next.{Next}
use Rattle.retry_failover.specs.declared.Next.TheVariants.{AskUdp, AskTcp, GiveUp}

-- the server after this one, the first after the last
abbrev pub next_server : Plan → ℕ
next_server plan = (plan.server + 1) % plan.servers

-- by whether all tries are used, whether the ask went over TCP, and how it failed
abbrev pub row : Bool → Bool → Failure → Plan → Next
row true tcp failure plan = GiveUp
row false false Truncated plan = AskTcp plan.server
row false tcp failure plan = AskUdp (next_server plan)

-- the step after a failed ask
abbrev pub after_failure : Plan → Failure → Next
after_failure plan failure = row (plan.used == plan.tries) plan.tcp failure plan
