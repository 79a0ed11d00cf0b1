-- Inquiries: a first ask, and a failure of each ask while another follows.
use Rattle.std.specs.Prelude.{ℕ, ◌+◌, Bool, true, false, List, [], ◌∷◌, Option, Some, None}
use Rattle.retry_failover.specs.declared.Plan.{Plan}
use Rattle.retry_failover.specs.declared.Failure.{Failure}
use Rattle.retry_failover.specs.declared.Failure.TheVariants.{Truncated}
use Rattle.retry_failover.specs.declared.Next.{Next}
use Rattle.retry_failover.specs.declared.Next.TheVariants.{AskUdp, AskTcp, GiveUp}
use Rattle.retry_failover.specs.Table.{after_failure}

-- the asked server, and whether the ask goes over TCP
pub record Ask : Type 0 where
  pub server : ℕ
  pub tcp : Bool

-- the first ask of an inquiry: by UDP, to the preferred server of the group
abbrev pub begun : ℕ → ℕ → ℕ → Plan
begun servers tries preferred = record { servers = servers; tries = tries; used = 1; server = preferred; tcp = false }

-- the next ask, which uses one try
abbrev pub made : Plan → Next → Option Plan
made plan (AskUdp server) = Some (record plan { used = plan.used + 1; server = server; tcp = false })
made plan (AskTcp server) = Some (record plan { used = plan.used + 1; server = server; tcp = true })
made plan GiveUp = None

-- the ask of a plan: its server, and whether it goes over TCP
abbrev pub ask_of : Plan → Ask
ask_of plan = record { server = plan.server; tcp = plan.tcp }

-- this ask and the asks after it, if the asks fail so, in order; failures after the last ask count
-- nothing
abbrev pub asks_from : Plan → List Failure → List Ask
asks_from plan [] = ask_of plan ∷ []
asks_from plan (failure ∷ failures) =
    ask_of plan ∷ (elim (made plan (after_failure plan failure)) [ None ↦ [] | Some later ↦ asks_from later failures ])

-- a truncated reply by UDP; the first argument is true for an ask over TCP
abbrev pub is_cut : Bool → Failure → Bool
is_cut false Truncated = true
is_cut tcp failure = false
