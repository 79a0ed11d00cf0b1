-- The forwarder's state.
use Rattle.std.specs.Prelude.{ℕ, List}
use Rattle.suffix_routes.specs.Values.{Config}
use Rattle.outstanding.specs.Values.{Ask}
use Rattle.alias_chains.specs.RecordCache.Values.{Cache}
use Rattle.waiting_questions.specs.Values.{Waiting}

-- a forwarder's memory from step to step
pub record State : Type 0 where
  pub cache : Cache
  pub asks : List Ask  -- in the order in which they were asked
  pub waiting : List Waiting  -- in the order in which they were taken
  pub preferred : List ℕ  -- for each route, the place of the server that is asked first
  pub moment : ℕ  -- the effective moment, in milliseconds
  pub tcp_asks : ℕ  -- how many asks went by TCP

-- a forwarder: configuration and state
pub record Running : Type 0 where
  pub config : Config
  pub state : State

-- the start of a step: the effective moment in milliseconds, the random words, and the state before
pub record StepStart : Type 0 where
  pub config : Config
  pub moment : ℕ
  pub words : List ℕ
  pub state : State

-- a state with the configuration, the moment and the random words of a step
abbrev pub start : Config → ℕ → List ℕ → State → StepStart
start c n words s = record { config = c; moment = n; words = words; state = s }

-- the start from a different state
abbrev pub from_state : State → StepStart → StepStart
from_state s t = record t { state = s }
