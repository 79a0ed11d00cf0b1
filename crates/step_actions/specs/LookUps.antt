-- The input of the look-ups of a step.
use Rattle.step_texts.specs.NegativeCache.Moments.{CacheAt}
use Rattle.step_texts.specs.StepTable.State.{StepStart}

-- the cache at the start of the step, at the step's moment and under its configuration
abbrev pub cache_at : StepStart → CacheAt
cache_at t = record { cache = t.state.cache; config = t.config; moment = t.moment }
