-- The effects of commands that succeed.
use Rattle.std.specs.Prelude.{ℕ, List, [], ◌∷◌, ◌++◌, length, Option, Ok}
use Rattle.std.specs.Io.KnownBytes.{Appends}
use Rattle.suffix_routes.specs.Values.{Config}
use Rattle.replay_script.specs.StepTable.Steps.{initial}
use Rattle.replay_script.specs.Runs.{Replays}
use Rattle.forwarder_commands.specs.declared.commands.Command.{Command}
use Rattle.forwarder_commands.specs.declared.commands.Command.TheVariants.{Check, Serve, Replay}
use Rattle.forwarder_commands.specs.Commands.{IsOfOctets}
use Rattle.forwarder_commands.specs.Counts.{checked_text}
use Rattle.forwarder_commands.specs.Service.{ServesFrom}

-- some octets say a configuration, and a line with the number of its routes is appended
pub record Checks (held held' : Option (List ℕ)) : Type 0 where
  pub config : Config
  pub of_octets : IsOfOctets config
  pub reports : Appends held held' (checked_text (length config.routes) ++ 10 ∷ [])

-- some octets say a configuration, by which so many turns are served
pub record ServesOctets (turns : ℕ) (held held' : Option (List ℕ)) : Type 0 where
  pub config : Config
  pub of_octets : IsOfOctets config
  pub serves : ServesFrom (record { config = config; state = initial config }) turns held held'

-- The command did this, for what a reader had left and a writer held. What standard input has, and
-- standard output took, is not known.
abbrev pub IsDone : Command → Type 0
IsDone Check = (held : Option (List ℕ)) × ((held' : Option (List ℕ)) × Checks held held')
IsDone Serve = (turns : ℕ) × ((held : Option (List ℕ)) × ((held' : Option (List ℕ)) × ServesOctets turns held held'))
IsDone Replay = (left : Option (List ℕ)) × ((held : Option (List ℕ)) × ((held' : Option (List ℕ))
    × Replays left held (Ok tt) held'))
