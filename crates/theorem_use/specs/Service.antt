-- Everything claimed of a run, in one record.
use Rattle.std.specs.Prelude.{ℕ, List, ◌++◌, reverse}
use Rattle.suffix_routes.specs.Values.{Config, IsConfig}
use Rattle.trust_rank.specs.declared.slot.Slot.{Slot}
use Rattle.step_values.specs.Values.{Step}
use Rattle.step_history.specs.Asked.{AsksWell}
use Rattle.step_history.specs.Given.{GivesWhatCame, AsksFewTimes}
use Rattle.step_history.specs.Turns.{AsksInTurn}
use Rattle.step_table.specs.State.{State}
use Rattle.step_table.specs.Steps.{initial}
use Rattle.theorem_sound.specs.Runs.{Run, IsSound}
use Rattle.theorem_use.specs.Use.{UsesWhatStands}
use Rattle.theorem_use.specs.Recent.{UsesWhatIsRecent}
use Rattle.theorem_use.specs.Asking.{AsksForThoseWhoWait}

-- the claims hold of these steps, the oldest first
pub record ServesTruly (c : Config) (steps : List Step) : Type 0 where
  -- For some owners, each once: each reply is right for its owner's question. A reply with an
  -- answer is of one of three kinds. Alive: each record set or denial was alive when the client
  -- asked (RFC 1035 3.2.1) and not replaced (RFC 2181 5.4, RFC 8020 2), or came since. Expired: all
  -- tries failed. The record set, and its aliases, may have expired, but less than the configured
  -- window ago (RFC 8767 5), and nothing has taken their place. Denied by the configuration: the
  -- route of the asked name, or of a name at its aliases' end, denies (RFC 6761 6.4). Each record
  -- set and each denial in a reply, except for denials by the configuration, was carried whole by
  -- one reply that matched an open ask (RFC 5452 9.1) on its name's route, since the last restart.
  -- Each further reply has its cause. Each step says whether more is due. And the questions without
  -- a reply are no more than may wait.
  pub sound : IsSound c steps
  -- After every step the listed asks have different paths and different questions, and are no more
  -- than may be open; each goes to a server of its question's route, with the identifier and the
  -- path from its step's words (RFC 5452 9.2).
  pub asks : AsksWell c (reverse steps)
  -- After every step each waiting question wants the question of a listed ask, and each listed ask
  -- is wanted (RFC 1034 3.6.2). A new ask has the spelling of the wanted question, or of the failed
  -- ask before. With the same owners.
  pub waiting : AsksForThoseWhoWait c (reverse steps) sound.owners
  -- After a step that accepts a reply with a set or a denial, no ask for the reply's question is
  -- listed, and the step sends no ask. So by `waiting` nobody waits for this question
  -- (`NobodyWaitsForWhatCame`).
  pub given : GivesWhatCame c (reverse steps)
  -- After every step fewer than `tries` asks failed before each listed ask, in its inquiry.
  pub tries : AsksFewTimes c (reverse steps)
  -- Each first ask of an inquiry goes by UDP to the server of the era's last accepted reply on the
  -- route, otherwise to the first. After a failed ask the same server is asked over TCP if the reply
  -- was truncated by UDP, otherwise the next of the group by UDP. For some places of the steps'
  -- servers.
  pub places : List ℕ
  pub turns : AsksInTurn c (reverse steps) places
  -- A question for which enough carried data stands (RFC 2181 5.4.1) is answered at once, if the
  -- cache has room: by a single reply, owned by the question, with the same owners.
  pub uses : UsesWhatStands c (reverse steps) sound.owners
  -- A question that recent pieces answer is answered at once, whatever the era carried before:
  -- since the last use of each of these pieces, no more different slots were carried or used than
  -- the cache has room for. For some used slots of each step, and with the same owners.
  pub used : List (List Slot)
  pub recent : UsesWhatIsRecent c (reverse steps) sound.owners used

-- these steps, the oldest first, lead from a new forwarder with an accepted configuration to s
pub record ComesTo (c : Config) (steps : List Step) (s : State) : Type 0 where
  pub config : IsConfig c
  pub run : Run c (initial c) steps s

-- after any steps that led a new forwarder to s, these and those steps together serve truly
abbrev pub ServesOnTruly : Config → State → List Step → Type 0
ServesOnTruly c s more = (steps : List Step) → ComesTo c steps s → ServesTruly c (steps ++ more)
