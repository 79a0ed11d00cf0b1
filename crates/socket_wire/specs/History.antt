-- The history of a wire since its opening: each arrival, moment, action and draw of words, with its
-- calls.
use Rattle.std.specs.Prelude.{◌≡◌, ℕ, ◌<◌, ◌-◌, ◌^◌, Bool, true, false, List, [], ◌∷◌, ◌++◌, length, Result, Ok}
use Rattle.std.specs.declared.alloc.AllocError.{AllocError}
use Rattle.std.specs.declared.time.Instant.{Instant}
use Rattle.rand_chacha.specs.ChaCha.{of_seed}
use Rattle.step_values.specs.declared.action.Action.{Action}
use Rattle.step_values.specs.Values.{action_of}
use Rattle.suffix_routes.specs.declared.peer.Peer.{Peer}
use Rattle.system_calls.specs.Call.{Call, fill_random, start_clock}
use Rattle.wires.specs.Wire.{Report, ◌then◌, arrived, silence, was_put, words_were}
use Rattle.wires.specs.declared.wire.Arrival.{Arrival}
use Rattle.socket_wire.specs.Arriving.{AreNew}
use Rattle.socket_wire.specs.Listening.{OpensBoth}
use Rattle.socket_wire.specs.Looking.{TakesTurnAt, TriesReportedAt}
use Rattle.socket_wire.specs.Moments.{ReadsOnce}
use Rattle.socket_wire.specs.Putting.{PutsAction, with_spent}
use Rattle.socket_wire.specs.Seen.{SeenSockets, SeenWire, came_of, report_at_once, with_moments}
use Rattle.socket_wire.specs.Words.{GivesWords}

-- A wire at some point: its sockets, with the calls so far; the clock's start, the last moment, and
-- whether this moment is given again; what it gave and took, the moments aside; and the moments that
-- it gave.
pub record Life (A : Type 0) : Type 0 where
  pub sockets : SeenSockets A
  pub started : Instant
  pub last : ℕ
  pub is_read : Bool
  pub log : Report
  pub given : List (ℕ × Unit {0})

-- A new wire: its calls drew a seed, opened the two sockets of clients, and started the clock.
pub record Begins {A : Type 0} (life : Life A) : Type 0 where
  pub listen : Peer
  pub seed : List ℕ
  pub opened : List Call
  pub has_32 : length seed ≡ 32
  pub random : life.sockets.words.random ≡ of_seed seed
  pub none_given : life.sockets.words.is_spent ≡ true
  pub are_new : AreNew life.sockets
  pub opens : OpensBoth listen life.sockets.datagrams life.sockets.listener (fill_random seed (Ok tt) ∷ [])
      opened
  pub clock : life.sockets.calls ≡ opened ++ start_clock (Ok life.started) ∷ []
  pub first : life.last ≡ 0
  pub log : life.log ≡ silence
  pub given : life.given ≡ []

-- A turn's arrival. If nothing came, the wire tries once more.
pub record GivesArrival {A : Type 0} (before after : Life A) : Type 0 where
  pub result : Result (Arrival A) AllocError
  pub turn : TakesTurnAt before.started before.last after.last result before.sockets after.sockets
  pub log : after.log ≡ report_at_once before.log result
  pub rest : after ≡ record before {
    sockets = after.sockets;
    last = after.last;
    is_read = true;
    log = after.log;
  }

-- An arrival after the wait of a turn.
pub record GivesReported {A : Type 0} (before after : Life A) : Type 0 where
  pub result : Result (Arrival A) AllocError
  pub tries : TriesReportedAt before.started before.last after.last result before.sockets after.sockets
  pub log : after.log ≡ before.log then arrived (came_of result)
  pub rest : after ≡ record before {
    sockets = after.sockets;
    last = after.last;
    is_read = true;
    log = after.log;
  }

-- A moment for a step.
pub record GivesMoment {A : Type 0} (before after : Life A) : Type 0 where
  pub reads : ReadsOnce before.is_read before.started before.last after.last before.sockets.calls
      after.sockets.calls
  pub given : after.given ≡ before.given ++ (after.last, tt) ∷ []
  pub rest : after ≡ record before {
    sockets = record before.sockets { calls = after.sockets.calls };
    last = after.last;
    is_read = true;
    given = after.given;
  }

-- An action, done or refused, at the moment of its step.
pub record Acts {A : Type 0} (before after : Life A) : Type 0 where
  pub action : Action A
  pub is_done : Bool
  pub puts : PutsAction action before.last is_done (with_spent action before.sockets) after.sockets
  pub log : after.log ≡ before.log then was_put (action_of action) is_done
  pub rest : after ≡ record before { sockets = after.sockets; log = after.log }

-- Random words for a step, without a call.
pub record Draws {A : Type 0} (before after : Life A) : Type 0 where
  pub words : List ℕ
  pub gives : GivesWords words before.sockets.words after.sockets.words
  pub log : after.log ≡ before.log then words_were words
  pub rest : after ≡ record before {
    sockets = record before.sockets { words = after.sockets.words };
    log = after.log;
  }

-- A wire with a history: it began, and then gave and took one thing after the other. At a turn's end
-- the next moment is read off the clock again.
pub data Lives {A : Type 0} : Life A → Type 0 where
  begins : {life : Life A} → Begins life → Lives life
  arrival : {before after : Life A} → GivesArrival before after → Lives before → Lives after
  reported : {before after : Life A} → GivesReported before after → Lives before → Lives after
  moment : {before after : Life A} → GivesMoment before after → Lives before → Lives after
  action : {before after : Life A} → Acts before after → Lives before → Lives after
  words : {before after : Life A} → Draws before after → Lives before → Lives after
  reads_again : {before after : Life A} → after ≡ record before { is_read = false } → Lives before
      → Lives after

-- What the wire gave and took is a history, with these calls alone, in order.
pub record IsOfCalls (A : Type 0) (wire : SeenWire) : Type 0 where
  pub life : Life A
  pub lives : Lives life
  pub report : wire.report ≡ with_moments life.log life.given
  pub calls : wire.calls ≡ life.sockets.calls
