-- A wire's history goes on by each call of the loop.
use Rattle.std.proofs.Common.{◌≡◌, ℕ, ◌∷◌, ◌++◌, [], List, Bool, true, false, ap}
use Rattle.std.specs.Prelude.{Result}
use Rattle.std.specs.declared.alloc.AllocError.{AllocError}
use Rattle.step_values.specs.declared.action.Action.{Action}
use Rattle.step_values.specs.Values.{action_of}
use Rattle.wires.specs.Wire.{◌then◌, arrived, was_put, words_were}
use Rattle.wires.specs.declared.wire.Arrival.{Arrival}
use Rattle.socket_wire.specs.History.{Life, Lives, arrival, reported, moment, action, words, reads_again}
use Rattle.socket_wire.specs.Looking.{TakesTurnAt, TriesReportedAt}
use Rattle.socket_wire.specs.Moments.{ReadsOnce}
use Rattle.socket_wire.specs.Putting.{PutsAction, with_spent}
use Rattle.socket_wire.specs.Seen.{SeenSockets, came_of, report_at_once}
use Rattle.socket_wire.specs.Words.{GivesWords}

pub arrives : {A : Type 0} (before after : Life A) (result : Result (Arrival A) AllocError)
    → TakesTurnAt before.started before.last after.last result before.sockets after.sockets
    → after.log ≡ report_at_once before.log result → after.started ≡ before.started
    → after.is_read ≡ true → after.given ≡ before.given → Lives before → Lives after
arrives before after result turn log started is_read given lives = arrival (record {
  result = result;
  turn = turn;
  log = log;
  rest = λ i. record {
    sockets = after.sockets;
    started = started i;
    last = after.last;
    is_read = is_read i;
    log = after.log;
    given = given i;
  };
}) lives

pub is_reported : {A : Type 0} (before after : Life A) (result : Result (Arrival A) AllocError)
    → TriesReportedAt before.started before.last after.last result before.sockets after.sockets
    → after.log ≡ before.log then arrived (came_of result) → after.started ≡ before.started
    → after.is_read ≡ true → after.given ≡ before.given → Lives before → Lives after
is_reported before after result tries log started is_read given lives = reported (record {
  result = result;
  tries = tries;
  log = log;
  rest = λ i. record {
    sockets = after.sockets;
    started = started i;
    last = after.last;
    is_read = is_read i;
    log = after.log;
    given = given i;
  };
}) lives

pub gives_moment : {A : Type 0} (before after : Life A)
    → ReadsOnce before.is_read before.started before.last after.last before.sockets.calls
    after.sockets.calls → after.given ≡ before.given ++ (after.last, tt) ∷ []
    → after.sockets ≡ record before.sockets { calls = after.sockets.calls }
    → after.started ≡ before.started → after.is_read ≡ true → after.log ≡ before.log → Lives before
    → Lives after
gives_moment before after reads given sockets started is_read log lives = moment (record {
  reads = reads;
  given = given;
  rest = λ i. record {
    sockets = sockets i;
    started = started i;
    last = after.last;
    is_read = is_read i;
    log = log i;
    given = after.given;
  };
}) lives

pub acts : {A : Type 0} (before after : Life A) (put : Action A) (is_done : Bool)
    → PutsAction put before.last is_done (with_spent put before.sockets) after.sockets
    → after.log ≡ before.log then was_put (action_of put) is_done → after.started ≡ before.started
    → after.last ≡ before.last → after.is_read ≡ before.is_read → after.given ≡ before.given
    → Lives before → Lives after
acts before after put is_done puts log started last is_read given lives = action (record {
  action = put;
  is_done = is_done;
  puts = puts;
  log = log;
  rest = λ i. record {
    sockets = after.sockets;
    started = started i;
    last = last i;
    is_read = is_read i;
    log = after.log;
    given = given i;
  };
}) lives

pub draws : {A : Type 0} (before after : Life A) (drawn : List ℕ)
    → GivesWords drawn before.sockets.words after.sockets.words
    → after.log ≡ before.log then words_were drawn
    → after.sockets ≡ record before.sockets { words = after.sockets.words }
    → after.started ≡ before.started → after.last ≡ before.last → after.is_read ≡ before.is_read
    → after.given ≡ before.given → Lives before → Lives after
draws before after drawn gives log sockets started last is_read given lives = words (record {
  words = drawn;
  gives = gives;
  log = log;
  rest = λ i. record {
    sockets = sockets i;
    started = started i;
    last = last i;
    is_read = is_read i;
    log = after.log;
    given = given i;
  };
}) lives
