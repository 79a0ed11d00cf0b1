-- The result of a turn, and the turn's beginning.
use Rattle.std.proofs.Common.{◌≡◌, refl, ap, subst, sym, ◌∙◌, ℕ, List, [], drop, Option, Some, None}
use Rattle.std.specs.Prelude.{Result, Ok, unwrap_or}
use Rattle.std.specs.declared.alloc.AllocError.{AllocError}
use Rattle.std.specs.declared.time.Instant.{Instant}
use Rattle.wires.specs.declared.wire.Arrival.{Arrival}
use Rattle.wires.specs.declared.wire.Arrival.TheVariants.{Nothing}
use Rattle.stream_connections.specs.declared.connections.Closed.{Closed}
use Rattle.socket_wire.specs.Arriving.{ReportsEnd}
use Rattle.socket_wire.specs.Looking.{TakesTurn, TakesTurnAt, TakesTurnAtOnce, given_of}
use Rattle.socket_wire.specs.Moments.{ReadsClock}
use Rattle.socket_wire.specs.Seen.{SeenSockets}
use Rattle.stream_connections.specs.Open.{Connections}

pub given_is : {A : Type 0} (found : Option (Arrival A)) → Ok (unwrap_or found Nothing)
    ≡ given_of (Ok found)
given_is (Some arrival) = refl
given_is None = refl

-- If no end is to be reported, none is taken out.
pub no_end : {A : Type 0} (before after : Connections A) → before.closed ≡ []
    → after ≡ record before { closed = drop 1 before.closed; has_room = after.has_room }
    → after ≡ record before { has_room = after.has_room }
no_end before after none rest =
    let same : drop 1 before.closed ≡ before.closed = ap (λ (closed : List Closed). drop 1 closed)
    none ∙ sym none in
    rest ∙ ap (λ (closed : List Closed). record before
    { closed = closed; has_room = after.has_room }) same

-- If no end is to be reported, a turn is taken, by sockets seen as these.
pub at_once : {A : Type 0} (now : ℕ) (result : Result (Arrival A) AllocError)
    (seen before after : SeenSockets A) (connections : Connections A) → seen ≡ before
    → before.connections.closed ≡ []
    → connections ≡ record seen.connections {
      closed = drop 1 seen.connections.closed;
      has_room = connections.has_room;
    }
    → TakesTurn now result (record seen { connections = connections }) after
    → TakesTurnAtOnce now result before after
at_once now result seen before after connections is none rest turn = record {
  begun = record before { connections = connections };
  begins = ap (λ (k : Connections _). record before { connections = k })
      (no_end before.connections connections none
      (subst (λ (s : SeenSockets _). connections ≡ record s.connections {
        closed = drop 1 s.connections.closed;
        has_room = connections.has_room;
      }) is rest));
  turn = subst (λ (s : SeenSockets _).
      TakesTurn now result (record s { connections = connections }) after) is turn;
}

-- A turn at a moment that one call gave, by sockets that differ in their calls alone.
pub at_moment : {A : Type 0} (started : Instant) (last now moment : ℕ)
    (result : Result (Arrival A) AllocError) (before seen after : SeenSockets A) → now ≡ moment
    → ReadsClock started last moment before.calls seen.calls
    → seen ≡ record before { calls = seen.calls } → ReportsEnd result seen after
    → (seen.connections.closed ≡ [] → TakesTurnAtOnce now result seen after)
    → TakesTurnAt started last moment result before after
at_moment started last now moment result before seen after is reads rest end turn = record {
  read = seen.calls;
  reads = reads;
  end = subst (λ s. ReportsEnd result s after) rest end;
  turn = λ none.
      let at_end : seen.connections.closed ≡ [] =
      ap (λ (s : SeenSockets _). s.connections.closed) rest ∙ none in
      subst (λ s. TakesTurnAtOnce moment result s after) rest
      (subst (λ n. TakesTurnAtOnce n result seen after) is (turn at_end));
}
