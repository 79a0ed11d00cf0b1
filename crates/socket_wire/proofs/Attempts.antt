-- Sockets noted as ready, tried in order by a loop.
use Rattle.std.proofs.Common.{◌≡◌, refl, ap, ℕ, suc, ◌+◌, ◌-◌, ◌<◌, subst, Option, Some, None}
use Rattle.std.proofs.Common.{arith}
use Rattle.std.specs.Prelude.{Result, Ok}
use Rattle.std.specs.declared.alloc.AllocError.{AllocError}
use Rattle.wires.specs.declared.wire.Arrival.{Arrival}
use Rattle.ready_sockets.specs.declared.origin.Origin.{Origin}
use Rattle.ready_sockets.specs.Seen.{SeenReadiness}
use Rattle.socket_wire.specs.Seen.{SeenSockets}
use Rattle.socket_wire.specs.declared.sockets.taking.Tried.{Tried}
use Rattle.socket_wire.specs.declared.sockets.taking.Tried.TheVariants.{Nothing}
use Rattle.socket_wire.specs.Attempting.{Attempts, ComesOf, Drops, GivesNext, TriesNext, TriesReady}
use Rattle.ready_sockets.specs.Trying.{Dropped, Finds}

module _ {A : Type 0} where
  -- Giving the next socket noted as ready, or dropping a note, changes the notes alone.
  pub gives_next : (given : Option Origin) (before : SeenSockets A)
      (readiness : SeenReadiness A)
      → Finds 4 given before.readiness.turn readiness.turn before.readiness.ready readiness.ready
      → readiness ≡ record before.readiness { turn = readiness.turn; ready = readiness.ready }
      → GivesNext given before (record before { readiness = readiness })
  gives_next given before readiness finds rest =
      record {
        finds = finds;
        rest = ap (λ (r : SeenReadiness A). record before { readiness = r })
            rest;
      }

  pub drops_one : (origin : Origin) (before : SeenSockets A)
      (readiness : SeenReadiness A)
      → Dropped origin before.readiness.ready readiness.ready
      → readiness ≡ record before.readiness { ready = readiness.ready }
      → Drops origin before (record before { readiness = readiness })
  drops_one origin before readiness dropped rest =
      record {
        dropped = dropped;
        rest = ap
            (λ (r : SeenReadiness A). record before { readiness = r }) rest;
      }

  -- The attempts left after `tried` yield the result of all attempts.
  pub record ReadyAll (most tried now : ℕ) (begun ready : SeenSockets A) : Type 0
    where
      pub all : (result : Result (Option (Arrival A)) AllocError)
          (after : SeenSockets A)
          → TriesReady (most - tried) now result ready after → TriesReady most now result begun after

  pub ready_begun : (most now : ℕ) (begun : SeenSockets A)
      → ReadyAll most 0 now begun begun
  ready_begun most now begun =
      let all : most - 0 ≡ most = omega arith in
      record {
        all = λ result after tries. subst (λ n. TriesReady n now result begun after) all
            tries;
      }

  -- The next socket, tried.
  pub ready_next : (most tried now : ℕ) (result : Result (Option (Arrival A)) AllocError)
      (begun ready after : SeenSockets A) → tried < most
      → ReadyAll most tried now begun ready
      → TriesNext now result (λ left. TriesReady (most - (tried + 1)) now result left after) ready
      after
      → TriesReady most now result begun after
  unfolding TriesReady
  ready_next most tried now result begun ready after h so_far next =
      let left : suc (most - (tried + 1)) ≡ most - tried = omega arith in
      let with_next : TriesReady (suc (most - (tried + 1))) now result ready after = next in
      so_far.all result after (subst (λ n. TriesReady n now result ready after) left with_next)

  pub ready_none : (most tried now : ℕ) (begun ready after : SeenSockets A)
      → tried < most
      → ReadyAll most tried now begun ready → GivesNext None ready after
      → TriesReady most now (Ok None) begun after
  ready_none most tried now begun ready after h so_far gives =
      ready_next most tried now (Ok None) begun ready after h so_far
      (record { given = None; between = after; gives = gives; tries = (refl, refl) })

  pub ready_given : (most tried now : ℕ) (origin : Origin) (came : Result (Tried A) AllocError)
      (result : Result (Option (Arrival A)) AllocError)
      (begun ready between attempted after : SeenSockets A)
      → tried < most → ReadyAll most tried now begun ready → GivesNext (Some origin) ready between
      → Attempts origin now came between attempted
      → ComesOf came origin result (λ left. TriesReady (most - (tried + 1)) now result left after)
      attempted after
      → TriesReady most now result begun after
  ready_given most tried now origin came result begun ready between attempted after h so_far gives
      attempts comes =
      ready_next most tried now result begun ready after h so_far (record {
        given = Some origin;
        between = between;
        gives = gives;
        tries = record { tried = came; attempted = attempted; attempts = attempts; comes = comes };
      })

  -- If nothing was there, the next socket is tried.
  pub ready_more : (most tried now : ℕ) (origin : Origin)
      (begun ready between attempted left : SeenSockets A)
      → tried < most → ReadyAll most tried now begun ready → GivesNext (Some origin) ready between
      → Attempts origin now (Ok Nothing) between attempted → Drops origin attempted left
      → ReadyAll most (tried + 1) now begun left
  ready_more most tried now origin begun ready between attempted left h so_far gives attempts drops =
      record {
        all = λ result after tries.
            ready_given most tried now origin (Ok Nothing) result begun ready between attempted after h
            so_far gives attempts
            (record { left = left; drops = drops; later = tries });
      }

  pub ready_over : (most now : ℕ) (begun after : SeenSockets A)
      → ReadyAll most most now begun after
      → TriesReady most now (Ok None) begun after
  unfolding TriesReady
  ready_over most now begun after so_far =
      let left : 0 ≡ most - most = omega arith in
      let none : TriesReady 0 now (Ok None) after after = (refl, refl) in
      so_far.all (Ok None) after (subst (λ n. TriesReady n now (Ok None) after after) left none)
