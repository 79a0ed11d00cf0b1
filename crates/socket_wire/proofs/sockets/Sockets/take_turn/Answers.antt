use Rattle.std.proofs.Common.{◌≡◌, refl, rules, subst, Some, None}
use Rattle.std.specs.Prelude.{Ok, Err}
use Rattle.socket_wire.specs.Attempting.{TriesReady}
use Rattle.socket_wire.proofs.sockets.Sockets.take_turn.Goals as goal

pub returns-in_err-arrival : goal.returns-in_err-arrival
returns-in_err-arrival g c =
    let came : c.try_ready.result ≡ Err c.in_err-arrival.field-0.0 = search rules in
    let report : c.from_residual.result ≡ Err c.in_err-arrival.field-0.0 = search rules in
    record {
      came = Err c.in_err-arrival.field-0.0;
      looked = c.look.new.self;
      attempted = c.try_ready.new.self;
      looks = c.look.ensures;
      tries = subst (λ came. TriesReady 64 c.args.now came c.look.new.self c.try_ready.new.self) came
          c.try_ready.ensures;
      ends = (report, refl);
    }

pub returns-in-Some : goal.returns-in-Some
returns-in-Some g c =
    let came : c.try_ready.result ≡ Ok (Some c.in-Some.arrival) = search rules in
    record {
      came = Ok (Some c.in-Some.arrival);
      looked = c.look.new.self;
      attempted = c.try_ready.new.self;
      looks = c.look.ensures;
      tries = subst (λ came. TriesReady 64 c.args.now came c.look.new.self c.try_ready.new.self) came
          c.try_ready.ensures;
      ends = (refl, refl);
    }

pub returns-in-None : goal.returns-in-None
returns-in-None g c =
    let came : c.try_ready.result ≡ Ok None = search rules in
    record {
      came = Ok None;
      looked = c.look.new.self;
      attempted = c.try_ready.new.self;
      looks = c.look.ensures;
      tries = subst (λ came. TriesReady 64 c.args.now came c.look.new.self c.try_ready.new.self) came
          c.try_ready.ensures;
      ends = (refl, c.end_turn.ensures);
    }
