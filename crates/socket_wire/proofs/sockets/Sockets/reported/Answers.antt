use Rattle.std.proofs.Common.{◌≡◌, rules, subst, ap, ◌∙◌}
use Rattle.std.specs.Prelude.{Ok, Err}
use Rattle.socket_wire.specs.Attempting.{TriesReady}
use Rattle.socket_wire.proofs.Looks.{given_is}
use Rattle.socket_wire.proofs.sockets.Sockets.reported.Goals as goal

pub returns-in_err-try_ready : goal.returns-in_err-try_ready
returns-in_err-try_ready g c =
    let came : c.try_ready.result ≡ Err c.in_err-try_ready.field-0.0 = search rules in
    let report : c.from_residual.result ≡ Err c.in_err-try_ready.field-0.0 = search rules in
    record {
      came = Err c.in_err-try_ready.field-0.0;
      tries = subst (λ came. TriesReady 64 c.args.now came c.args.self.now c.try_ready.new.self) came
          c.try_ready.ensures;
      gives = report;
    }

pub returns : goal.returns
returns g c =
    let came : c.try_ready.result ≡ Ok c.in_ok-try_ready.field-0 = search rules in
    record {
      came = Ok c.in_ok-try_ready.field-0;
      tries = subst (λ came. TriesReady 64 c.args.now came c.args.self.now c.try_ready.new.self) came
          c.try_ready.ensures;
      gives = ap Ok c.unwrap_or.ensures ∙ given_is c.in_ok-try_ready.field-0;
    }
