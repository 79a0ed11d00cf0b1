use Rattle.std.proofs.Common.{◌≡◌, take}
use Rattle.std.specs.Prelude.{map}
use Rattle.serving_loop.specs.TheoremUse.Service.{ComesTo}
use Rattle.network_model.proofs.run.run_list.Given as goal

abbrev pub invariant-loop-entry : goal.invariant-loop-entry
invariant-loop-entry g l = record {
  config : l.forwarder.config ≡ l.fn.config;
  input : map (λ s. s.input) l.steps.items ≡ take l.entry-index l.input;
  came : ComesTo l.fn.config l.steps.items l.forwarder.state;
}
