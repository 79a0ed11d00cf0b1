use Rattle.std.proofs.Common.{◌≡◌, ◌∙◌, ℕ, List, [], length, take, refl, sym, ap, subst, arith}
use Rattle.std.specs.Prelude.{map}
use Rattle.std.proofs.Math.Seq.{take-length}
use Rattle.suffix_routes.specs.Values.{Config}
use Rattle.step_values.specs.Values.{StepInput, Step}
use Rattle.step_table.specs.State.{Running}
use Rattle.step_table.specs.Row.{Row}
use Rattle.serving_loop.proofs.TheoremSound.CallerLemmas.{input_more}
use Rattle.serving_loop.specs.TheoremUse.Service.{ComesTo}
use Rattle.serving_loop.proofs.TheoremUse.CallerLemmas.{run_serves_truly, came_more}
use Rattle.network_model.proofs.run.run_list.Goals as goal

pub loop-entry-init : goal.loop-entry-init
loop-entry-init g c =
    let config : c.in_ok-forwarder.forwarder.config ≡ c.args.config.now = ap (λ (r : Running). r.config) c.in_ok-forwarder.ensures.new ∙ c.in_ok-own.ensures in
    record {
      config = config;
      input = ap (λ (steps : List Step). map (λ (s : Step). s.input) steps) c.new-steps.ensures.items;
      came = subst (λ (steps : List Step). ComesTo c.args.config.now steps c.in_ok-forwarder.forwarder.state)
          (sym c.new-steps.ensures.items)
          (subst (λ (k : Config). ComesTo k [] c.in_ok-forwarder.forwarder.state) config
          c.in_ok-forwarder.ensures.new_run);
    }

pub loop-entry-preserved : goal.loop-entry-preserved
loop-entry-preserved g c =
    let i = c.loop-entry.invariant in
    let same = c.entry.view_is in
    let row = subst (λ (h : StepInput). Row c.loop-entry.forwarder.config c.loop-entry.forwarder.state h c.in_ok-outcome.outcome c.step.new.self.state) same c.in_ok-outcome.ensures.row in
    record {
      config = c.in_ok-outcome.ensures.config ∙ i.config;
      input = input_more _ _ c.in_ok-entry.entry c.entry-item.result c.in_ok-outcome.outcome c.args.input.now c.loop-entry.entry-index c.in_ok-push.ensures.items i.input (omega arith) c.in_ok-entry.ensures c.entry-item.is;
      came = came_more c.args.config.now c.args.config.now _ _ c.loop-entry.forwarder.state _ c.in_ok-entry.entry
          c.in_ok-outcome.outcome refl c.in_ok-push.ensures.items i.came
          (subst (λ (k : Config). Row k c.loop-entry.forwarder.state c.in_ok-entry.entry c.in_ok-outcome.outcome
          c.step.new.self.state) i.config row);
    }

pub returns-clause-input : goal.returns-clause-input
returns-clause-input g c =
    let far = c.loop-entry.auto.entry-index-end in
    let test = c.loop-entry-test.false in
    c.loop-entry.invariant.input ∙ ap (λ (n : ℕ). take n c.args.input.now) (let all : c.loop-entry.entry-index ≡ length c.args.input.now = omega (arith, far, test) in all) ∙ take-length c.args.input.now

pub returns-clause-run : goal.returns-clause-run
returns-clause-run g c = (c.loop-entry.forwarder.state, c.loop-entry.invariant.came.run)

pub returns-clause-truly : goal.returns-clause-truly
returns-clause-truly g c =
    run_serves_truly c.args.config.now c.loop-entry.steps.items c.loop-entry.forwarder.state c.loop-entry.invariant.came
