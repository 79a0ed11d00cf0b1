use Rattle.std.proofs.lemmas.Bool.{false≢true}
use Rattle.std.proofs.lemmas.Result.{err_from_is_err_and}
use Rattle.std.proofs.Common.{◌∙◌, ◌≤◌, ℕ, ap, refl, sym, subst}
use Rattle.std.specs.List.{AllByRecursion}
use Rattle.suffix_routes.specs.Values.{Config}
use Rattle.step_table.specs.AliasChains.Offering.{pieces_of}
use Rattle.step_values.specs.Values.{event_of}
use Rattle.step_table.specs.Row.{TakesNoMemory, effective, is_due_at}
use Rattle.step_table.specs.State.{Running, StepStart, start}
use Rattle.client_decisions.specs.StepActions.Decision.{changed, FitsChange, IsDecided, IsRouted}
use Rattle.client_decisions.specs.StepActions.Putting.{state_of}
use Rattle.client_decisions.proofs.StepActions.CallerLemmas.{kept_put}
use Rattle.forwarder_core.proofs.CarryingOut.{carried_out, fits_at, quiet_at, row_is}
use Rattle.forwarder_core.proofs.forwarder.Forwarder.act_on.Goals as goal

pub put-requires : goal.put-requires
put-requires g c = record {
  config = c.self.inside.config;
  kept = c.self.invariant;
  later = subst (λ (r : Running). r.state.moment ≤ c.effective-moment.result) (sym c.self.view_is) c.effective-moment.ensures.later;
  in_time = c.effective-moment.ensures.in_time;
  fits = subst (λ (r : Running). FitsChange r.config c.effective-moment.result r.state c.in-Some.field-0.change) (sym c.self.view_is)
      (fits_at c.start.result c.args.self.now.config c.effective-moment.result (effective c.args.now c.args.self.now.state) c.args.words c.args.self.now.state c.in_ok-actions.field-0 c.in-Some.field-0 c.start.ensures c.effective-moment.ensures.value c.in-Some.is c.in_ok-actions.ensures.fits).fits;
}

pub invariant_of-self : goal.invariant_of-self
invariant_of-self g c =
    kept_put c.self.inside.config c.effective-moment.result c.self.inside.kept c.put.new.self c.in-Some.field-0.change _ c.self.invariant
    (subst (λ (r : Running). r.state.moment ≤ c.effective-moment.result) (sym c.self.view_is) c.effective-moment.ensures.later) c.effective-moment.ensures.in_time
    (subst (λ (r : Running). FitsChange r.config c.effective-moment.result r.state c.in-Some.field-0.change) (sym c.self.view_is)
    (fits_at c.start.result c.args.self.now.config c.effective-moment.result (effective c.args.now c.args.self.now.state) c.args.words c.args.self.now.state c.in_ok-actions.field-0 c.in-Some.field-0 c.start.ensures c.effective-moment.ensures.value c.in-Some.is c.in_ok-actions.ensures.fits).fits) c.in_err-put.ensures

pub invariant_of-self-2 : goal.invariant_of-self-2
invariant_of-self-2 g c =
    kept_put c.self.inside.config c.effective-moment.result c.self.inside.kept c.put.new.self c.in-Some.field-0.change _ c.self.invariant
    (subst (λ (r : Running). r.state.moment ≤ c.effective-moment.result) (sym c.self.view_is) c.effective-moment.ensures.later) c.effective-moment.ensures.in_time
    (subst (λ (r : Running). FitsChange r.config c.effective-moment.result r.state c.in-Some.field-0.change) (sym c.self.view_is)
    (fits_at c.start.result c.args.self.now.config c.effective-moment.result (effective c.args.now c.args.self.now.state) c.args.words c.args.self.now.state c.in_ok-actions.field-0 c.in-Some.field-0 c.start.ensures c.effective-moment.ensures.value c.in-Some.is c.in_ok-actions.ensures.fits).fits) c.in_ok-put.ensures

pub keep-unkept-requires : goal.keep-unkept-requires
keep-unkept-requires g c =
    let fits = fits_at c.start.result c.args.self.now.config c.effective-moment.result (effective c.args.now c.args.self.now.state) c.args.words c.args.self.now.state c.in_ok-actions.field-0 c.in-Some.field-0 c.start.ensures c.effective-moment.ensures.value c.in-Some.is c.in_ok-actions.ensures.fits in
    record {
      few = fits.few;
      routed = subst (λ (r : Running). AllByRecursion (IsRouted r.config) (pieces_of c.in-Some.field-0.carried.items)) (sym c.self.view_is) fits.routed;
    }

pub returns-in_err-put : goal.returns-in_err-put
returns-in_err-put g c =
    let failed = err_from_is_err_and c.from_residual-in_err-put.result c.from_residual-in_err-put.ensures.1 in
    record {
      row = rw failed.1 tt;
      config = ap (λ (r : Running). r.config) c.self.view_is;
      no_memory = λ none.
          absurd (false≢true (c.in_err-put.ensures.quiet (quiet_at c.in_ok-actions.field-0 c.in-Some.field-0 c.in-Some.is
          (c.in_ok-actions.ensures.no_memory
          (subst (λ (t : StepStart). TakesNoMemory t.config t.moment t.state (event_of c.args.event.now))
          (sym c.start.ensures) none))).1));
      err = rw failed.1 ((λ i. record { config = c.self.inside.config; state = c.in_err-put.ensures.err i }) ∙ c.self.view_is);
    }

pub returns : goal.returns
returns g c =
    let decided : IsDecided (start c.args.self.now.config c.effective-moment.result c.args.words c.args.self.now.state)
    (event_of c.args.event.now) c.in_ok-actions.field-0 =
    subst (λ (t : StepStart). IsDecided t (event_of c.args.event.now) c.in_ok-actions.field-0)
    (c.start.ensures ∙ ap (λ (m : ℕ). start c.args.self.now.config m c.args.words c.args.self.now.state)
    (sym c.effective-moment.ensures.value))
    c.in_ok-actions.ensures.row in
    record {
      row = row_is c.args.self.now.config c.args.self.now.state _ c.args.now c.effective-moment.result
          c.args.words (event_of c.args.event.now) _ c.in-Some.field-0 _ c.effective-moment.ensures.value
          c.in_ok-actions.ensures.octets decided c.in-Some.is (
            c.keep-unkept.ensures.0,
            record {
              done = carried_out c.effective-moment.result c.keep-unkept.ensures.0 c.args.self.now.state c.in-Some.field-0 (state_of c.put.new.self) c.keep-unkept.new.self.state c.keep-unkept.result
                  (c.in_ok-put.ensures.ok ∙ ap (λ (r : Running). changed c.effective-moment.result r.state c.in-Some.field-0.change) c.self.view_is)
                  (ap (λ (r : Running). r.state) c.keep-unkept.ensures.1) c.keep-unkept.ensures.2;
              more = c.is_due-more.ensures ∙ ap (λ (k : Config). is_due_at k c.keep-unkept.new.self.state.moment c.keep-unkept.new.self.state) (ap (λ (r : Running). r.config) c.keep-unkept.ensures.1 ∙ ap (λ (r : Running). r.config) c.self.view_is);
            },
          );
      config = ap (λ (r : Running). r.config) c.keep-unkept.ensures.1 ∙ ap (λ (r : Running). r.config) c.self.view_is;
      no_memory = λ none. refl;
      err = tt;
    }
