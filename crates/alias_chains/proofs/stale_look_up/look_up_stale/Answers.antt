use Rattle.std.proofs.Common.{◌∙◌, inl, inr, sym, ap, arith}
use Rattle.dns_name.specs.Labels.{labels_of}
use Rattle.negative_cache.specs.Values.{found_of}
use Rattle.alias_chains.proofs.StaleLookUps.{at_first, at_rows, at_full, at_no_target, at_local, at_no_data, at_denied, at_miss, on_alias, all_among}
use Rattle.alias_chains.proofs.stale_look_up.look_up_stale.Goals as goal

pub loop-held-init : goal.loop-held-init
loop-held-init g c =
    let at = c.args.at.now in
    let q = c.args.question.now in
    record {
      laid = c.name-rest.ensures.laid;
      way = rw (c.new-found.ensures.items, c.name-rest.ensures.labels) (at_first c.args.window at.moment at.cache.entries q.class q.kind c.args.most q.name);
    }

pub returns-in-Rows-clause-exact : goal.returns-in-Rows-clause-exact
returns-in-Rows-clause-exact g c =
    let at = c.args.at.now in
    let q = c.args.question.now in
    at_rows c.args.window at.moment at.cache.entries q.class q.kind c.args.most c.loop-held.found.items _ (labels_of c.loop-held.rest.now) _ c.in-Rows.held c.loop-held.invariant.way c.in-Rows.ensures c.in_ok-push-in-Rows.ensures.items

pub returns-in-Rows-clause-from_cache : goal.returns-in-Rows-clause-from_cache
returns-in-Rows-clause-from_cache g c =
    let at = c.args.at.now in
    let q = c.args.question.now in
    all_among c.args.window at.moment at.cache.entries q.class q.kind c.args.most c.loop-held.found.items _ (labels_of c.loop-held.rest.now) _ c.in-Rows.held c.loop-held.invariant.way c.in-Rows.ensures c.in_ok-push-in-Rows.ensures.items

pub returns-then-len-most-clause-exact : goal.returns-then-len-most-clause-exact
returns-then-len-most-clause-exact g c =
    let at = c.args.at.now in
    let q = c.args.question.now in
    at_full c.args.window at.moment at.cache.entries q.class q.kind c.args.most c.loop-held.found.items (labels_of c.loop-held.rest.now) _ c.in-Alias.held.now c.loop-held.invariant.way c.in-Alias.ensures (omega arith)

pub returns-in_default-clause-exact : goal.returns-in_default-clause-exact
returns-in_default-clause-exact g c =
    let at = c.args.at.now in
    let q = c.args.question.now in
    at_no_target c.args.window at.moment at.cache.entries q.class q.kind c.args.most c.loop-held.found.items (labels_of c.loop-held.rest.now) _ c.in-Alias.held.now c.loop-held.invariant.way c.in-Alias.ensures c.in_default.ensures

pub loop-held-preserved : goal.loop-held-preserved
loop-held-preserved g c =
    let at = c.args.at.now in
    let q = c.args.question.now in
    record {
      laid = c.in-Some.ensures.0;
      way = on_alias c.args.window at.moment at.cache.entries q.class q.kind c.args.most c.loop-held.found.items _ (labels_of c.loop-held.rest.now) (labels_of c.in-Some.target.now) _ c.in-Alias.held c.loop-held.invariant.way c.in-Alias.ensures (λ full. omega (arith, full)) c.in-Some.ensures.1 c.in_ok-push-in-Alias.ensures.items;
    }

pub returns-in-Local : goal.returns-in-Local
returns-in-Local g c =
    let at = c.args.at.now in
    let q = c.args.question.now in
    record {
      exact = elim c.in-Local.is [
        | inl is ↦ at_local c.args.window at.moment at.cache.entries q.class q.kind c.args.most c.loop-held.found.items (labels_of c.loop-held.rest.now) _ c.loop-held.invariant.way (sym (ap found_of is) ∙ c.stale_at.ensures)
        | inr others ↦ elim others [
          | inl (held, is) ↦ at_no_data c.args.window at.moment at.cache.entries q.class q.kind c.args.most c.loop-held.found.items (labels_of c.loop-held.rest.now) _ held.now c.loop-held.invariant.way (sym (ap found_of is) ∙ c.stale_at.ensures)
          | inr more ↦ elim more [
            | inl (held, is) ↦ at_denied c.args.window at.moment at.cache.entries q.class q.kind c.args.most c.loop-held.found.items (labels_of c.loop-held.rest.now) _ held.now c.loop-held.invariant.way (sym (ap found_of is) ∙ c.stale_at.ensures)
            | inr is ↦ at_miss c.args.window at.moment at.cache.entries q.class q.kind c.args.most c.loop-held.found.items (labels_of c.loop-held.rest.now) _ c.loop-held.invariant.way (sym (ap found_of is) ∙ c.stale_at.ensures)
          ]
        ]
      ];
      from_cache = tt;
    }
