use Rattle.std.proofs.Common.{suc, ◌-◌, length}
use Rattle.dns_name.specs.Labels.{labels_of, IsLaidOut}
use Rattle.alias_chains.specs.StaleLookUps.{look_up_stale}
use Rattle.alias_chains.proofs.StaleLookUps.{IsOnStale}
use Rattle.alias_chains.proofs.stale_look_up.look_up_stale.Given as goal

abbrev pub invariant-loop-held : goal.invariant-loop-held
invariant-loop-held g l = record {
  laid : IsLaidOut l.rest;
  way : IsOnStale l.window l.at.moment l.at.cache.entries l.question.class l.question.kind l.most l.found.items (labels_of l.rest)
      (look_up_stale l.window l.at.moment l.at.cache.entries l.most l.question);
}

abbrev pub decreases-loop-held : goal.decreases-loop-held
decreases-loop-held g l = suc l.most - length l.found.items
