use Rattle.std.proofs.Common.{◌≡◌, take}
use Rattle.std.specs.Prelude.{map}
use Rattle.std.specs.List.{flat_map}
use Rattle.step_table.specs.Clients.{fate_of}
use Rattle.reply_decisions.specs.Fates.{looked_on}
use Rattle.reply_decisions.proofs.fates.fates_of.Given as goal

abbrev pub invariant-loop-place : goal.invariant-loop-place
invariant-loop-place g l = record {
  each : l.fates.each ≡ map (λ x. fate_of l.start.config l.start.moment x (looked_on l.start l.lead.aliases.now l.lead.name.now x)) (take l.place l.waiting);
  used : l.fates.used ≡ flat_map (λ x. (looked_on l.start l.lead.aliases.now l.lead.name.now x).used) (take l.place l.waiting);
}
