use Rattle.suffix_routes.proofs.RouteLaws.{BestBelow}
use Rattle.suffix_routes.proofs.config.longest.Given as goal

abbrev pub invariant-loop-place : goal.invariant-loop-place
invariant-loop-place g l = BestBelow l.routes l.key l.place l.found l.size
