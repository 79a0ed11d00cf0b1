use Rattle.std.proofs.lemmas.Result.{err_from_is_err_and}
use Rattle.serving_loop.proofs.Framing.{events_none}
use Rattle.serving_loop.proofs.looping.Loop.serve_piece.Goals as goal

pub returns-in_err-feed-clause-serves : goal.returns-in_err-feed-clause-serves
returns-in_err-feed-clause-serves g c = let p = err_from_is_err_and c.from_residual.result c.from_residual.ensures.1 in rw p.1 (events_none _ _ _)
