use Rattle.std.proofs.Common.{rules}
use Rattle.trust_rank.proofs.piece.Piece.copy.Goals as goal

pub returns : goal.returns
returns g c = search rules
