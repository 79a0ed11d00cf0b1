use Rattle.std.proofs.Common.{rules}
use Rattle.trust_rank.proofs.piece.Piece.slot.Goals as goal

pub returns-clause-slot : goal.returns-clause-slot
returns-clause-slot g c = search rules
