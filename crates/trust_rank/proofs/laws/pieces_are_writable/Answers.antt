use Rattle.trust_rank.proofs.Writing.{pieces_are_writable}
use Rattle.trust_rank.proofs.laws.pieces_are_writable.Goals as goal

pub returns : goal.returns
returns c = pieces_are_writable
