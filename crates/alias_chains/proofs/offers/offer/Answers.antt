use Rattle.std.proofs.Common.{rules}
use Rattle.alias_chains.proofs.offers.offer.Goals as goal

pub returns-in-Unkept : goal.returns-in-Unkept
returns-in-Unkept g c = search rules
