use Rattle.cache_laws.proofs.Sets.{top_bit_is_none}
use Rattle.cache_laws.proofs.replies.top_bit_is_none.Goals as goal

pub returns : goal.returns
returns c = top_bit_is_none
