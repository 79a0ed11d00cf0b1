use Rattle.record_cache.proofs.Keeping.{one_slot_is_the_same}
use Rattle.record_cache.proofs.laws.one_slot_is_the_same.Goals as goal

pub returns : goal.returns
returns c = one_slot_is_the_same
