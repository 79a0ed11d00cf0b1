use Rattle.record_cache.proofs.Keeping.{promoted_are_found}
use Rattle.record_cache.proofs.laws.promotion_changes_no_look_up.Goals as goal

pub returns : goal.returns
returns c = promoted_are_found
