use Rattle.cache_laws.proofs.LookUps.{look_ups_find_in_order}
use Rattle.cache_laws.proofs.entries.look_ups_find_in_order.Goals as goal

pub returns : goal.returns
returns c = look_ups_find_in_order
