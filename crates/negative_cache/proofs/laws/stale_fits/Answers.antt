use Rattle.negative_cache.proofs.StaleLookUps.{stale_fits}
use Rattle.negative_cache.proofs.laws.stale_fits.Goals as goal

pub returns : goal.returns
returns c = stale_fits
