use Rattle.negative_cache.proofs.Fitting.{found_fits}
use Rattle.negative_cache.proofs.laws.found_fits.Goals as goal

pub returns : goal.returns
returns c = found_fits
