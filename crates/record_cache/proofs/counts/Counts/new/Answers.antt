use Rattle.std.proofs.Common.{◌≡◌, ℕ, zero, suc, replicate, get_or, refl}
use Rattle.record_cache.proofs.counts.Counts.new.Goals as goal

zeros : (n d : ℕ) → get_or {A = ℕ} (replicate n 0) d 0 ≡ 0
zeros zero d = refl
zeros (suc n) zero = refl
zeros (suc n) (suc d) = zeros n d

pub returns : goal.returns
returns c = zeros 256
