-- A client that has waited for nothing for a second, or a millisecond less, or that waits for a
-- reply.
use Rattle.std.proofs.Common.{◌≡◌, refl, [], true, false}
use Rattle.stream_connections.specs.Waiting.{is_resting}

pub rests : is_resting 0 [] 1000 2000 ≡ true
rests = refl

pub rests_too_short : is_resting 0 [] 1001 2000 ≡ false
rests_too_short = refl

pub rests_not : is_resting 1 [] 1000 2000 ≡ false
rests_not = refl
