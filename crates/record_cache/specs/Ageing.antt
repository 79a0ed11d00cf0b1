-- How an entry ages.
use Rattle.std.specs.Prelude.{ℕ, ◌+◌, ◌-◌, ◌*◌, ◌/◌, Bool, nat_lt}
use Rattle.record_cache.specs.Values.{Held}

-- the moment of expiry, in ms: the lifetime after acceptance (RFC 1035 3.2.1)
abbrev pub end_of : Held → ℕ
end_of h = h.accepted + 1000 * h.piece.lifetime

-- not expired at this moment (ms)
abbrev pub is_alive : ℕ → Held → Bool
is_alive moment h = nat_lt moment (end_of h)

-- the whole seconds left
abbrev pub seconds_left : ℕ → Held → ℕ
seconds_left moment h = (end_of h - moment) / 1000
