-- The octets of an excerpt.
use Rattle.std.proofs.Common.{◌≡◌, ℕ, ◌+◌, ◌-◌, List, length, take, replicate, sym, ap, ◌∙◌, arith}
use Rattle.std.proofs.lemmas.List.{length-append, length-take, length-replicate}
use Rattle.suffix_routes.specs.Excerpts.{kept_octets, kept_len, IsExcerpt}

-- an excerpt is its text, filled up with zeros
pub octets_back : (octets : List ℕ) (len : ℕ) → IsExcerpt octets len → kept_octets (take len octets) ≡ octets
unfolding kept_octets
octets_back octets len is = is.zeros

-- an excerpt has the length of its text
pub len_back : (octets : List ℕ) (len : ℕ) → IsExcerpt octets len → kept_len (take len octets) ≡ len
unfolding kept_len
len_back octets len is =
    let text : List ℕ = take len octets in
    let whole : length text + (64 - length text) ≡ length octets =
    sym (length-append text (replicate (64 - length text) 0)
    ∙ ap (λ (n : ℕ). length text + n) (length-replicate (64 - length text) 0)) ∙ ap length is.zeros in
    omega (arith, whole, length-take len octets, is.short)
