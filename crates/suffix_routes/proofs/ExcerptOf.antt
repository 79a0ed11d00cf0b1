-- The excerpt of a text.
use Rattle.std.proofs.Common.{◌≡◌, ℕ, suc, ◌+◌, ◌-◌, ◌<◌, ◌≤◌, List, [], ◌∷◌, ◌++◌, length, take, replicate, get_or, set, refl, sym, ◌∙◌, append_assoc, arith}
use Rattle.std.proofs.lemmas.List.{take_at, length-take, take_more, set_at}
use Rattle.suffix_routes.specs.Excerpts.{padded, IsExcerpt}

pub front_is : (octets : List ℕ) → take (length octets) (padded octets) ≡ octets
front_is octets = take_at octets (replicate (64 - length octets) 0) (length octets) (omega arith)

pub is_excerpt : (octets : List ℕ) → length octets ≤ 64 → IsExcerpt (padded octets) (length octets)
is_excerpt octets le = record {
  short = le;
  zeros = rw (front_is octets) refl;
}

-- one more octet, in place of a zero
pub copy_more : (octets : List ℕ) (i : ℕ) → i < length octets → length octets ≤ 64
    → set (take i octets ++ replicate (64 - i) 0) i (get_or octets i 0) ≡ take (i + 1) octets ++ replicate (64 - (i + 1)) 0
copy_more octets i lt le =
    let one : 64 - i ≡ suc (64 - (i + 1)) = omega arith in
    let front : length (take i octets) ≡ i = omega (arith, length-take i octets) in
    rw (one, take_more octets i 0 lt) (set_at (take i octets) 0 (replicate (64 - (i + 1)) 0) (get_or octets i 0) i front ∙ sym (append_assoc (take i octets) (get_or octets i 0 ∷ []) (replicate (64 - (i + 1)) 0)))
