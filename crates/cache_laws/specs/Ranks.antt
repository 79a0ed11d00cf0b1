-- The rank of a piece of a reply (RFC 2181 5.4.1).
use Rattle.std.specs.Prelude.{◌≡◌, ◌≢◌, ℕ, Bool, true, List}
use Rattle.std.specs.List.{AllByRecursion}
use Rattle.dns_name.specs.Labels.{IsSame}
use Rattle.dns_message.specs.Values.{Question, Message}
use Rattle.suffix_routes.specs.Values.{Config}
use Rattle.trust_rank.specs.Values.{Piece}
use Rattle.trust_rank.specs.Walks.{walk_of}

-- rank 3 exactly for a piece of the asked name itself in an authoritative reply, otherwise 1
pub record IsRanked (is_authoritative : Bool) (asked owner : List (List ℕ)) (rank : ℕ) : Type 0 where
  pub highest : is_authoritative ≡ true → IsSame owner asked → rank ≡ 3
  pub authoritative : rank ≡ 3 → is_authoritative ≡ true
  pub own : rank ≡ 3 → IsSame owner asked
  pub lowest : rank ≢ 3 → rank ≡ 1

-- Each piece on the walk has rank 3 exactly if AA is set and the piece is the asked name's,
-- otherwise 1; name servers next to the walk have rank 2.
abbrev pub RanksAreByAuthority : Type 0
RanksAreByAuthority = (c : Config) (m : Message) (q : Question) (route : ℕ)
    → AllByRecursion (λ (p : Piece). IsRanked m.header.aa q.name p.owner p.rank) (walk_of c m q route).pieces
    × AllByRecursion (λ (p : Piece). p.rank ≡ 2) (walk_of c m q route).authority
