-- Replies without data, replies whose aliases lead on, and referrals (RFC 2308 2.2).
use Rattle.std.specs.Prelude.{◌≡◌, ◌≢◌, ◌⊎◌, ℕ, suc, ◌<◌, false, List, Some}
use Rattle.dns_message.specs.Values.{Question, Record, Message}
use Rattle.suffix_routes.specs.Values.{Config}
use Rattle.suffix_routes.specs.Routes.{route_of}
use Rattle.trust_rank.specs.Values.{ends_no_data, elsewhere, lame, Reply, reply_of}
use Rattle.trust_rank.specs.Walks.{walk_of}
use Rattle.cache_laws.specs.Lists.{IsOneOf}
use Rattle.cache_laws.specs.Denials.{HasNothingAt, AliasesLead}
use Rattle.cache_laws.specs.Lifetimes.{IsSoaFor}

-- the name is on the asked route, the answer section has neither the asked type nor an alias, and
-- RCODE is not 3
pub record IsBareAt (r : Reply) (name : List (List ℕ)) : Type 0 where
  pub on_route : route_of r.config.routes name ≡ Some r.route
  pub other : r.rcode ≢ 3
  pub nothing : HasNothingAt r name

-- `count` aliases, fewer than eight, lead from the asked name to such a name
pub record LeadsToBare (r : Reply) (count : ℕ) (last : List (List ℕ)) : Type 0 where
  pub few : count < 8
  pub lead : AliasesLead r count r.question.name last
  pub bare : IsBareAt r last

-- the authority section has an SOA for the name
pub record HasSoaFor (r : Reply) (name : List (List ℕ)) : Type 0 where
  pub s : Record
  pub there : IsOneOf s r.authority
  pub fits : IsSoaFor r.question.class name s

-- further servers are to be asked: AA is clear, and the authority section has name servers (RFC
-- 2308 2.2)
pub record IsReferral (r : Reply) : Type 0 where
  pub clear : r.is_authoritative ≡ false
  pub s : Record
  pub there : IsOneOf s r.authority
  pub kind : s.kind ≡ 2

-- there is an SOA for the name; otherwise the name is the asked name, and the reply is no referral
pub record LeadsToNoData (r : Reply) : Type 0 where
  pub count : ℕ
  pub last : List (List ℕ)
  pub leads : LeadsToBare r count last
  pub stated : HasSoaFor r last ⊎ ((count ≡ 0) × (IsReferral r → ⊥))

-- The walk ends with NODATA exactly in this case.
pub record NoDataExactly : Type 0 where
  pub only : (c : Config) (m : Message) (q : Question) (route : ℕ) → (walk_of c m q route).end ≡ ends_no_data
      → LeadsToNoData (reply_of c m q route)
  pub each : (c : Config) (m : Message) (q : Question) (route : ℕ) → LeadsToNoData (reply_of c m q route)
      → (walk_of c m q route).end ≡ ends_no_data

-- After one alias or more, without an SOA, the aliases' target has to be asked for.
abbrev pub AliasesAloneLeadOn : Type 0
AliasesAloneLeadOn = (c : Config) (m : Message) (q : Question) (route count : ℕ) (last : List (List ℕ))
    → LeadsToBare (reply_of c m q route) (suc count) last → (HasSoaFor (reply_of c m q route) last → ⊥)
    → (walk_of c m q route).end ≡ elsewhere last

-- A referral for the asked name itself, with no SOA, is lame.
abbrev pub ReferralsAreLame : Type 0
ReferralsAreLame = (c : Config) (m : Message) (q : Question) (route : ℕ) → IsBareAt (reply_of c m q route) q.name
    → (HasSoaFor (reply_of c m q route) q.name → ⊥) → IsReferral (reply_of c m q route)
    → (walk_of c m q route).end ≡ lame
