-- Replies with a denied name (RFC 2308 2.1, RFC 1034 3.6.2).
use Rattle.std.specs.Prelude.{◌≡◌, ◌≢◌, ℕ, zero, suc, ◌<◌, List, [], ◌∷◌, Some}
use Rattle.dns_message.specs.Values.{Question, Record, Message}
use Rattle.dns_message.specs.Data.{name_of_rdata}
use Rattle.suffix_routes.specs.Values.{Config}
use Rattle.suffix_routes.specs.Routes.{route_of}
use Rattle.trust_rank.specs.Values.{ends_denied, Reply, reply_of}
use Rattle.trust_rank.specs.Walks.{walk_of}
use Rattle.cache_laws.specs.Sets.{IsRecordFor, AreDataOf}

-- the question for this type at the name, in the asked class
abbrev pub question_at : Reply → ℕ → List (List ℕ) → Question
question_at r kind name = record { name = name; kind = kind; class = r.question.class }

-- the answer section has no record of this type at the name
abbrev pub LacksAt : Reply → ℕ → List (List ℕ) → Type 0
LacksAt r kind name = (s : Record) → IsRecordFor (question_at r kind name) r.answers s → ⊥

-- the answer section has no record of the asked type (not CNAME, 5) at the name, but one alias with
-- this target (RFC 1034 3.6.2)
pub record IsLoneAlias (r : Reply) (name target : List (List ℕ)) : Type 0 where
  pub other : r.question.kind ≢ 5
  pub no_set : LacksAt r r.question.kind name
  pub datum : List ℕ
  pub alone : AreDataOf (question_at r 5 name) r.answers (datum ∷ [])
  pub leads : name_of_rdata datum ≡ Some target

-- the answer section has neither the asked type nor an alias at the name
pub record HasNothingAt (r : Reply) (name : List (List ℕ)) : Type 0 where
  pub no_set : LacksAt r r.question.kind name
  pub no_alias : LacksAt r 5 name

-- the name is on the asked route, and has an alias alone
pub record IsAliasAt (r : Reply) (name target : List (List ℕ)) : Type 0 where
  pub on_route : route_of r.config.routes name ≡ Some r.route
  pub alias : IsLoneAlias r name target

-- this many aliases lead from one name to another
abbrev pub AliasesLead : Reply → ℕ → List (List ℕ) → List (List ℕ) → Type 0
AliasesLead r zero name last = name ≡ last
AliasesLead r (suc count) name last = (target : List (List ℕ)) × IsAliasAt r name target
    × AliasesLead r count target last

-- the name is on the asked route, RCODE is 3, and the answer section has neither the asked type nor
-- an alias
pub record IsDeniedAt (r : Reply) (name : List (List ℕ)) : Type 0 where
  pub on_route : route_of r.config.routes name ≡ Some r.route
  pub rcode : r.rcode ≡ 3
  pub nothing : HasNothingAt r name

-- fewer than eight aliases lead from the asked name to a denied name
pub record LeadsToDenied (r : Reply) : Type 0 where
  pub count : ℕ
  pub last : List (List ℕ)
  pub few : count < 8
  pub lead : AliasesLead r count r.question.name last
  pub denied : IsDeniedAt r last

-- The walk ends with a name error exactly if the aliases lead to a name with neither set nor alias,
-- and RCODE is 3.
pub record DeniesExactly : Type 0 where
  pub only : (c : Config) (m : Message) (q : Question) (route : ℕ) → (walk_of c m q route).end ≡ ends_denied
      → LeadsToDenied (reply_of c m q route)
  pub each : (c : Config) (m : Message) (q : Question) (route : ℕ) → LeadsToDenied (reply_of c m q route)
      → (walk_of c m q route).end ≡ ends_denied
