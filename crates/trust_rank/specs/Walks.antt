-- The walk of a reply, from the asked name along its aliases: RFC 1034 3.6.2 and 5.3.3, RFC 2181
-- 5.4.1 and 10.1, RFC 2308 2.
use Rattle.std.specs.Prelude.{ℕ, zero, suc, Bool, true, false, not, if◌then◌else◌, ◌==◌, ◌&&◌, nat_lt, List, [], ◌∷◌}
use Rattle.std.specs.Prelude.{◌++◌, length, Option, Some, None, is_none}
use Rattle.std.specs.List.{list_any}
use Rattle.dns_message.specs.DnsName.Labels.{same, is_under}
use Rattle.dns_message.specs.Values.{Question, Record, Message}
use Rattle.dns_message.specs.Data.{name_of_rdata}
use Rattle.suffix_routes.specs.Values.{Config}
use Rattle.suffix_routes.specs.Routes.{route_of}
use Rattle.trust_rank.specs.declared.reply.AtName.{AtName as OwnedAtName}
use Rattle.trust_rank.specs.declared.reply.AtName.TheVariants as owned
use Rattle.trust_rank.specs.Values.{Body, rows, no_data, denied, Piece, End, found, ends_no_data, ends_denied}
use Rattle.trust_rank.specs.Values.{elsewhere, lame, Walk, Reply, reply_of}
use Rattle.trust_rank.specs.Sets.{records_for, set_of, set_with}
use Rattle.trust_rank.specs.Denials.{soa_for, no_data_with, name_error_with}

-- ---- one name of the walk

-- The finding of a reply at a name: nothing that counts, so the name has to be asked for; the asked
-- set; a denial of the type or of the name; an alias, with its target; or a reason for which the
-- whole reply is lame.
pub data AtName : Type 0 where
  met_nothing : AtName
  met_set : Piece → AtName
  met_no_data : Piece → AtName
  met_name_error : Piece → AtName
  met_alias : Piece → List (List ℕ) → AtName
  met_lame : AtName

-- the place is this route's
abbrev pub is_place : Option ℕ → ℕ → Bool
is_place None route = false
is_place (Some place) route = place == route

-- the name is on the asked route
abbrev pub is_on_route : Reply → List (List ℕ) → Bool
is_on_route r name = is_place (route_of r.config.routes name) r.route

-- the asked name's own server is believed most about this name (RFC 2181 5.4.1)
abbrev pub rank_at : Reply → List (List ℕ) → ℕ
rank_at r name = if r.is_authoritative && same name r.question.name then 3 else 1

-- the question for this type at this name
abbrev pub at_name : Reply → ℕ → List (List ℕ) → Question
at_name r kind name = record { name = name; kind = kind; class = r.question.class }

-- the set of this type in the answer section, at the name
abbrev pub answer_set : Reply → ℕ → List (List ℕ) → Option Piece
answer_set r kind name = set_of (rank_at r name) r.route (records_for (at_name r kind name) r.answers)

-- the CNAME set at the name; a question for CNAME follows none (RFC 1034 3.6.2)
abbrev pub alias_set : Reply → List (List ℕ) → Option Piece
alias_set r name = if r.question.kind == 5 then None else answer_set r 5 name

-- a set has more than one record
abbrev pub has_many : Body → Bool
has_many (rows each) = nat_lt 1 (length each)
has_many (no_data soa) = false
has_many (denied soa) = false

-- the target of an alias's only record
abbrev pub target_of : Body → Option (List (List ℕ))
target_of (rows []) = None
target_of (rows (octets ∷ [])) = name_of_rdata octets
target_of (rows (octets ∷ other ∷ more)) = None
target_of (no_data soa) = None
target_of (denied soa) = None

-- the record is of type NS (RFC 1035 3.3.11)
abbrev pub is_name_server : Record → Bool
is_name_server s = s.kind == 2

-- the authority section has name servers and the reply is not authoritative: different servers are
-- to be asked (RFC 2308 2.2)
abbrev pub is_referral : Reply → Bool
is_referral r = not r.is_authoritative && list_any is_name_server r.authority

-- the name error of a reply for a name (RFC 2308 2.1)
abbrev pub name_error_at : Reply → List (List ℕ) → Piece
name_error_at r name = name_error_with (rank_at r name) r.route name r.question.class
    (soa_for name r.question.class r.authority)

-- the NODATA of a reply for a name (RFC 2308 2.2)
abbrev pub no_data_at : Reply → List (List ℕ) → Piece
no_data_at r name = no_data_with (rank_at r name) r.route name r.question.class r.question.kind
    (soa_for name r.question.class r.authority)

-- the finding at a name, first of the walk or not, with neither the asked set nor an alias: a name
-- error by the response code; after an alias without SOA the name has to be asked for; a referral
-- without SOA is lame; otherwise NODATA
abbrev pub denial_met : Reply → Bool → List (List ℕ) → Bool → AtName
denial_met r is_first name lacks_soa =
    if r.rcode == 3 then met_name_error (name_error_at r name)
    else (if lacks_soa && not is_first then met_nothing
    else (if lacks_soa && is_referral r then met_lame
    else met_no_data (no_data_at r name)))

-- the finding of a reply without a set or alias at this name
abbrev pub denial_at : Reply → Bool → List (List ℕ) → AtName
denial_at r is_first name = denial_met r is_first name (is_none (soa_for name r.question.class r.authority))

-- a CNAME set of more than one record is lame (RFC 2181 10.1)
abbrev pub leads : Piece → Option (List (List ℕ)) → AtName
leads p None = met_lame
leads p (Some target) = met_alias p target

-- the alias, if any, otherwise the finding
abbrev pub alias_or : Option Piece → AtName → AtName
alias_or None other = other
alias_or (Some p) other = leads p (target_of p.body)

-- the set at a name; an alias set of more than one record is lame (RFC 2181 10.1)
abbrev pub set_met : ℕ → Piece → AtName
set_met kind p = if (kind == 5) && has_many p.body then met_lame else met_set p

-- the set, if any, otherwise the finding
abbrev pub set_or : ℕ → Option Piece → AtName → AtName
set_or kind None other = other
set_or kind (Some p) other = set_met kind p

-- the finding at a name, first in this order
abbrev pub met_at : Reply → Bool → List (List ℕ) → AtName
met_at r is_first name =
    if is_on_route r name
    then set_or r.question.kind (answer_set r r.question.kind name)
    (alias_or (alias_set r name) (denial_at r is_first name))
    else met_nothing

-- the code's finding at a name, as a plain value
abbrev pub met_of : {A : Type 0} → OwnedAtName A → AtName
met_of owned.Nothing = met_nothing
met_of (owned.Set p) = met_set p
met_of (owned.NoData p) = met_no_data p
met_of (owned.NameError p) = met_name_error p
met_of (owned.Alias p target) = met_alias p target
met_of owned.Lame = met_lame

-- ---- the walk

-- the most aliases of a walk, a bound of this project
abbrev pub most_aliases : ℕ
most_aliases = 8

-- a walk that ends here, without name servers
abbrev pub ending : List Piece → End → Walk
ending pieces end = record { pieces = pieces; authority = []; end = end }

-- a lame reply carries nothing
abbrev pub lame_walk : Walk
lame_walk = ending [] lame

-- the walk ends lame
abbrev pub is_lame : End → Bool
is_lame lame = true
is_lame found = false
is_lame ends_no_data = false
is_lame ends_denied = false
is_lame (elsewhere name) = false

-- an alias, and the walk from its target
abbrev pub with_alias : Piece → Walk → Walk
with_alias alias w = if is_lame w.end then lame_walk else record {
  pieces = alias ∷ w.pieces;
  authority = w.authority;
  end = w.end;
}

-- the walk after the finding at a name
abbrev pub go_on : (List (List ℕ) → Walk) → List (List ℕ) → AtName → Walk
go_on rest name met_nothing = ending [] (elsewhere name)
go_on rest name (met_set p) = ending (p ∷ []) found
go_on rest name (met_no_data p) = ending (p ∷ []) ends_no_data
go_on rest name (met_name_error p) = ending (p ∷ []) ends_denied
go_on rest name (met_alias p target) = with_alias p (rest target)
go_on rest name met_lame = lame_walk

-- the walk from a name on, first or not, with at most `most` aliases
unfoldable pub walk_from : Reply → ℕ → Bool → List (List ℕ) → Walk
walk_from r zero is_first name = ending [] (elsewhere name)
walk_from r (suc left) is_first name = go_on (λ target. walk_from r left false target) name (met_at r is_first name)

-- ---- the name servers of the authority section

-- an NS record of the question's class, whose owner is at or above the asked name and on the route
abbrev pub is_server_for : Reply → Record → Bool
is_server_for r s = is_name_server s && (s.class == r.question.class) && is_under r.question.name s.owner
    && is_on_route r s.owner

-- a piece has this owner
abbrev pub has_owner : List (List ℕ) → Piece → Bool
has_owner name p = same p.owner name

-- the NS set that begins with this record
abbrev pub servers_with : Reply → Record → List Record → Piece
servers_with r first others = set_with 2 r.route first (records_for
    (record { name = first.owner; kind = first.kind; class = first.class }) others)

-- the record fits, and its owner has no piece yet
abbrev pub begins_set : Reply → List Piece → Record → Bool
begins_set r carried first = is_server_for r first && not (list_any (has_owner first.owner) carried)

-- the NS set of the first record, if the record begins a set
abbrev pub servers_at : Reply → List Piece → Record → List Record → List Piece
servers_at r carried first others = if begins_set r carried first then servers_with r first others ∷ [] else []

-- all such sets, in the order of the section
unfoldable pub servers_from : Reply → List Piece → List Record → List Piece
servers_from r carried [] = []
servers_from r carried (s ∷ records) =
    servers_at r carried s records ++ servers_from r (carried ++ servers_at r carried s records) records

-- the reply is authoritative and not lame
abbrev pub carries_servers : Reply → End → Bool
carries_servers r end = r.is_authoritative && not (is_lame end)

-- the walk with the name servers of the authority section, if the reply carries them
abbrev pub with_servers : Reply → Walk → Walk
with_servers r w =
    if carries_servers r w.end
    then record { pieces = w.pieces; authority = servers_from r w.pieces r.authority; end = w.end }
    else w

-- a message's walk, as the reply to a question asked on this route
abbrev pub walk_of : Config → Message → Question → ℕ → Walk
walk_of c m q route = with_servers (reply_of c m q route) (walk_from (reply_of c m q route) most_aliases true q.name)

-- a walk with this end has a last piece, which ends the look-up
abbrev pub has_last : End → Bool
has_last found = true
has_last ends_no_data = true
has_last ends_denied = true
has_last (elsewhere name) = false
has_last lame = false
