-- The pieces of a reply can be written if the reply can.
use Rattle.std.proofs.Common.{◌≡◌, ℕ, zero, suc, Bool, true, false, cond, List, [], ◌∷◌, ◌++◌, Option, Some, None, refl, sym, subst}
use Rattle.std.specs.Prelude.{filter, ◌==◌, ◌&&◌, not, is_none}
use Rattle.std.specs.List.{find, AllByRecursion}
use Rattle.std.specs.Option.{IfSome}
use Rattle.std.proofs.lemmas.Bool.{cond_both}
use Rattle.dns_message.specs.DnsName.Labels.{IsName}
use Rattle.dns_message.specs.Values.{Record}
use Rattle.dns_message.specs.Written.{IsQuestion, IsRecord}
use Rattle.dns_message.proofs.CallerLemmas.{data_that_is_a_name}
use Rattle.trust_rank.specs.Values.{Body, rows, no_data, denied, Piece, Walk, Reply, reply_of}
use Rattle.trust_rank.specs.Sets.{is_of, records_for, set_with, set_of}
use Rattle.trust_rank.specs.Denials.{is_soa_for, soa_for}
use Rattle.trust_rank.specs.Walks.{AtName, met_nothing, met_set, met_no_data, met_name_error, met_alias, met_lame, rank_at, at_name, answer_set, alias_set, has_many, target_of, is_referral, name_error_at, no_data_at, denial_met, denial_at, leads, alias_or, set_or, is_on_route, met_at, most_aliases, is_lame, lame_walk, with_alias, go_on, walk_from, begins_set, servers_with, servers_at, servers_from, carries_servers}
use Rattle.trust_rank.specs.Writable.{IsWritable}
use Rattle.trust_rank.specs.Laws.{PiecesAreWritable}
use Rattle.trust_rank.proofs.Leading.{walk_plain, all_append}

-- ---- records

all_filtered : {X : Type 0} (P : X → Type 0) (test : X → Bool) (xs : List X) → AllByRecursion P xs → AllByRecursion P (filter test xs)
all_filtered P test [] all = tt
all_filtered P test (x ∷ xs) all = cond_both (test x) (x ∷ filter test xs) (filter test xs) (AllByRecursion P) (λ _. (all.0, all_filtered P test xs all.1)) (λ _. all_filtered P test xs all.1)

one_found : {X : Type 0} (P : X → Type 0) (test : X → Bool) (xs : List X) → AllByRecursion P xs → IfSome (find test xs) P
one_found P test [] all = tt
one_found P test (x ∷ xs) all = cond_both (test x) (Some x) (find test xs) (λ o. IfSome o P) (λ _. all.0) (λ _. one_found P test xs all.1)

-- ---- pieces

set_with_writable : (rank route : ℕ) (first : Record) (others : List Record) → IsRecord first → IsWritable (set_with rank route first others)
set_with_writable rank route first others is = record { owner = is.owner; class = is.class; kind = is.kind; body = tt }

set_writable : (rank route : ℕ) (records : List Record) → AllByRecursion IsRecord records → IfSome (set_of rank route records) IsWritable
set_writable rank route [] all = tt
set_writable rank route (first ∷ others) all = set_with_writable rank route first others all.0

-- the question and the records of both sections can be written
record CanBeWritten (r : Reply) : Type 0 where
  pub question : IsQuestion r.question
  pub answers : AllByRecursion IsRecord r.answers
  pub authority : AllByRecursion IsRecord r.authority

answer_writable : (r : Reply) (kind : ℕ) (name : List (List ℕ)) → CanBeWritten r → IfSome (answer_set r kind name) IsWritable
answer_writable r kind name can = set_writable (rank_at r name) r.route (records_for (at_name r kind name) r.answers) (all_filtered IsRecord (is_of (at_name r kind name)) r.answers can.answers)

soa_can : (r : Reply) (name : List (List ℕ)) → CanBeWritten r → IfSome (soa_for name r.question.class r.authority) IsRecord
soa_can r name can = one_found IsRecord (is_soa_for name r.question.class) r.authority can.authority

-- ---- the finding at a name

abbrev MetWritable : AtName → Type 0
MetWritable met_nothing = Unit {0}
MetWritable (met_set p) = IsWritable p
MetWritable (met_no_data p) = IsWritable p
MetWritable (met_name_error p) = IsWritable p
MetWritable (met_alias p target) = IsWritable p × IsName target
MetWritable met_lame = Unit {0}

-- an alias's target is a name
target_is_name : (b : Body) (target : List (List ℕ)) → target_of b ≡ Some target → IsName target
target_is_name (rows []) target is = absurd (cc)
target_is_name (rows (octets ∷ [])) target is = (data_that_is_a_name octets target is).0
target_is_name (rows (octets ∷ other ∷ more)) target is = absurd (cc)
target_is_name (no_data soa) target is = absurd (cc)
target_is_name (denied soa) target is = absurd (cc)

leads_writable : (p : Piece) (o : Option (List (List ℕ))) → target_of p.body ≡ o → IsWritable p → MetWritable (leads p o)
leads_writable p None is can = tt
leads_writable p (Some target) is can = (can, target_is_name p.body target is)

alias_writable : (o : Option Piece) (other : AtName) → IfSome o IsWritable → MetWritable other → MetWritable (alias_or o other)
alias_writable None other can rest = rest
alias_writable (Some p) other can rest = leads_writable p (target_of p.body) refl can

set_met_writable : (kind : ℕ) (o : Option Piece) (other : AtName) → IfSome o IsWritable → MetWritable other → MetWritable (set_or kind o other)
set_met_writable kind None other can rest = rest
set_met_writable kind (Some p) other can rest = cond_both ((kind == 5) && has_many p.body) met_lame (met_set p) MetWritable (λ _. tt) (λ _. can)

no_data_writable : (r : Reply) (name : List (List ℕ)) → CanBeWritten r → IsName name → IsWritable (no_data_at r name)
no_data_writable r name can is = record { owner = is; class = can.question.class; kind = can.question.kind; body = soa_can r name can }

name_error_writable : (r : Reply) (name : List (List ℕ)) → CanBeWritten r → IsName name → IsWritable (name_error_at r name)
name_error_writable r name can is = record { owner = is; class = can.question.class; kind = tt; body = soa_can r name can }

denial_writable : (r : Reply) (is_first : Bool) (name : List (List ℕ)) (lacks : Bool) → CanBeWritten r → IsName name → MetWritable (denial_met r is_first name lacks)
denial_writable r is_first name lacks can is =
    cond_both (r.rcode == 3) (met_name_error (name_error_at r name))
    (cond (lacks && not is_first) met_nothing (cond (lacks && is_referral r) met_lame (met_no_data (no_data_at r name)))) MetWritable
    (λ _. name_error_writable r name can is)
    (λ _. cond_both (lacks && not is_first) met_nothing (cond (lacks && is_referral r) met_lame (met_no_data (no_data_at r name))) MetWritable
    (λ _. tt)
    (λ _. cond_both (lacks && is_referral r) met_lame (met_no_data (no_data_at r name)) MetWritable (λ _. tt) (λ _. no_data_writable r name can is)))

alias_set_writable : (r : Reply) (name : List (List ℕ)) → CanBeWritten r → IfSome (alias_set r name) IsWritable
alias_set_writable r name can = cond_both (r.question.kind == 5) None (answer_set r 5 name) (λ o. IfSome o IsWritable) (λ _. tt) (λ _. answer_writable r 5 name can)

met_writable : (r : Reply) (is_first : Bool) (name : List (List ℕ)) → CanBeWritten r → IsName name → MetWritable (met_at r is_first name)
met_writable r is_first name can is =
    cond_both (is_on_route r name) (set_or r.question.kind (answer_set r r.question.kind name) (alias_or (alias_set r name) (denial_at r is_first name))) met_nothing MetWritable
    (λ _. set_met_writable r.question.kind (answer_set r r.question.kind name) (alias_or (alias_set r name) (denial_at r is_first name)) (answer_writable r r.question.kind name can)
    (alias_writable (alias_set r name) (denial_at r is_first name) (alias_set_writable r name can)
    (denial_writable r is_first name (is_none (soa_for name r.question.class r.authority)) can is)))
    (λ _. tt)

-- ---- the walk

abbrev AreWritable : Walk → Type 0
AreWritable w = AllByRecursion IsWritable w.pieces

behind_writable : (p : Piece) (w : Walk) → IsWritable p → AreWritable w → AreWritable (with_alias p w)
behind_writable p w can rest = cond_both (is_lame w.end) lame_walk (record { pieces = p ∷ w.pieces; authority = w.authority; end = w.end }) AreWritable (λ _. tt) (λ _. (can, rest))

go_writable : (name : List (List ℕ)) (rest : List (List ℕ) → Walk) (met : AtName) → MetWritable met → ((target : List (List ℕ)) → IsName target → AreWritable (rest target)) → AreWritable (go_on rest name met)
go_writable name rest met_nothing can more = tt
go_writable name rest (met_set p) can more = (can, tt)
go_writable name rest (met_no_data p) can more = (can, tt)
go_writable name rest (met_name_error p) can more = (can, tt)
go_writable name rest (met_alias p target) can more = behind_writable p (rest target) can.0 (more target can.1)
go_writable name rest met_lame can more = tt

walk_writable : (r : Reply) (most : ℕ) (is_first : Bool) (name : List (List ℕ)) → CanBeWritten r → IsName name → AreWritable (walk_from r most is_first name)
unfolding walk_from
walk_writable r zero is_first name can is = tt
walk_writable r (suc most) is_first name can is =
    go_writable name (λ target. walk_from r most false target) (met_at r is_first name) (met_writable r is_first name can is) (λ target named. walk_writable r most false target can named)

-- ---- name servers

servers_writable : (r : Reply) (carried : List Piece) (records : List Record) → AllByRecursion IsRecord records → AllByRecursion IsWritable (servers_from r carried records)
unfolding servers_from
servers_writable r carried [] all = tt
servers_writable r carried (s ∷ records) all =
    all_append IsWritable (servers_at r carried s records) (servers_from r (carried ++ servers_at r carried s records) records)
    (cond_both (begins_set r carried s) (servers_with r s records ∷ []) [] (AllByRecursion IsWritable) (λ _. (set_with_writable 2 r.route s (records_for (record { name = s.owner; kind = s.kind; class = s.class }) records) all.0, tt)) (λ _. tt))
    (servers_writable r (carried ++ servers_at r carried s records) records all.1)

pub pieces_are_writable : PiecesAreWritable
pieces_are_writable c m q route question answers authority =
    let r : Reply = reply_of c m q route in
    let w : Walk = walk_from r most_aliases true q.name in
    let can : CanBeWritten r = record { question = question; answers = answers; authority = authority } in
    let walked : AreWritable w = walk_writable r most_aliases true q.name can question.name in
    let own : AllByRecursion IsWritable w.authority = subst (AllByRecursion IsWritable) (sym (walk_plain r most_aliases true q.name)) tt in
    cond_both (carries_servers r w.end) (record { pieces = w.pieces; authority = servers_from r w.pieces r.authority; end = w.end }) w (λ (x : Walk). AllByRecursion IsWritable x.pieces × AllByRecursion IsWritable x.authority)
    (λ _. (walked, servers_writable r w.pieces r.authority authority))
    (λ _. (walked, own))
