-- Names and questions equal by comparison.
use Rattle.std.proofs.Common.{◌≡◌, ℕ, List, Bool, true, refl, sym, ap, ◌∙◌, subst}
use Rattle.std.specs.Prelude.{◌==◌}
use Rattle.std.proofs.lemmas.Bool.{and_parts, and_from, eqb-true, eq-eqb}
use Rattle.dns_name.specs.Labels.{IsSame, same as same_name}
use Rattle.dns_name.proofs.CallerLemmas.{same_decides, answer_is_test as can_write}
use Rattle.dns_message.specs.Values.{Question}
use Rattle.dns_message.specs.Messages.{IsSameQuestion}
use Rattle.dns_message.proofs.CallerLemmas.{same_question_decides}
use Rattle.suffix_routes.specs.declared.peer.Peer.{Peer}
use Rattle.suffix_routes.specs.Values.{Config}
use Rattle.suffix_routes.proofs.CallerLemmas.{serving_lowered}
use Rattle.suffix_routes.specs.Serving.{serving_route_of}
use Rattle.plain_values.specs.Octets.{same_octets}
use Rattle.plain_values.proofs.CallerLemmas.{same_octets_reflexive, same_octets_equal}
use Rattle.reply_match.specs.Peers.{same_peer}
use Rattle.dns_message.specs.Questions.{same_question}

-- the test is the fact
pub same_name-is : (a b : List (List ℕ)) → same_name a b ≡ true → IsSame a b
same_name-is a b e = (same_decides a b).0 e

pub is-same_name : (a b : List (List ℕ)) → IsSame a b → same_name a b ≡ true
is-same_name a b e = (same_decides a b).1 e

pub same_peer-true : (a b : Peer) → same_peer a b ≡ true → a ≡ b
same_peer-true a b e =
    let parts = and_parts (same_octets a.ip b.ip) (a.port == b.port) e in
    let ip : a.ip ≡ b.ip = same_octets_equal a.ip b.ip parts.0 in
    let port : a.port ≡ b.port = eqb-true a.port b.port parts.1 in
    λ i. record { ip = ip i; port = port i }

pub same_peer-is : (a b : Peer) → a ≡ b → same_peer a b ≡ true
same_peer-is a b e = subst (λ (x : Peer). same_peer a x ≡ true) e (and_from (same_octets a.ip a.ip) (a.port == a.port) (same_octets_reflexive a.ip) (eq-eqb a.port a.port refl))

-- equal names have the same serving route
pub route_of-alike : (c : Config) (a b : Question) → IsSameQuestion a b → serving_route_of c a.name ≡ serving_route_of c b.name
route_of-alike c a b same = sym (serving_lowered c.routes a.name) ∙ ap (serving_route_of c) same.name ∙ serving_lowered c.routes b.name

pub same_question-sym : (a b : Question) → same_question a b ≡ true → same_question b a ≡ true
same_question-sym a b e =
    let same = (same_question_decides a b).0 e in
    (same_question_decides b a).1 (record { name = sym same.name; kind = sym same.kind; class = sym same.class })

-- a test equivalent to the fact is `same_name`
pub told_same_name : (r : Bool) (a b : List (List ℕ)) → (r ≡ true → IsSame a b) × (IsSame a b → r ≡ true) → r ≡ same_name a b
told_same_name r a b tells = can_write r (same_name a b) tells (same_decides a b)

pub same_question-trans : (a b q : Question) → same_question a b ≡ true → same_question b q ≡ true → same_question a q ≡ true
same_question-trans a b q one two =
    let first = (same_question_decides a b).0 one in
    let second = (same_question_decides b q).0 two in
    (same_question_decides a q).1 (record { name = first.name ∙ second.name; kind = first.kind ∙ second.kind; class = first.class ∙ second.class })
