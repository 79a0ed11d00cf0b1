-- Name servers next to the walk of a reply, and pieces of a reply. Each field has a neighbour
-- failing in this field alone.
use Rattle.std.proofs.Common.{◌≡◌, ◌∙◌, ℕ, true, false, inl, inr, List, [], ◌∷◌, Option, Some, refl, sym, ap, arith}
use Rattle.std.proofs.lemmas.Bool.{false≢true}
use Rattle.dns_name.specs.Labels.{lowered, IsSame, is_under, IsUnder}
use Rattle.dns_name.proofs.CallerLemmas.{is_under_decides}
use Rattle.dns_message.specs.Values.{Question, Record}
use Rattle.suffix_routes.specs.Values.{Route}
use Rattle.suffix_routes.specs.Routes.{route_of}
use Rattle.suffix_routes.proofs.CallerLemmas.{route_found_is_longest}
use Rattle.trust_rank.specs.Values.{rows, Piece, Reply, reply_of}
use Rattle.trust_rank.specs.Sets.{set_with}
use Rattle.cache_laws.specs.Sets.{AreDataOf, IsSetFrom}
use Rattle.cache_laws.specs.Servers.{NoneOwns, IsServerAbove}
use Rattle.cache_laws.specs.Carried.{IsOfReply, IsSetAt, IsOnRoute, IsServerFor, IsServerSet}
use Rattle.cache_laws.proofs.Lists.{only_one}
use Rattle.cache_laws.proofs.Sets.{set_from}
use Rattle.cache_laws.proofs.Worked.{server, routes, config, e, below_e, data_of, a, b, ip, host, ns, message}
use Rattle.cache_laws.proofs.Worked.{names_differ}
use Rattle.cache_laws.proofs.Worked.{e_differs, differ}
use Rattle.cache_laws.proofs.WorkedCarried.{seen}
use Rattle.worked_claims.proofs.Neighbours.{HoldsButFor}

-- an address of a.e, and name servers of e, of e in another class, of b.e and of a.e, with an
-- address of e
abbrev authority : List Record
authority = ns e 1 ∷ ns e 3 ∷ ns b 1 ∷ ns a 1 ∷ host e 300 5 ∷ []

abbrev asked : Reply
asked = seen (message true 0 (host a 300 5 ∷ []) authority)

abbrev address : Piece
address = set_with 3 0 (host a 300 5) []

-- the walk has the address alone
abbrev walked : List Piece
walked = address ∷ []

none_owns : (name : List (List ℕ)) → (IsSame a name → ⊥) → NoneOwns name walked
none_owns name other p there is =
    other (sym (ap (λ (x : Piece). lowered x.owner) (only_one p address there)) ∙ is)

a_owns : NoneOwns a walked → ⊥
a_owns none = none address (inl refl) refl

b_differs : IsSame a b → ⊥
b_differs is = names_differ (sym is)

-- a question for a name on the second route, answered with a name server of the root alone
abbrev beyond : Reply
beyond = reply_of config (message true 0 [] (ns [] 1 ∷ []))
    (record { name = (97 ∷ []) ∷ (122 ∷ []) ∷ []; kind = 1; class = 1 }) 1

root_off_route : IsOnRoute beyond [] → ⊥
root_off_route h = by h.route h.there h.under
  where
    by : (r : Route) → Some (record { suffix = (122 ∷ []) ∷ []; deny = false; servers = server ∷ [] }) ≡ Some r
        → IsUnder [] r.suffix → ⊥
    by r is under =
        let one : record { suffix = (122 ∷ []) ∷ []; deny = false; servers = server ∷ [] } ≡ r = cc in
        let tested : is_under [] r.suffix ≡ true = (is_under_decides [] r.suffix).1 under in
        false≢true (ap (λ (x : Route). is_under [] x.suffix) one ∙ tested)

-- ---- a name server to be carried

server_of_e : IsServerFor asked walked (ns e 1)
unfolding route_of
server_of_e = record {
  server = record { there = inl refl; kind = refl; class = refl; above = (is_under_decides a e).0 refl };
  on_route = route_found_is_longest routes e 0 refl;
  no_piece = none_owns e e_differs;
}

server_of_another_class : HoldsButFor (IsServerAbove asked.question authority (ns e 3))
    (IsServerFor asked walked (ns e 3))
unfolding route_of
server_of_another_class = (
  λ above. record {
    server = above;
    on_route = route_found_is_longest routes e 0 refl;
    no_piece = none_owns e e_differs;
  },
  λ h. omega (arith, h.server.class),
)

server_off_the_route : HoldsButFor (IsOnRoute beyond []) (IsServerFor beyond [] (ns [] 1))
server_off_the_route = (
  λ on_route. record {
    server = record {
      there = inl refl;
      kind = refl;
      class = refl;
      above = (is_under_decides beyond.question.name []).0 refl;
    };
    on_route = on_route;
    no_piece = λ p there is. there;
  },
  λ h. root_off_route h.on_route,
)

server_of_an_answered_name : HoldsButFor (NoneOwns a walked) (IsServerFor asked walked (ns a 1))
unfolding route_of
server_of_an_answered_name = (
  λ none. record {
    server = record {
      there = inr (inr (inr (inl refl)));
      kind = refl;
      class = refl;
      above = (is_under_decides a a).0 refl;
    };
    on_route = route_found_is_longest routes a 0 refl;
    no_piece = none;
  },
  λ h. a_owns h.no_piece,
)

-- ---- a set of name servers

-- the set of the owner's name servers, with this rank and on this route
abbrev servers : ℕ → ℕ → List (List ℕ) → Piece
servers rank route owner = set_with rank route (ns owner 1) []

abbrev asking : List (List ℕ) → Question
asking owner = record { name = owner; kind = 2; class = 1 }

at_its_owner : (rank route : ℕ) (owner : List (List ℕ)) → IsSetAt 2 owner (servers rank route owner)
at_its_owner rank route owner = record { owner = refl; kind_is = refl; each = data_of 110 ∷ []; body = refl }

set_of_e : IsServerSet asked walked (servers 2 0 e)
unfolding route_of
set_of_e = record {
  set = set_from (asking e) 2 0 authority (ns e 1) [] refl;
  at = at_its_owner 2 0 e;
  ranked = refl;
  own = record { name = refl; class = refl; route = refl };
  above = (is_under_decides a e).0 refl;
  on_route = route_found_is_longest routes e 0 refl;
  no_piece = none_owns e e_differs;
}

-- a second name server of e
abbrev second : Record
second = record (ns e 1) { rdata = data_of 111 }

abbrev both : Reply
both = seen (message true 0 (host a 300 5 ∷ []) (ns e 1 ∷ second ∷ []))

set_of_one_of_two : HoldsButFor (IsSetFrom (ns e 1 ∷ second ∷ []) (servers 2 0 e))
    (IsServerSet both walked (servers 2 0 e))
unfolding route_of
set_of_one_of_two = (
  λ whole. record {
    set = whole;
    at = at_its_owner 2 0 e;
    ranked = refl;
    own = record { name = refl; class = refl; route = refl };
    above = (is_under_decides a e).0 refl;
    on_route = route_found_is_longest routes e 0 refl;
    no_piece = none_owns e e_differs;
  },
  λ h.
      let are : AreDataOf (asking e) (ns e 1 ∷ second ∷ []) (data_of 110 ∷ []) =
      h.set.data_are 2 (data_of 110 ∷ []) refl refl in
      differ (data_of 111) (data_of 110) refl (only_one (data_of 111) (data_of 110)
      (are.whole second (record { there = inr (inl refl); kind = refl; class = refl; name = refl }))),
)

-- the addresses of e
abbrev host_of_e : Piece
host_of_e = set_with 2 0 (host e 300 5) []

set_of_addresses : HoldsButFor (IsSetAt 2 e host_of_e) (IsServerSet asked walked host_of_e)
unfolding route_of
set_of_addresses = (
  λ at. record {
    set = set_from (record { name = e; kind = 1; class = 1 }) 2 0 authority (host e 300 5) [] refl;
    at = at;
    ranked = refl;
    own = record { name = refl; class = refl; route = refl };
    above = (is_under_decides a e).0 refl;
    on_route = route_found_is_longest routes e 0 refl;
    no_piece = none_owns e e_differs;
  },
  λ h. by h.at.kind_is,
)
  where
    by : ◌≡◌ {A = Option ℕ} (Some 1) (Some 2) → ⊥
    by is = let kinds : ◌≡◌ {A = ℕ} 1 2 = cc in omega (arith, kinds)

set_ranked_as_an_answer : HoldsButFor (◌≡◌ {A = ℕ} 3 2) (IsServerSet asked walked (servers 3 0 e))
unfolding route_of
set_ranked_as_an_answer = (
  λ ranked. record {
    set = set_from (asking e) 3 0 authority (ns e 1) [] refl;
    at = at_its_owner 3 0 e;
    ranked = ranked;
    own = record { name = refl; class = refl; route = refl };
    above = (is_under_decides a e).0 refl;
    on_route = route_found_is_longest routes e 0 refl;
    no_piece = none_owns e e_differs;
  },
  λ h. omega (arith, h.ranked),
)

set_of_another_reply : HoldsButFor (IsOfReply asked (servers 2 1 e)) (IsServerSet asked walked (servers 2 1 e))
unfolding route_of
set_of_another_reply = (
  λ own. record {
    set = set_from (asking e) 2 1 authority (ns e 1) [] refl;
    at = at_its_owner 2 1 e;
    ranked = refl;
    own = own;
    above = (is_under_decides a e).0 refl;
    on_route = route_found_is_longest routes e 0 refl;
    no_piece = none_owns e e_differs;
  },
  λ h. omega (arith, h.own.route),
)

set_of_a_sibling : HoldsButFor (IsUnder a b) (IsServerSet asked walked (servers 2 0 b))
unfolding route_of
set_of_a_sibling = (
  λ above. record {
    set = set_from (asking b) 2 0 authority (ns b 1) [] refl;
    at = at_its_owner 2 0 b;
    ranked = refl;
    own = record { name = refl; class = refl; route = refl };
    above = above;
    on_route = route_found_is_longest routes b 0 refl;
    no_piece = none_owns b b_differs;
  },
  λ h. let tested : is_under a b ≡ true = (is_under_decides a b).1 h.above in false≢true tested,
)

set_off_the_route : HoldsButFor (IsOnRoute beyond []) (IsServerSet beyond [] (servers 2 1 []))
set_off_the_route = (
  λ on_route. record {
    set = set_from (asking []) 2 1 (ns [] 1 ∷ []) (ns [] 1) [] refl;
    at = at_its_owner 2 1 [];
    ranked = refl;
    own = record { name = refl; class = refl; route = refl };
    above = (is_under_decides beyond.question.name []).0 refl;
    on_route = on_route;
    no_piece = λ p there is. there;
  },
  λ h. root_off_route h.on_route,
)

set_of_an_answered_name : HoldsButFor (NoneOwns a walked) (IsServerSet asked walked (servers 2 0 a))
unfolding route_of
set_of_an_answered_name = (
  λ none. record {
    set = set_from (asking a) 2 0 authority (ns a 1) [] refl;
    at = at_its_owner 2 0 a;
    ranked = refl;
    own = record { name = refl; class = refl; route = refl };
    above = (is_under_decides a a).0 refl;
    on_route = route_found_is_longest routes a 0 refl;
    no_piece = none;
  },
  λ h. a_owns h.no_piece,
)

-- ---- a piece of the reply

-- the address of a.e, spelled A.e, with this name, class and route
abbrev placed : List (List ℕ) → ℕ → ℕ → Piece
placed name class route = record {
  owner = below_e 65;
  slot = record { key = name; class = class; kind = Some 1 };
  body = rows (ip 5 ∷ []);
  lifetime = 60;
  rank = 3;
  route = route;
}

is_of_it : IsOfReply asked (placed a 1 0)
is_of_it = record { name = refl; class = refl; route = refl }

-- the letter case of the owner is kept
with_letter_case : HoldsButFor (below_e 65 ≡ lowered (below_e 65)) (IsOfReply asked (placed (below_e 65) 1 0))
with_letter_case = (
  λ name. record { name = name; class = refl; route = refl },
  λ h. by h.name,
)
  where
    by : below_e 65 ≡ a → ⊥
    by is = let wrong : ◌≡◌ {A = ℕ} 65 97 = cc in omega (arith, wrong)

of_another_class : HoldsButFor (◌≡◌ {A = ℕ} 3 1) (IsOfReply asked (placed a 3 0))
of_another_class = (λ class. record { name = refl; class = class; route = refl }, λ h. omega (arith, h.class))

of_another_route : HoldsButFor (◌≡◌ {A = ℕ} 1 0) (IsOfReply asked (placed a 1 1))
of_another_route = (λ route. record { name = refl; class = refl; route = route }, λ h. omega (arith, h.route))
