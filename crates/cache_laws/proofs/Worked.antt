-- Worked replies and entries, of sets, ranks, name servers and look-ups: for each thing that a law
-- says, one that is so, and a similar one that is not.
use Rattle.std.proofs.Common.{◌≡◌, ℕ, ◌-◌, ◌^◌, ◌≤◌, Bool, true, false, inl, inr, List, [], ◌∷◌}
use Rattle.std.proofs.Common.{length, Option, Some, None, refl, sym, ap, ◌∙◌, subst, arith}
use Rattle.std.proofs.lemmas.Bool.{false≢true}
use Rattle.plain_values.specs.Octets.{same_octets}
use Rattle.plain_values.proofs.CallerLemmas.{same_octets_decides}
use Rattle.dns_name.specs.Labels.{lowered, same, is_under, IsSame}
use Rattle.dns_name.proofs.CallerLemmas.{same_decides, is_under_decides}
use Rattle.dns_message.specs.Values.{Question, Record, Message}
use Rattle.suffix_routes.specs.declared.peer.Peer.{Peer}
use Rattle.suffix_routes.specs.Values.{Config, Route, default_limits}
use Rattle.suffix_routes.specs.Routes.{route_of}
use Rattle.trust_rank.specs.Values.{Body, rows, no_data, denied, Piece}
use Rattle.trust_rank.specs.Sets.{seconds_of, set_with}
use Rattle.trust_rank.specs.Walks.{walk_from, servers_from, walk_of}
use Rattle.record_cache.specs.Values.{Held}
use Rattle.cache_laws.specs.Lists.{NoneTwice, IsBefore}
use Rattle.cache_laws.specs.Sets.{IsRecordFor, HasDatum, AreDataOf, ComesFirst, AreInOrder}
use Rattle.cache_laws.specs.Sets.{FirstOwns, AreSeconds, IsLowestTtl, IsSetFrom}
use Rattle.cache_laws.specs.Ranks.{IsRanked}
use Rattle.cache_laws.specs.Servers.{NoneOwns, IsFitServer, IsCarriedIn, OwnersDiffer}
use Rattle.cache_laws.specs.LookUps.{IsAskedSet, IsAskedAlias, IsAskedNoData, IsNameError}
use Rattle.cache_laws.specs.LookUps.{IsNearestDenial}
use Rattle.cache_laws.proofs.Lists.{only_one}
use Rattle.cache_laws.proofs.Sets.{data_of_set, top_bit_is_none, one_seconds, life_of_set, set_from}

-- ---- names under two routes: the root's, and that of the suffix z

abbrev pub server : Peer
server = record { ip = 192 ∷ 0 ∷ 2 ∷ 1 ∷ []; port = 53 }

abbrev pub routes : List Route
routes = record { suffix = []; deny = false; servers = server ∷ [] } ∷ record {
  suffix = (122 ∷ []) ∷ [];
  deny = false;
  servers = server ∷ [];
} ∷ []

abbrev pub config : Config
config = record { listen = server; limits = default_limits; routes = routes }

abbrev pub e : List (List ℕ)
e = (101 ∷ []) ∷ []

-- a name of one letter, below e
abbrev pub below_e : ℕ → List (List ℕ)
below_e letter = (letter ∷ []) ∷ e

-- such a name as data
abbrev pub data_of : ℕ → List ℕ
data_of letter = 1 ∷ letter ∷ 1 ∷ 101 ∷ 0 ∷ []

abbrev pub a : List (List ℕ)
a = below_e 97

abbrev pub b : List (List ℕ)
b = below_e 98

abbrev pub address : Question
address = record { name = a; kind = 1; class = 1 }

abbrev pub ip : ℕ → List ℕ
ip last = 192 ∷ 0 ∷ 2 ∷ last ∷ []

abbrev pub host : List (List ℕ) → ℕ → ℕ → Record
host owner ttl last = record { owner = owner; kind = 1; class = 1; ttl = ttl; rdata = ip last }

abbrev pub alias : List (List ℕ) → List ℕ → Record
alias owner octets = record { owner = owner; kind = 5; class = 1; ttl = 60; rdata = octets }

abbrev pub ns : List (List ℕ) → ℕ → Record
ns owner class = record { owner = owner; kind = 2; class = class; ttl = 3600; rdata = data_of 110 }

abbrev pub message : Bool → ℕ → List Record → List Record → Message
message aa rcode answers authority = record {
  header = record {
    id = 8;
    qr = true;
    opcode = 0;
    aa = aa;
    tc = false;
    rd = true;
    ra = false;
    z = 0;
    rcode = rcode;
    counts = [];
  };
  questions = address ∷ [];
  answers = answers;
  authority = authority;
  additional = [];
}

pub names_differ : IsSame b a → ⊥
names_differ is = let yes : same b a ≡ true = (same_decides b a).1 is in false≢true yes

-- one record has one owner
pub owner_is : (r s : Record) → r ≡ s → IsSame s.owner r.owner
owner_is r s is = sym (ap (λ (x : Record). lowered x.owner) is)

-- ---- lists

apart : NoneTwice {X = ℕ} (1 ∷ 2 ∷ [])
apart = (
  λ there. elim there [
    | inl is ↦ omega (arith, is)
    | inr none ↦ none
  ],
  (λ none. none, tt),
)

together : NoneTwice {X = ℕ} (1 ∷ 2 ∷ 1 ∷ []) → ⊥
together h = h.0 (inr (inl refl))

in_front : IsBefore {X = ℕ} 1 3 (1 ∷ 2 ∷ 3 ∷ [])
in_front = inl (refl, inr (inl refl))

behind_it : IsBefore {X = ℕ} 3 1 (1 ∷ 2 ∷ 3 ∷ []) → ⊥
behind_it h = elim h [
  | inl first ↦ omega (arith, first.0)
  | inr (inl second) ↦ omega (arith, second.0)
  | inr (inr (inl third)) ↦ third.1
  | inr (inr (inr none)) ↦ none
]

-- ---- sets

-- two addresses of a.e, one of them twice, and one of b.e
abbrev pub section : List Record
section = host (below_e 65) 300 5 ∷ host a 300 6 ∷ host b 30 7 ∷ host a 60 5 ∷ []

pub second_is_there : IsRecordFor address section (host a 300 6)
second_is_there = record { there = inr (inl refl); kind = refl; class = refl; name = refl }

last_is_there : IsRecordFor address section (host a 60 5)
last_is_there = record { there = inr (inr (inr (inl refl))); kind = refl; class = refl; name = refl }

record_of_another : IsRecordFor address section (host b 30 7) → ⊥
record_of_another h = names_differ h.name

data_are : AreDataOf address section (ip 5 ∷ ip 6 ∷ [])
data_are = data_of_set address section (host (below_e 65) 300 5) (host a 300 6 ∷ host a 60 5 ∷ []) refl

datum_twice : AreDataOf address section (ip 5 ∷ ip 6 ∷ ip 5 ∷ []) → ⊥
datum_twice h = h.once.0 (inr (inl refl))

pub differ : (x y : List ℕ) → same_octets x y ≡ false → x ≡ y → ⊥
differ x y isnt is = false≢true (sym isnt ∙ (same_octets_decides x y).1 is)

pub datum_left_out : AreDataOf address section (ip 5 ∷ []) → ⊥
datum_left_out h = elim (h.whole (host a 300 6) second_is_there) [
  | inl is ↦ differ (ip 6) (ip 5) refl is
  | inr none ↦ none
]

-- the data of a record is not of another one
not_data : (r s : Record) (datum : List ℕ) → same_octets s.rdata datum ≡ false → r ≡ s → r.rdata ≡ datum → ⊥
not_data r s datum isnt is has = differ s.rdata datum isnt (sym (ap (λ (x : Record). x.rdata) is) ∙ has)

datum_of_another : AreDataOf address section (ip 5 ∷ ip 6 ∷ ip 7 ∷ []) → ⊥
datum_of_another h = let d : HasDatum address section (ip 7) = h.only (ip 7) (inr (inr (inl refl))) in
    elim d.fits.there [
      | inl is ↦ not_data d.r (host (below_e 65) 300 5) (ip 7) refl is d.datum_is
      | inr (inl is) ↦ not_data d.r (host a 300 6) (ip 7) refl is d.datum_is
      | inr (inr (inl is)) ↦ names_differ (owner_is d.r (host b 30 7) is ∙ d.fits.name)
      | inr (inr (inr (inl is))) ↦ not_data d.r (host a 60 5) (ip 7) refl is d.datum_is
      | inr (inr (inr (inr none))) ↦ none
    ]

lowest : IsLowestTtl address section 60
lowest = life_of_set address section (host (below_e 65) 300 5) (host a 300 6 ∷ host a 60 5 ∷ []) refl

lives_longer : IsLowestTtl address section 61 → ⊥
lives_longer h = omega (arith, h.least (host a 60 5) 60 last_is_there (top_bit_is_none 60))

lives_as : (r s : Record) (seconds : ℕ) → r ≡ s → AreSeconds r.ttl seconds → seconds ≡ seconds_of s.ttl
lives_as r s seconds is lives = one_seconds r.ttl seconds lives ∙ ap (λ (x : Record). seconds_of x.ttl) is

lives_shorter : IsLowestTtl address section 30 → ⊥
lives_shorter h = elim h.one [
  | inl week ↦ omega (arith, week)
  | inr d ↦ elim d.fits.there [
    | inl is ↦ let wrong : 30 ≡ 300 = lives_as d.r (host (below_e 65) 300 5) 30 is d.seconds_are in omega (arith, wrong)
    | inr (inl is) ↦ let wrong : 30 ≡ 300 = lives_as d.r (host a 300 6) 30 is d.seconds_are in omega (arith, wrong)
    | inr (inr (inl is)) ↦ names_differ (owner_is d.r (host b 30 7) is ∙ d.fits.name)
    | inr (inr (inr (inl is))) ↦ let wrong : 30 ≡ 60 = lives_as d.r (host a 60 5) 30 is d.seconds_are in
        omega (arith, wrong)
    | inr (inr (inr (inr none))) ↦ none
  ]
]

-- the set of these, and that of the first of them alone
pub set_is_whole : IsSetFrom section (set_with 3 0 (host (below_e 65) 300 5) (host a 300 6 ∷ host a 60 5 ∷ []))
set_is_whole = set_from address 3 0 section (host (below_e 65) 300 5) (host a 300 6 ∷ host a 60 5 ∷ []) refl

abbrev pub spelled : Question
spelled = record { name = below_e 65; kind = 1; class = 1 }

pub second_is_of_it : IsRecordFor spelled section (host a 300 6)
second_is_of_it = record { there = inr (inl refl); kind = refl; class = refl; name = refl }

-- the order of the section, and another order
pub first_is_there : IsRecordFor address section (host (below_e 65) 300 5)
first_is_there = record { there = inl refl; kind = refl; class = refl; name = refl }

five_comes_first : ComesFirst address section (ip 5) (ip 6)
five_comes_first = inl (first_is_there, refl)

six_comes_first : ComesFirst address section (ip 6) (ip 5) → ⊥
six_comes_first h = elim h [
  | inl first ↦ differ (ip 5) (ip 6) refl first.1
  | inr later ↦ later.0 first_is_there refl
]

data_in_order : AreInOrder spelled section (ip 5 ∷ ip 6 ∷ [])
data_in_order = set_is_whole.in_order 1 (ip 5 ∷ ip 6 ∷ []) refl refl

pub data_turned_round : AreInOrder address section (ip 6 ∷ ip 5 ∷ []) → ⊥
data_turned_round h = six_comes_first (h (ip 6) (ip 5) (inl (refl, inl refl)))

-- the owner is spelled as in the first record, and not as in the second
spelled_as_the_first : FirstOwns address section (below_e 65)
spelled_as_the_first = inl (first_is_there, refl)

pub spelled_as_the_second : FirstOwns address section a → ⊥
spelled_as_the_second h = elim h [
  | inl first ↦
      let owner : (65 ∷ []) ∷ e ≡ (97 ∷ []) ∷ e = first.1 in
      let wrong : ◌≡◌ {A = ℕ} 65 97 = cc in
      omega (arith, wrong)
  | inr later ↦ later.0 first_is_there
]

set_of_the_first : IsSetFrom section (set_with 3 0 (host (below_e 65) 300 5) []) → ⊥
set_of_the_first h = let d : AreDataOf spelled section (ip 5 ∷ []) = h.data_are 1 (ip 5 ∷ []) refl refl in
    elim (d.whole (host a 300 6) second_is_of_it) [
      | inl is ↦ differ (ip 6) (ip 5) refl is
      | inr none ↦ none
    ]

-- a TTL with its top bit set, and the greatest without
top_bit : (seconds_of (2 ^ 31) ≡ 0) × (seconds_of (2 ^ 31 - 1) ≡ 2147483647)
top_bit = (refl, refl)

without_top_bit : seconds_of (2 ^ 31 - 1) ≡ 0 → ⊥
without_top_bit is = omega (arith, is)

-- a TTL with its top bit set is no number of seconds
own_number : AreSeconds (2 ^ 31) (2 ^ 31) → ⊥
own_number h = omega (arith, h.set (omega arith))

-- ---- ranks

pub own_answer : IsRanked true a (below_e 65) 3
own_answer = record {
  highest = λ _ _. refl;
  authoritative = λ _. refl;
  own = λ _. refl;
  lowest = λ other. absurd (other refl);
}

another_answer : IsRanked true a b 1
another_answer = record {
  highest = λ _ is. absurd (names_differ is);
  authoritative = λ three. refl;
  own = λ three. absurd (omega (arith, three));
  lowest = λ _. refl;
}

pub own_answer_is_low : IsRanked true a (below_e 65) 1 → ⊥
own_answer_is_low h = omega (arith, h.highest refl refl)

another_answer_is_high : IsRanked true a b 3 → ⊥
another_answer_is_high h = names_differ (h.own refl)

answer_of_a_cache_is_high : IsRanked false a a 3 → ⊥
answer_of_a_cache_is_high h = false≢true (h.authoritative refl)

-- ---- name servers

-- an address of a.e, and name servers of e, of e in another class, of b.e and of a.e itself
abbrev beside : Message
beside = message true 0 (host a 300 5 ∷ []) (ns e 1 ∷ ns e 3 ∷ ns b 1 ∷ ns a 1 ∷ [])

-- the one piece on the walk is of a.e
only_a : (name : List (List ℕ)) → (IsSame a name → ⊥) → NoneOwns name (walk_of config beside address 0).pieces
unfolding walk_from servers_from route_of
only_a name other p there is = elim there [
  | inl one ↦ other (sym (ap (λ (x : Piece). lowered x.owner) one) ∙ is)
  | inr none ↦ none
]

pub e_differs : IsSame a e → ⊥
e_differs is = let yes : same a e ≡ true = (same_decides a e).1 is in false≢true yes

a_is_owned : NoneOwns a (walk_of config beside address 0).pieces → ⊥
unfolding walk_from servers_from route_of
a_is_owned none = none (set_with 3 0 (host a 300 5) []) (inl refl) refl

fit : IsFitServer config beside address 0 (ns e 1)
unfolding route_of
fit = record {
  server = record { there = inl refl; kind = refl; class = refl; above = (is_under_decides a e).0 refl };
  on_route = refl;
  no_piece = only_a e e_differs;
}

class_is_not_fit : IsFitServer config beside address 0 (ns e 3) → ⊥
class_is_not_fit h = omega (arith, h.server.class)

sibling_is_not_fit : IsFitServer config beside address 0 (ns b 1) → ⊥
sibling_is_not_fit h = let yes : is_under a b ≡ true = (is_under_decides a b).1 h.server.above in false≢true yes

answered_is_not_fit : IsFitServer config beside address 0 (ns a 1) → ⊥
answered_is_not_fit h = a_is_owned h.no_piece

carried : IsCarriedIn (walk_of config beside address 0).authority (ns e 1)
unfolding walk_from servers_from route_of
carried = record { set = _; there = inl refl; owner = refl; each = data_of 110 ∷ []; body = refl; row = inl refl }

none_is_carried : IsCarriedIn [] (ns e 1) → ⊥
none_is_carried h = h.there

own_owners : OwnersDiffer (set_with 2 0 (ns a 1) [] ∷ set_with 2 0 (ns b 1) [] ∷ [])
own_owners = (
  λ p there is. names_differ
      (sym (ap (λ (x : Piece). lowered x.owner) (only_one p (set_with 2 0 (ns b 1) []) there)) ∙ is),
  (λ p there is. there, tt),
)

one_owner_twice : OwnersDiffer (set_with 2 0 (ns e 1) [] ∷ set_with 2 0 (ns ((69 ∷ []) ∷ []) 1) [] ∷ []) → ⊥
one_owner_twice h = h.0 (set_with 2 0 (ns ((69 ∷ []) ∷ []) 1) []) (inl refl) refl

-- ---- look-ups

-- kept at 1000 with this lifetime in seconds
abbrev held : List (List ℕ) → Option ℕ → Body → ℕ → Held
held name kind body lifetime = record {
  piece = record {
    owner = name;
    slot = record { key = name; class = 1; kind = kind };
    body = body;
    lifetime = lifetime;
    rank = 3;
    route = 0;
  };
  accepted = 1000;
}

abbrev set : Held
set = held a (Some 1) (rows (ip 5 ∷ [])) 60

abbrev pointing : Held
pointing = held b (Some 5) (rows (data_of 97 ∷ [])) 60

abbrev no_mail : Held
no_mail = held a (Some 15) (no_data None) 60

abbrev far : Held
far = held [] None (denied None) 60

abbrev near : Held
near = held e None (denied None) 60

abbrev entries : List Held
entries = set ∷ pointing ∷ no_mail ∷ far ∷ near ∷ []

abbrev asked : List (List ℕ) → ℕ → Question
asked name kind = record { name = name; kind = kind; class = 1 }

-- of the asked name, class and type, in milliseconds before its end
set_is_asked : IsAskedSet 60999 entries (asked (below_e 65) 1) set
set_is_asked = record {
  living = record { among = inl refl; alive = omega arith; name = refl; class = refl; kind_is = refl };
  each = ip 5 ∷ [];
  body = refl;
}

set_has_ended : IsAskedSet 61000 entries (asked a 1) set → ⊥
set_has_ended h = omega (arith, h.living.alive)

set_of_another_name : IsAskedSet 60999 entries (asked b 1) set → ⊥
set_of_another_name h = names_differ h.living.name

alias_is_asked : IsAskedAlias 60999 entries (asked b 1) pointing
alias_is_asked = record {
  other = λ is. omega (arith, is);
  living = record { among = inr (inl refl); alive = omega arith; name = refl; class = refl; kind_is = refl };
  each = data_of 97 ∷ [];
  body = refl;
}

alias_itself_is_asked : IsAskedAlias 60999 entries (asked b 5) pointing → ⊥
alias_itself_is_asked h = h.other refl

no_data_is_asked : IsAskedNoData 60999 entries (asked a 15) no_mail
no_data_is_asked = record {
  living = record { among = inr (inr (inl refl)); alive = omega arith; name = refl; class = refl; kind_is = refl };
  soa = None;
  body = refl;
}

set_is_no_data : IsAskedNoData 60999 entries (asked a 1) set → ⊥
set_is_no_data h = absurd (let wrong : rows (ip 5 ∷ []) ≡ no_data h.soa = h.body in cc)

near_denies : IsNameError routes 60999 entries (asked b 1) near
unfolding route_of
near_denies = record {
  among = inr (inr (inr (inr (inl refl))));
  alive = omega arith;
  kind_is = refl;
  class = refl;
  above = (is_under_decides b e).0 refl;
  route = refl;
}

far_is_not_nearest : IsNearestDenial routes 60999 entries (asked b 1) far → ⊥
far_is_not_nearest h = omega (arith, h.nearest near near_denies)

-- of these two the nearest
abbrev denials : List Held
denials = far ∷ near ∷ []

near_is_nearest : IsNearestDenial routes 60999 denials (asked b 1) near
unfolding route_of
near_is_nearest = record {
  denial = record {
    among = inr (inl refl);
    alive = omega arith;
    kind_is = refl;
    class = refl;
    above = (is_under_decides b e).0 refl;
    route = refl;
  };
  nearest = λ other d. elim d.among [
    | inl is ↦ labels_are far other is (omega arith)
    | inr (inl is) ↦ labels_are near other is (omega arith)
    | inr (inr none) ↦ absurd none
  ];
}
  where
    labels_are : (x other : Held) → x ≡ other → length x.piece.slot.key ≤ 1 → length other.piece.slot.key ≤ 1
    labels_are x other is short = subst (λ (y : Held). length y.piece.slot.key ≤ 1) is short

-- the name error of a name on another route does not deny
far_is_of_another_route : IsNameError routes 60999 entries (asked ((97 ∷ []) ∷ (122 ∷ []) ∷ []) 1) far → ⊥
unfolding route_of
far_is_of_another_route h = absurd (let wrong : Some 0 ≡ Some 1 = h.route in cc)
