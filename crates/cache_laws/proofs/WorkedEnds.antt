-- Worked walks and name servers of replies, and neighbours that fail in one part of the definition
-- alone.
use Rattle.std.proofs.Common.{◌≡◌, ℕ, Bool, true, false, inl, inr, List, [], ◌∷◌, length, None, refl, sym, ap}
use Rattle.std.proofs.Common.{◌∙◌, arith, Some}
use Rattle.std.specs.List.{AllByRecursion}
use Rattle.std.proofs.lemmas.Bool.{true≢false}
use Rattle.dns_name.specs.Labels.{lowered, IsSame}
use Rattle.dns_name.proofs.CallerLemmas.{same_decides, is_under_decides}
use Rattle.dns_message.specs.Values.{Record, Message}
use Rattle.dns_message.specs.Data.{name_of_rdata}
use Rattle.dns_message.specs.Names.{step as name_step, walk_in, name_within}
use Rattle.suffix_routes.specs.Values.{AllDiffer}
use Rattle.suffix_routes.specs.Routes.{route_of}
use Rattle.suffix_routes.proofs.CallerLemmas.{route_found_is_longest}
use Rattle.trust_rank.specs.Values.{Piece, found, ends_no_data, ends_denied, elsewhere, lame, Walk, Reply, reply_of}
use Rattle.trust_rank.specs.Sets.{set_with}
use Rattle.trust_rank.specs.Walks.{name_error_at, no_data_at, ending, walk_from, servers_from}
use Rattle.cache_laws.specs.Lists.{IsOneOf}
use Rattle.cache_laws.specs.Sets.{IsRecordFor}
use Rattle.cache_laws.specs.Servers.{IsCarriedIn, OwnersDiffer}
use Rattle.cache_laws.specs.Denials.{LacksAt, IsLoneAlias}
use Rattle.cache_laws.specs.Carried.{HasToBeAsked, EndsSo, IsLeftOpen, IsPieceOf, IsOnRoute, HasTwoAliases, AsksForTwo, HasNoTarget}
use Rattle.cache_laws.specs.Carried.{AreWalked, IsServerFor, IsServerSet, AreServers, IsCarriedBy}
use Rattle.cache_laws.proofs.Lists.{only_one}
use Rattle.cache_laws.proofs.Sets.{data_of_set}
use Rattle.cache_laws.proofs.Walks.{own_walk}
use Rattle.cache_laws.proofs.AtNames.{off_by_test, each_of_reply}
use Rattle.cache_laws.proofs.WalkOnly.{own_walk_only}
use Rattle.cache_laws.proofs.Beside.{servers_allowed}
use Rattle.cache_laws.proofs.Carried.{carried_exactly}
use Rattle.cache_laws.proofs.Worked.{routes, config, e, data_of, a, b, address, ip, host, alias, ns, message}
use Rattle.cache_laws.proofs.Worked.{names_differ, owner_is, differ}
use Rattle.cache_laws.proofs.WorkedDenials.{to_b, soa}
use Rattle.cache_laws.proofs.WorkedCarried.{seen, on_route}

routes_differ : AllDiffer routes
routes_differ = (((λ is. absurd (true≢false (sym ((same_decides [] ((122 ∷ []) ∷ [])).1 is)))), tt), (tt, tt))

-- ---- an alias, and the set behind it

abbrev led : Message
led = message true 0 (to_b ∷ host b 30 7 ∷ []) []

abbrev pointing : Piece
pointing = set_with 3 0 to_b []

abbrev behind_it : Piece
behind_it = set_with 1 0 (host b 30 7) []

no_address_of_a : LacksAt (seen led) 1 a
no_address_of_a s h = elim h.there [
  | inl is ↦ let five : s.kind ≡ 5 = ap (λ (x : Record). x.kind) is in omega (arith, five, h.kind)
  | inr (inl is) ↦ names_differ (owner_is s (host b 30 7) is ∙ h.name)
  | inr (inr none) ↦ none
]

leads_to_b : IsLoneAlias (seen led) a b
unfolding name_of_rdata name_within walk_in name_step
leads_to_b = record {
  other = λ is. omega (arith, is);
  no_set = no_address_of_a;
  datum = data_of 98;
  alone = data_of_set (record { name = a; kind = 5; class = 1 }) (to_b ∷ host b 30 7 ∷ []) to_b [] refl;
  leads = refl;
}

on_route_b : IsOnRoute (seen led) b
unfolding route_of
on_route_b = route_found_is_longest routes b 0 refl

one_by_one : AreWalked (seen led) (pointing ∷ behind_it ∷ []) found
one_by_one = record {
  targets = b ∷ [];
  last = b;
  lead = (on_route led, leads_to_b, refl);
  aliases = pointing ∷ [];
  closing = behind_it ∷ [];
  parts = refl;
  are = (record { owner = refl; kind_is = refl; each = data_of 98 ∷ []; body = refl }, tt);
  ends = record {
    few = omega arith;
    on_route = on_route_b;
    p = behind_it;
    alone = refl;
    is = record {
      set = record { owner = refl; kind_is = refl; each = ip 7 ∷ []; body = refl };
      one = λ five. absurd (omega (arith, five));
    };
  };
}

both_are_of_it : AllByRecursion (IsPieceOf (seen led)) (pointing ∷ behind_it ∷ [])
both_are_of_it = (
  (each_of_reply (seen led)).sets 5 a pointing refl,
  ((each_of_reply (seen led)).sets 1 b behind_it refl, tt),
)

led_walk : own_walk (seen led) ≡ ending (pointing ∷ behind_it ∷ []) found
unfolding walk_from route_of name_of_rdata name_within walk_in name_step
led_walk = refl

-- the alias is left out
without_the_alias : AreWalked (seen led) (behind_it ∷ []) found → ⊥
without_the_alias h =
    let is : own_walk (seen led) ≡ ending (behind_it ∷ []) found =
    own_walk_only (seen led) (behind_it ∷ []) found routes_differ tt both_are_of_it.1 h in
    let wrong : 2 ≡ 1 = ap (λ (w : Walk). length w.pieces) (sym led_walk ∙ is) in
    omega (arith, wrong)

-- the set behind it is left out, and its name asked for
without_the_set : AreWalked (seen led) (pointing ∷ []) (elsewhere b) → ⊥
without_the_set h =
    let is : own_walk (seen led) ≡ ending (pointing ∷ []) (elsewhere b) =
    own_walk_only (seen led) (pointing ∷ []) (elsewhere b) routes_differ tt (both_are_of_it.0, tt) h in
    absurd (let wrong : found ≡ elsewhere b = ap (λ (w : Walk). w.end) (sym led_walk ∙ is) in cc)

-- ---- an alias that leads on

-- without SOA the name that it leads to has to be asked for
abbrev alone : List Record → Message
alone authority = message true 0 (to_b ∷ []) authority

nothing_of_b : (authority : List Record) (kind : ℕ) → LacksAt (seen (alone authority)) kind b
nothing_of_b authority kind s h = names_differ (sym h.name ∙ sym (owner_is s to_b (only_one s to_b h.there)))

alone_leads_to_b : (authority : List Record) → IsLoneAlias (seen (alone authority)) a b
unfolding name_of_rdata name_within walk_in name_step
alone_leads_to_b authority = record {
  other = λ is. omega (arith, is);
  no_set = λ s h. omega (arith, ap (λ (x : Record). x.kind) (only_one s to_b h.there), h.kind);
  datum = data_of 98;
  alone = data_of_set (record { name = a; kind = 5; class = 1 }) (to_b ∷ []) to_b [] refl;
  leads = refl;
}

-- if what is said of b is that
leads_on_if : (authority : List Record) → HasToBeAsked (seen (alone authority)) 1 b
    → AreWalked (seen (alone authority)) (pointing ∷ []) (elsewhere b)
leads_on_if authority asked = record {
  targets = b ∷ [];
  last = b;
  lead = (on_route (alone authority), alone_leads_to_b authority, refl);
  aliases = pointing ∷ [];
  closing = [];
  parts = refl;
  are = (record { owner = refl; kind_is = refl; each = data_of 98 ∷ []; body = refl }, tt);
  ends = (omega arith, refl, refl, asked);
}

left_open : AreWalked (seen (alone [])) (pointing ∷ []) (elsewhere b)
left_open = leads_on_if [] (inr (inr (record {
  on_route = on_route_b;
  other = λ is. omega (arith, is);
  nothing = record { no_set = nothing_of_b [] 1; no_alias = nothing_of_b [] 5 };
  led = omega arith;
  no_soa = λ h. h.there;
})))

-- an SOA for b says that it has no such data
closed_by_soa : HasToBeAsked (seen (alone (soa e 1 3600 ∷ []))) 1 b → ⊥
closed_by_soa (inl eight) = omega (arith, eight)
closed_by_soa (inr (inl off)) = off on_route_b
closed_by_soa (inr (inr left)) = left.no_soa (record {
  s = soa e 1 3600;
  there = inl refl;
  fits = record { kind = refl; class_is = refl; above = (is_under_decides b e).0 refl };
})

-- nor is it left open when no alias led to it
first_is_not_left_open : IsLeftOpen (seen (message true 0 [] [])) 0 a → ⊥
first_is_not_left_open h = omega (arith, h.led)

-- a name of another route has to be asked for, there
on_route_of_z : HasToBeAsked (seen (alone [])) 1 ((97 ∷ []) ∷ (122 ∷ []) ∷ [])
unfolding route_of
on_route_of_z = inr (inl (off_by_test (seen (alone [])) ((97 ∷ []) ∷ (122 ∷ []) ∷ []) routes_differ refl))

-- and no set there is taken
set_of_another_route : (pieces : List Piece)
    → EndsSo (seen (alone [])) 1 ((97 ∷ []) ∷ (122 ∷ []) ∷ []) pieces found → ⊥
unfolding route_of
set_of_another_route pieces h =
    off_by_test (seen (alone [])) ((97 ∷ []) ∷ (122 ∷ []) ∷ []) routes_differ refl h.on_route

-- ---- a name error, and no data

abbrev missing : ℕ → Message
missing rcode = message true rcode [] []

walked_to_error : AreWalked (seen (missing 3)) (name_error_at (seen (missing 3)) a ∷ []) ends_denied
walked_to_error = record {
  targets = [];
  last = a;
  lead = refl;
  aliases = [];
  closing = name_error_at (seen (missing 3)) a ∷ [];
  parts = refl;
  are = tt;
  ends = record {
    few = omega arith;
    on_route = on_route (missing 3);
    p = name_error_at (seen (missing 3)) a;
    alone = refl;
    is = record {
      rcode = refl;
      nothing = record { no_set = λ s h. h.there; no_alias = λ s h. h.there };
      owner = refl;
      kind_is = refl;
      soa = None;
      body = refl;
    };
  };
}

missing_walk : own_walk (seen (missing 3)) ≡ ending (name_error_at (seen (missing 3)) a ∷ []) ends_denied
unfolding walk_from route_of
missing_walk = refl

-- RCODE 3 is of the whole name, and the type alone is not denied
no_data_of_an_error : AreWalked (seen (missing 3)) (no_data_at (seen (missing 3)) a ∷ []) ends_no_data → ⊥
no_data_of_an_error h =
    let is : own_walk (seen (missing 3)) ≡ ending (no_data_at (seen (missing 3)) a ∷ []) ends_no_data =
    own_walk_only (seen (missing 3)) (no_data_at (seen (missing 3)) a ∷ []) ends_no_data routes_differ tt
    ((each_of_reply (seen (missing 3))).none a, tt) h in
    absurd (let wrong : ends_denied ≡ ends_no_data = ap (λ (w : Walk). w.end) (sym missing_walk ∙ is) in cc)

-- ---- a referral

abbrev handed_on : Bool → Message
handed_on aa = message aa 0 [] (ns e 1 ∷ [])

no_soa_there : (s : Record) → s ≡ ns e 1 → s.kind ≡ 6 → ⊥
no_soa_there s is six = omega (arith, ap (λ (x : Record). x.kind) is, six)

referred : AreWalked (seen (handed_on false)) [] lame
referred = (
  refl,
  record {
    targets = [];
    last = a;
    lead = refl;
    few = omega arith;
    on_route = on_route (handed_on false);
    lame_is = inr (inr (record {
      first = refl;
      other = λ is. omega (arith, is);
      nothing = record { no_set = λ s h. h.there; no_alias = λ s h. h.there };
      no_soa = λ h. no_soa_there h.s (only_one h.s (ns e 1) h.there) h.fits.kind;
      refers = record { clear = refl; s = ns e 1; there = inl refl; kind = refl };
    }));
  },
)

-- an authoritative reply with the same sections says that there is no data
told_by_authority : AreWalked (seen (handed_on true)) (no_data_at (seen (handed_on true)) a ∷ []) ends_no_data
told_by_authority = record {
  targets = [];
  last = a;
  lead = refl;
  aliases = [];
  closing = no_data_at (seen (handed_on true)) a ∷ [];
  parts = refl;
  are = tt;
  ends = record {
    few = omega arith;
    on_route = on_route (handed_on true);
    p = no_data_at (seen (handed_on true)) a;
    alone = refl;
    is = record {
      other = λ is. omega (arith, is);
      nothing = record { no_set = λ s h. h.there; no_alias = λ s h. h.there };
      stated = inr (refl, λ h. true≢false h.clear);
      owner = refl;
      kind_is = refl;
      soa = None;
      body = refl;
    };
  };
}

no_data_of_a_referral : AreWalked (seen (handed_on false)) (no_data_at (seen (handed_on false)) a ∷ []) ends_no_data
    → ⊥
no_data_of_a_referral h = elim h.ends.is.stated [
  | inl there ↦ no_soa_there there.s (only_one there.s (ns e 1) there.there) there.fits.kind
  | inr own ↦ own.1 (record { clear = refl; s = ns e 1; there = inl refl; kind = refl })
]

-- ---- two aliases

abbrev to_e : Record
to_e = alias a (1 ∷ 101 ∷ 0 ∷ [])

abbrev doubled : Message
doubled = message true 0 (to_b ∷ to_e ∷ []) (ns e 1 ∷ [])

two : HasTwoAliases (seen doubled) a
two = record {
  s = to_b;
  t = to_e;
  first = record { there = inl refl; kind = refl; class = refl; name = refl };
  second = record { there = inr (inl refl); kind = refl; class = refl; name = refl };
  differ = differ (data_of 98) (1 ∷ 101 ∷ 0 ∷ []) refl;
}

no_address : (s : Record) → IsRecordFor address (to_b ∷ to_e ∷ []) s → ⊥
no_address s h = elim h.there [
  | inl is ↦ omega (arith, ap (λ (x : Record). x.kind) is, h.kind)
  | inr (inl is) ↦ omega (arith, ap (λ (x : Record). x.kind) is, h.kind)
  | inr (inr none) ↦ none
]

two_are_lame : AreWalked (seen doubled) [] lame
two_are_lame = (
  refl,
  record {
    targets = [];
    last = a;
    lead = refl;
    few = omega arith;
    on_route = on_route doubled;
    lame_is = inr (inl (record { other = λ is. omega (arith, is); no_set = no_address; lost = inl two }));
  },
)

-- one alias, twice in the section
one_is_not_two : HasTwoAliases (seen (message true 0 (to_b ∷ to_b ∷ []) [])) a → ⊥
one_is_not_two h = h.differ (ap (λ (x : Record). x.rdata) (only h.s h.first.there) ∙ sym (ap (λ (x : Record). x.rdata) (only h.t h.second.there)))
  where
    only : (s : Record) → IsOneOf s (to_b ∷ to_b ∷ []) → s ≡ to_b
    only s (inl is) = is
    only s (inr (inl is)) = is
    only s (inr (inr none)) = absurd none

-- lame too if CNAME is asked for, and only then
two_are_asked : AsksForTwo (reply_of config doubled (record { name = a; kind = 5; class = 1 }) 0) a
two_are_asked = record {
  asked = refl;
  two = record {
    s = to_b;
    t = to_e;
    first = record { there = inl refl; kind = refl; class = refl; name = refl };
    second = record { there = inr (inl refl); kind = refl; class = refl; name = refl };
    differ = differ (data_of 98) (1 ∷ 101 ∷ 0 ∷ []) refl;
  };
}

address_is_asked : AsksForTwo (seen doubled) a → ⊥
address_is_asked h = omega (arith, h.asked)

-- an alias whose data is a label cut off has no target
cut_off : HasNoTarget (seen (message true 0 (alias a (1 ∷ []) ∷ []) [])) a
unfolding name_of_rdata name_within walk_in name_step
cut_off = record {
  s = alias a (1 ∷ []);
  fits = record { there = inl refl; kind = refl; class = refl; name = refl };
  none = refl;
}

whole_name : HasNoTarget (seen (alone [])) a → ⊥
unfolding name_of_rdata name_within walk_in name_step
whole_name h = absurd (let wrong : Some b ≡ None = sym (ap (λ (x : Record). name_of_rdata x.rdata) (only_one h.s to_b h.fits.there)) ∙ h.none in cc)

-- a lame reply carries no name servers, though it is authoritative
abbrev of_e : Piece
of_e = set_with 2 0 (ns e 1) []

lame_carries_none : IsCarriedBy config doubled address 0 [] [] lame
lame_carries_none = record {
  each = tt;
  walk = two_are_lame;
  servers_are = λ _ living. absurd (living refl);
  none_without_authority = λ _. refl;
  none_if_lame = λ _. refl;
}

lame_carries_servers : IsCarriedBy config doubled address 0 [] (of_e ∷ []) lame → ⊥
lame_carries_servers h = absurd (let wrong : of_e ∷ [] ≡ [] = h.none_if_lame refl in cc)

-- ---- name servers beside an address

-- of e, of the root, and of b.e, which is no name above the asked one
abbrev with_servers : Bool → Message
with_servers aa = message aa 0 (host a 300 5 ∷ []) (ns e 1 ∷ ns [] 1 ∷ ns b 1 ∷ [])

abbrev asked : Reply
asked = seen (with_servers true)

abbrev own : List Piece
own = set_with 3 0 (host a 300 5) [] ∷ []

abbrev of_root : Piece
of_root = set_with 2 0 (ns [] 1) []

abbrev of_b : Piece
of_b = set_with 2 0 (ns b 1) []

all_there : AreServers asked own (of_e ∷ of_root ∷ [])
unfolding servers_from route_of
all_there = servers_allowed asked own routes_differ

-- a reply without authority carries none of them, though all else would hold
abbrev own_unranked : List Piece
own_unranked = set_with 1 0 (host a 300 5) [] ∷ []

without_authority : IsCarriedBy config (with_servers false) address 0 own_unranked [] found
unfolding walk_from servers_from route_of
without_authority = carried_exactly.is config (with_servers false) address 0 routes_differ

servers_without_authority : IsCarriedBy config (with_servers false) address 0 own_unranked (of_e ∷ of_root ∷ []) found
    → ⊥
servers_without_authority h = absurd (let wrong : of_e ∷ of_root ∷ [] ≡ [] = h.none_without_authority refl in cc)

-- one is left out: all else holds of the other alone
one_of_two : AllByRecursion (IsServerSet asked own) (of_e ∷ []) × OwnersDiffer (of_e ∷ [])
one_of_two = ((all_there.each.0, tt), (λ p there _. there, tt))

root_differs : IsSame e [] → ⊥
root_differs is = true≢false (sym ((same_decides e []).1 is))

root_is_to_be_carried : IsServerFor asked own (ns [] 1)
root_is_to_be_carried = record {
  server = record { there = inr (inl refl); kind = refl; class = refl; above = (is_under_decides a []).0 refl };
  on_route = all_there.each.1.0.on_route;
  no_piece = all_there.each.1.0.no_piece;
}

root_left_out : AreServers asked own (of_e ∷ []) → ⊥
root_left_out h =
    let carried : IsCarriedIn (of_e ∷ []) (ns [] 1) = h.all (ns [] 1) root_is_to_be_carried in
    root_differs (sym (ap (λ (x : Piece). lowered x.owner) (only_one carried.set of_e carried.there)) ∙ carried.owner)

-- they are turned round: each is one, all are there, and no two of one owner
turned : AllByRecursion (IsServerSet asked own) (of_root ∷ of_e ∷ []) × OwnersDiffer (of_root ∷ of_e ∷ [])
turned = (
  (all_there.each.1.0, (all_there.each.0, tt)),
  (
    λ p there is. root_differs (sym (ap (λ (x : Piece). lowered x.owner) (only_one p of_e there)) ∙ is),
    (λ p there _. there, tt),
  ),
)

all_are_still_there : (s : Record) → IsServerFor asked own s → IsCarriedIn (of_root ∷ of_e ∷ []) s
all_are_still_there s fit =
    let h : IsCarriedIn (of_e ∷ of_root ∷ []) s = all_there.all s fit in
    record {
      set = h.set;
      there = elim h.there [
        | inl first ↦ inr (inl first)
        | inr (inl second) ↦ inl second
        | inr (inr none) ↦ absurd none
      ];
      owner = h.owner;
      each = h.each;
      body = h.body;
      row = h.row;
    }

turned_round : AreServers asked own (of_root ∷ of_e ∷ []) → ⊥
turned_round h = elim (h.in_order of_root of_e (inl (refl, inl refl))) [
  | inl first ↦ root_differs first.name
  | inr later ↦ later.0 (record { there = inl refl; kind = refl; class = refl; name = refl })
]

-- one is there twice
twice : AreServers asked own (of_e ∷ of_e ∷ of_root ∷ []) → ⊥
twice h = h.apart.0 of_e (inl refl) refl

-- one is of no name above the asked one
of_a_sibling : IsServerSet asked own of_b → ⊥
of_a_sibling h = true≢false (sym ((is_under_decides a b).1 h.above))

-- and one is ranked as an answer
ranked_higher : IsServerSet asked own (set_with 3 0 (ns e 1) []) → ⊥
ranked_higher h = omega (arith, h.ranked)
