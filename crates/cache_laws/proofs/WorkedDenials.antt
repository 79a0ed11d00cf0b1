-- Worked denials, of no such name and of no data: for each thing that a law says, one that is so,
-- and a similar one that is not.
use Rattle.std.proofs.Common.{◌≡◌, ℕ, Bool, true, false, inl, inr, List, [], ◌∷◌, ◌++◌, Option}
use Rattle.std.proofs.Common.{Some, None, refl, sym, ap, ◌∙◌, subst, arith}
use Rattle.std.proofs.lemmas.Bool.{false≢true}
use Rattle.dns_name.specs.Labels.{is_under}
use Rattle.dns_name.proofs.CallerLemmas.{is_under_decides}
use Rattle.dns_message.specs.Values.{Record, Message}
use Rattle.dns_message.specs.Data.{name_of_rdata}
use Rattle.dns_message.specs.Names.{step as name_step, walk_in, name_within}
use Rattle.suffix_routes.specs.Routes.{route_of}
use Rattle.trust_rank.specs.Values.{no_data, denied, Piece, ends_no_data, ends_denied, elsewhere}
use Rattle.trust_rank.specs.Values.{lame, Reply, reply_of}
use Rattle.trust_rank.specs.Denials.{no_data_with}
use Rattle.trust_rank.specs.Walks.{walk_from, servers_from, walk_of}
use Rattle.cache_laws.specs.Denials.{LacksAt, IsAliasAt, IsDeniedAt, LeadsToDenied}
use Rattle.cache_laws.specs.Lifetimes.{IsSoaFor, IsFirstSoa, IsLeastOf, LivesBy, IsDenialFrom}
use Rattle.cache_laws.specs.Ends.{IsBareAt, LeadsToBare, IsReferral, LeadsToNoData}
use Rattle.cache_laws.proofs.Lists.{only_one}
use Rattle.cache_laws.proofs.Sets.{data_of_set, top_bit_is_none}
use Rattle.cache_laws.proofs.Denials.{denies_exactly}
use Rattle.cache_laws.proofs.Lifetimes.{lives_by}
use Rattle.cache_laws.proofs.Ends.{no_data_exactly}
use Rattle.cache_laws.proofs.Worked.{config, e, data_of, a, b, address, alias, ns, message}
use Rattle.cache_laws.proofs.Worked.{names_differ, owner_is}

-- ---- denials

-- a.e is an alias of b.e, of which there is nothing
abbrev pub to_b : Record
to_b = alias a (data_of 98)

abbrev led : ℕ → Reply
led rcode = reply_of config (message true rcode (to_b ∷ []) []) address 0

nothing_of_b : (rcode kind : ℕ) → LacksAt (led rcode) kind b
nothing_of_b rcode kind s h = names_differ (sym h.name ∙ sym (owner_is s to_b (only_one s to_b h.there)))

no_address_of_a : (rcode : ℕ) → LacksAt (led rcode) 1 a
no_address_of_a rcode s h =
    let five : s.kind ≡ 5 = ap (λ (x : Record). x.kind) (only_one s to_b h.there) in omega (arith, five, h.kind)

an_alias_of_a : (rcode : ℕ) → LacksAt (led rcode) 5 a → ⊥
an_alias_of_a rcode none = none to_b (record { there = inl refl; kind = refl; class = refl; name = refl })

last_is_denied : IsDeniedAt (led 3) b
unfolding route_of
last_is_denied = record {
  on_route = refl;
  rcode = refl;
  nothing = record { no_set = nothing_of_b 3 1; no_alias = nothing_of_b 3 5 };
}

first_is_denied : IsDeniedAt (led 3) a → ⊥
first_is_denied h = an_alias_of_a 3 h.nothing.no_alias

denied_without_the_code : IsDeniedAt (led 0) b → ⊥
denied_without_the_code h = omega (arith, h.rcode)

alias_at_the_first : (rcode : ℕ) (authority : List Record)
    → IsAliasAt (reply_of config (message true rcode (to_b ∷ []) authority) address 0) a b
unfolding route_of name_of_rdata name_within walk_in name_step
alias_at_the_first rcode authority = record {
  on_route = refl;
  alias = record {
    other = λ is. omega (arith, is);
    no_set = no_address_of_a rcode;
    datum = data_of 98;
    alone = data_of_set (record { name = a; kind = 5; class = 1 }) (to_b ∷ []) to_b [] refl;
    leads = refl;
  };
}

alias_at_the_last : IsAliasAt (led 3) b a → ⊥
alias_at_the_last h = let d = h.alias.alone.only h.alias.datum (inl refl) in nothing_of_b 3 5 d.r d.fits

leads : LeadsToDenied (led 3)
leads = record {
  count = 1;
  last = b;
  few = omega arith;
  lead = (b, alias_at_the_first 3 [], refl);
  denied = last_is_denied;
}

-- an alias to itself leads to no such name
abbrev itself : Message
itself = message true 3 (alias a (data_of 97) ∷ []) []

itself_goes_on : (walk_of config itself address 0).end ≡ elsewhere a
unfolding walk_from servers_from route_of name_of_rdata name_within walk_in name_step
itself_goes_on = refl

leads_nowhere : LeadsToDenied (reply_of config itself address 0) → ⊥
leads_nowhere h = absurd (let wrong : elsewhere a ≡ ends_denied =
    sym itself_goes_on ∙ denies_exactly.each config itself address 0 h in cc)

-- ---- the SOA of a denial, and its lifetime

-- with a MINIMUM of 600 seconds, after two names of the root and four other numbers
abbrev pub other_numbers : List ℕ
other_numbers = 0 ∷ 0 ∷ 0 ∷ 0 ∷ 0 ∷ 1 ∷ 0 ∷ 0 ∷ 0 ∷ 2 ∷ 0 ∷ 0 ∷ 0 ∷ 3 ∷ 0 ∷ 0 ∷ 0 ∷ 4 ∷ []

abbrev pub soa : List (List ℕ) → ℕ → ℕ → Record
soa owner class ttl =
    record { owner = owner; kind = 6; class = class; ttl = ttl; rdata = other_numbers ++ 0 ∷ 0 ∷ 2 ∷ 88 ∷ [] }

pub soa_fits : IsSoaFor 1 a (soa e 1 3600)
soa_fits = record { kind = refl; class_is = refl; above = (is_under_decides a e).0 refl }

server_is_no_soa : IsSoaFor 1 a (ns e 1) → ⊥
server_is_no_soa h = omega (arith, h.kind)

soa_of_another_class : IsSoaFor 1 a (soa e 3 3600) → ⊥
soa_of_another_class h = omega (arith, h.class_is)

soa_of_a_sibling : (ttl : ℕ) → IsSoaFor 1 a (soa b 1 ttl) → ⊥
soa_of_a_sibling ttl h = let yes : is_under a b ≡ true = (is_under_decides a b).1 h.above in false≢true yes

-- the first that fits, though one above it fits too
abbrev soas : List Record
soas = ns e 1 ∷ soa b 1 60 ∷ soa e 1 3600 ∷ soa [] 1 60 ∷ []

first_that_fits : IsFirstSoa 1 a soas (Some (soa e 1 3600))
first_that_fits = inr (server_is_no_soa, inr (soa_of_a_sibling 60, inl (soa_fits, refl)))

abbrev two_soas : List Record
two_soas = soa e 1 3600 ∷ soa [] 1 60 ∷ []

second_that_fits : IsFirstSoa 1 a two_soas (Some (soa [] 1 60)) → ⊥
second_that_fits h = elim h [
  | inl first ↦
      let is : Some (soa [] 1 60) ≡ Some (soa e 1 3600) = first.1 in
      let wrong : 60 ≡ 3600 = ap ttl_in is in
      omega (arith, wrong)
  | inr later ↦ later.0 soa_fits
]
  where
    ttl_in : Option Record → ℕ
    ttl_in None = 0
    ttl_in (Some s) = s.ttl

none_fits : IsFirstSoa 1 a (soa b 1 60 ∷ []) None
none_fits = inr (soa_of_a_sibling 60, refl)

none_though_one_fits : IsFirstSoa 1 a two_soas None → ⊥
none_though_one_fits h = elim h [
  | inl first ↦ absurd (let wrong : None ≡ Some (soa e 1 3600) = first.1 in cc)
  | inr later ↦ later.0 soa_fits
]

-- each of the three may be the least
minimum_is_least : IsLeastOf 3600 600 600
minimum_is_least = record {
  within_ttl = omega arith;
  within_minimum = omega arith;
  within_three_hours = omega arith;
  one = inr (inl refl);
}

ttl_is_least : IsLeastOf 60 600 60
ttl_is_least = record {
  within_ttl = omega arith;
  within_minimum = omega arith;
  within_three_hours = omega arith;
  one = inl refl;
}

three_hours_are_least : IsLeastOf 86400 86400 10800
three_hours_are_least = record {
  within_ttl = omega arith;
  within_minimum = omega arith;
  within_three_hours = omega arith;
  one = inr (inr refl);
}

past_minimum : IsLeastOf 3600 600 601 → ⊥
past_minimum h = omega (arith, h.within_minimum)

past_ttl : IsLeastOf 60 600 61 → ⊥
past_ttl h = omega (arith, h.within_ttl)

past_three_hours : IsLeastOf 86400 86400 10801 → ⊥
past_three_hours h = omega (arith, h.within_three_hours)

below_all_three : IsLeastOf 3600 600 599 → ⊥
below_all_three h = elim h.one [
  | inl is ↦ omega (arith, is)
  | inr (inl is) ↦ omega (arith, is)
  | inr (inr is) ↦ omega (arith, is)
]

pub lives_ten_minutes : LivesBy (Some (soa e 1 3600)) 600
lives_ten_minutes = lives_by (Some (soa e 1 3600))

pub lives_a_second_more : LivesBy (Some (soa e 1 3600)) 601 → ⊥
lives_a_second_more h = let least : IsLeastOf 3600 600 601 =
    h other_numbers 0 0 2 88 3600 refl (top_bit_is_none 3600) in past_minimum least

-- the TTL alone would be an hour
lives_by_ttl_alone : LivesBy (Some (soa e 1 3600)) 3600 → ⊥
lives_by_ttl_alone h = let least : IsLeastOf 3600 600 3600 =
    h other_numbers 0 0 2 88 3600 refl (top_bit_is_none 3600) in omega (arith, least.within_minimum)

lives_without_soa : LivesBy None 1 → ⊥
lives_without_soa h = omega (arith, h)

-- NODATA of a.e holds that SOA, and lives by it
abbrev no_address : Piece
no_address = no_data_with 3 0 a 1 1 (Some (soa e 1 3600))

denial_is_from : IsDenialFrom 1 soas no_address
denial_is_from = record {
  of_type = λ held body.
      let is : Some (soa e 1 3600) ≡ held = (let told : no_data (Some (soa e 1 3600)) ≡ no_data held = body in cc) in
      record {
        first = subst (IsFirstSoa 1 a soas) is first_that_fits;
        lives = subst (λ (o : Option Record). LivesBy o 600) is lives_ten_minutes;
      };
  of_name = λ held body. absurd (let wrong : no_data (Some (soa e 1 3600)) ≡ denied held = body in cc);
}

denial_without_its_soa : IsDenialFrom 1 soas (no_data_with 3 0 a 1 1 None) → ⊥
denial_without_its_soa h = elim (h.of_type None refl).first [
  | inl first ↦ server_is_no_soa first.0
  | inr one ↦ elim one.1 [
    | inl second ↦ soa_of_a_sibling 60 second.0
    | inr two ↦ elim two.1 [
      | inl third ↦ absurd (let wrong : None ≡ Some (soa e 1 3600) = third.1 in cc)
      | inr three ↦ three.0 soa_fits
    ]
  ]
]

-- ---- no data, an alias alone, and a referral

-- an alias that leads to b.e, or nothing, with this authority section
abbrev behind_alias : ℕ → List Record → Message
behind_alias rcode authority = message true rcode (to_b ∷ []) authority

abbrev empty : Bool → List Record → Message
empty aa authority = message aa 0 [] authority

abbrev seen : Message → Reply
seen m = reply_of config m address 0

bare_behind_the_alias : IsBareAt (seen (behind_alias 0 [])) b
unfolding route_of
bare_behind_the_alias = record {
  on_route = refl;
  other = λ is. omega (arith, is);
  nothing = record { no_set = nothing_of_b 0 1; no_alias = nothing_of_b 0 5 };
}

denied_is_not_bare : IsBareAt (seen (behind_alias 3 [])) b → ⊥
denied_is_not_bare h = h.other refl

alias_is_not_bare : IsBareAt (seen (behind_alias 0 [])) a → ⊥
alias_is_not_bare h = an_alias_of_a 0 h.nothing.no_alias

leads_to_bare : (authority : List Record) → LeadsToBare (seen (behind_alias 0 authority)) 1 b
unfolding route_of
leads_to_bare authority = record {
  few = omega arith;
  lead = (b, alias_at_the_first 0 authority, refl);
  bare = record {
    on_route = refl;
    other = λ is. omega (arith, is);
    nothing = record { no_set = nothing_of_b 0 1; no_alias = nothing_of_b 0 5 };
  };
}

asked_is_bare : (aa : Bool) (authority : List Record) → LeadsToBare (seen (empty aa authority)) 0 a
unfolding route_of
asked_is_bare aa authority = record {
  few = omega arith;
  lead = refl;
  bare = record {
    on_route = refl;
    other = λ is. omega (arith, is);
    nothing = record { no_set = λ s h. h.there; no_alias = λ s h. h.there };
  };
}

pub refers_on : IsReferral (seen (empty false (ns e 1 ∷ [])))
refers_on = record { clear = refl; s = ns e 1; there = inl refl; kind = refl }

authoritative_is_no_referral : IsReferral (seen (empty true (ns e 1 ∷ []))) → ⊥
authoritative_is_no_referral h = false≢true (sym h.clear)

without_servers_is_no_referral : IsReferral (seen (empty false (soa e 1 3600 ∷ []))) → ⊥
without_servers_is_no_referral h = let six : h.s.kind ≡ 6 =
    ap (λ (x : Record). x.kind) (only_one h.s (soa e 1 3600) h.there) in omega (arith, six, h.kind)

-- after an alias there is no data where an SOA is there
told_with_soa : LeadsToNoData (seen (behind_alias 0 (soa e 1 3600 ∷ [])))
told_with_soa = record {
  count = 1;
  last = b;
  leads = leads_to_bare (soa e 1 3600 ∷ []);
  stated = inl (record {
    s = soa e 1 3600;
    there = inl refl;
    fits = record { kind = refl; class_is = refl; above = (is_under_decides b e).0 refl };
  });
}

ends_with_soa : (walk_of config (behind_alias 0 (soa e 1 3600 ∷ [])) address 0).end ≡ ends_no_data
unfolding walk_from servers_from route_of name_of_rdata name_within walk_in name_step
ends_with_soa = refl

-- with none the alias leads on, though the same is true of its target
alias_alone_leads_on : (walk_of config (behind_alias 0 []) address 0).end ≡ elsewhere b
unfolding walk_from servers_from route_of name_of_rdata name_within walk_in name_step
alias_alone_leads_on = refl

told_without_soa : LeadsToNoData (seen (behind_alias 0 [])) → ⊥
told_without_soa h = absurd (let wrong : elsewhere b ≡ ends_no_data =
    sym alias_alone_leads_on ∙ no_data_exactly.each config (behind_alias 0 []) address 0 h in cc)

-- of the asked name itself there is none, unless the reply refers on
told_by_its_server : LeadsToNoData (seen (empty true (ns e 1 ∷ [])))
told_by_its_server = record {
  count = 0;
  last = a;
  leads = asked_is_bare true (ns e 1 ∷ []);
  stated = inr (refl, authoritative_is_no_referral);
}

ends_by_its_server : (walk_of config (empty true (ns e 1 ∷ [])) address 0).end ≡ ends_no_data
unfolding walk_from servers_from route_of
ends_by_its_server = refl

referral_is_lame : (walk_of config (empty false (ns e 1 ∷ [])) address 0).end ≡ lame
unfolding walk_from servers_from route_of
referral_is_lame = refl

-- and unless an SOA is there next to the name servers
referral_with_soa : (walk_of config (empty false (ns e 1 ∷ soa e 1 3600 ∷ [])) address 0).end ≡ ends_no_data
unfolding walk_from servers_from route_of
referral_with_soa = refl

told_by_a_referral : LeadsToNoData (seen (empty false (ns e 1 ∷ []))) → ⊥
told_by_a_referral h = absurd (let wrong : lame ≡ ends_no_data =
    sym referral_is_lame ∙ no_data_exactly.each config (empty false (ns e 1 ∷ [])) address 0 h in cc)
