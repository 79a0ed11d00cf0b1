-- The name servers next to the walk are exactly the servers allowed by the definitions.
use Rattle.std.proofs.Common.{◌≡◌, ℕ, true, false, ◌⊎◌, inl, inr, List, [], ◌∷◌, ◌++◌, Some, refl, sym, ap}
use Rattle.std.proofs.Common.{◌∙◌, subst}
use Rattle.std.specs.Prelude.{not}
use Rattle.std.specs.List.{list_any, AllByRecursion}
use Rattle.std.proofs.lemmas.Bool.{cond_both, cases_Bool, both_ways, and_parts}
use Rattle.dns_name.specs.Labels.{lowered, same, IsSame, IsUnder}
use Rattle.dns_name.proofs.CallerLemmas.{same_decides, is_under_decides, under_respects_same}
use Rattle.dns_message.specs.Values.{Question, Record}
use Rattle.suffix_routes.specs.Values.{AllDiffer}
use Rattle.suffix_routes.proofs.RouteLaws.{answer_of_same}
use Rattle.trust_rank.specs.Values.{Piece, Reply}
use Rattle.trust_rank.specs.Sets.{records_for, with_all_data}
use Rattle.trust_rank.specs.Walks.{is_server_for, has_owner, begins_set, servers_with, servers_from}
use Rattle.cache_laws.specs.Lists.{IsOneOf, NoneTwice, IsBefore}
use Rattle.cache_laws.specs.Sets.{IsRecordFor, IsSetFrom}
use Rattle.cache_laws.specs.Servers.{NoneOwns, IsCarriedIn, OwnersDiffer}
use Rattle.cache_laws.specs.Carried.{IsOfReply, IsSetAt, IsOnRoute, IsServerFor, IsServerSet, servers_of, BeginsFirst}
use Rattle.cache_laws.specs.Carried.{AreServers}
use Rattle.cache_laws.proofs.Lists.{before, behind}
use Rattle.cache_laws.proofs.Sets.{question_for}
use Rattle.cache_laws.proofs.Ranks.{servers_ranked}
use Rattle.cache_laws.proofs.Servers.{none_owns, Serves, serves, is_server, all_carried, serves_too}
use Rattle.cache_laws.proofs.Servers.{and_one, servers_whole, servers_apart}
use Rattle.cache_laws.proofs.Single.{AreApart, one_list, one_set}
use Rattle.cache_laws.proofs.AtNames.{tested_on, on_by_test, IsThere, is_there}

-- ---- lists

all_one : (P : Piece → Type 0) (ps : List Piece) (p : Piece) → AllByRecursion P ps → IsOneOf p ps → P p
all_one P [] p all there = absurd there
all_one P (x ∷ ps) p all (inl is) = subst P (sym is) all.0
all_one P (x ∷ ps) p all (inr rest) = all_one P ps p all.1 rest

all_from : (P : Piece → Type 0) (ps : List Piece) → ((p : Piece) → IsOneOf p ps → P p) → AllByRecursion P ps
all_from P [] each = tt
all_from P (p ∷ ps) each = (each p (inl refl), all_from P ps (λ q there. each q (inr there)))

second_in : (p q : Piece) (ps : List Piece) → IsBefore p q ps → IsOneOf q ps
second_in p q [] h = absurd h
second_in p q (x ∷ ps) (inl h) = inr h.1
second_in p q (x ∷ ps) (inr h) = inr (second_in p q ps h)

-- ---- each set is of name servers

record IsServed (r : Reply) (p : Piece) : Type 0 where
  pub at : IsSetAt 2 p.owner p
  pub own : IsOfReply r p
  -- as a record of the set would be
  pub first : Record
  pub owner : p.owner ≡ first.owner
  pub serves : Serves r first

served_with : (r : Reply) (carried : List Piece) (first : Record) (others : List Record)
    → begins_set r carried first ≡ true → IsServed r (servers_with r first others)
served_with r carried first others begun =
    let s : Serves r first = serves r first
    (and_parts (is_server_for r first) (not (list_any (has_owner first.owner) carried)) begun).0 in
    record {
      at = record {
        owner = refl;
        kind_is = ap Some s.kind;
        each = with_all_data (first.rdata ∷ []) (records_for (question_for first) others);
        body = refl;
      };
      own = record { name = refl; class = s.class; route = refl };
      first = first;
      owner = refl;
      serves = s;
    }

all_served : (r : Reply) (carried : List Piece) (records : List Record)
    → AllByRecursion (IsServed r) (servers_from r carried records)
unfolding servers_from
all_served r carried [] = tt
all_served r carried (first ∷ others) = cond_both (begins_set r carried first) (servers_with r first others ∷ []) []
    (λ (put : List Piece). AllByRecursion (IsServed r) (put ++ servers_from r (carried ++ put) others))
    (λ begun. (
      served_with r carried first others begun,
      all_served r (carried ++ servers_with r first others ∷ []) others,
    ))
    (λ _. all_served r (carried ++ []) others)

-- ---- the sets are in the order of their first records

-- a record of this owner's name servers serves like the set's records
serves_alike : (r : Reply) (q : Piece) (s : Record) (records : List Record) → IsServed r q
    → IsRecordFor (servers_of r q) records s → Serves r s
serves_alike r q s records served fits = serves_too r served.first s served.serves (record {
  kind = fits.kind ∙ sym served.serves.kind;
  class = fits.class ∙ sym served.serves.class;
  name = fits.name ∙ ap (λ (n : List (List ℕ)). lowered n) served.owner;
})

-- the set of the first record comes before each later set
first_begins : (r : Reply) (carried : List Piece) (first : Record) (others : List Record) (p q : Piece)
    → begins_set r carried first ≡ true → p ≡ servers_with r first others → BeginsFirst r (first ∷ others) p q
first_begins r carried first others p q begun is =
    let s : Serves r first = serves r first
    (and_parts (is_server_for r first) (not (list_any (has_owner first.owner) carried)) begun).0 in
    inl (record {
      there = inl refl;
      kind = s.kind;
      class = s.class;
      name = sym (ap (λ (x : Piece). lowered x.owner) is);
    })

-- and its first record is not of a later set
not_of_another : (r : Reply) (carried : List Piece) (first : Record) (others : List Record) (set q : Piece)
    → set.owner ≡ first.owner → IsOneOf q (servers_from r (carried ++ set ∷ []) others)
    → IsRecordFor (servers_of r q) (first ∷ others) first → ⊥
not_of_another r carried first others set q owner there fits =
    all_one (λ (x : Piece). NoneOwns x.owner (carried ++ set ∷ [])) (servers_from r (carried ++ set ∷ []) others) q
    (servers_apart r (carried ++ set ∷ []) others).0 there set (behind set carried (set ∷ []) (inl refl))
    (ap lowered owner ∙ fits.name)

-- nor is a first record beginning no set
not_of_later : (r : Reply) (carried : List Piece) (first : Record) (others : List Record) (q : Piece)
    → begins_set r carried first ≡ false → IsOneOf q (servers_from r (carried ++ []) others)
    → IsRecordFor (servers_of r q) (first ∷ others) first → ⊥
not_of_later r carried first others q isnt there fits =
    let later : List Piece = servers_from r (carried ++ []) others in
    let s : Serves r first = serves_alike r q first (first ∷ others)
    (all_one (IsServed r) later q (all_served r (carried ++ []) others) there) fits in
    let apart : NoneOwns q.owner (carried ++ []) = all_one (λ (x : Piece). NoneOwns x.owner (carried ++ []))
    later q (servers_apart r (carried ++ []) others).0 there in
    let none : list_any (has_owner first.owner) carried ≡ false = none_owns first.owner carried
    (λ y is_there is. apart y (before y carried [] is_there) (is ∙ fits.name)) in
    both_ways (begins_set r carried first) isnt
    (and_one (is_server_for r first) (list_any (has_owner first.owner) carried) (is_server r first s) none)

in_order : (r : Reply) (carried : List Piece) (records : List Record) (p q : Piece)
    → IsBefore p q (servers_from r carried records) → BeginsFirst r records p q
unfolding servers_from
in_order r carried [] p q h = absurd h
in_order r carried (first ∷ others) p q h = cond_both (begins_set r carried first) (servers_with r first others ∷ []) []
    (λ (put : List Piece). IsBefore p q (put ++ servers_from r (carried ++ put) others)
    → BeginsFirst r (first ∷ others) p q)
    (λ begun in_front. elim in_front [
      | inl own ↦ first_begins r carried first others p q begun own.0
      | inr later ↦ inr (
        not_of_another r carried first others (servers_with r first others) q refl
            (second_in p q (servers_from r (carried ++ servers_with r first others ∷ []) others) later),
        in_order r (carried ++ servers_with r first others ∷ []) others p q later,
      )
    ])
    (λ isnt in_front. inr (
      not_of_later r carried first others q isnt
          (second_in p q (servers_from r (carried ++ []) others) in_front),
      in_order r (carried ++ []) others p q in_front,
    ))
    h

-- ---- the walk's sets are allowed

set_allowed : (r : Reply) (pieces : List Piece) (p : Piece) → IsOneOf p (servers_from r pieces r.authority)
    → IsServerSet r pieces p
set_allowed r pieces p there =
    let sets : List Piece = servers_from r pieces r.authority in
    let served : IsServed r p = all_one (IsServed r) sets p (all_served r pieces r.authority) there in
    record {
      set = all_one (IsSetFrom r.authority) sets p (servers_whole r pieces) there;
      at = served.at;
      ranked = all_one (λ (x : Piece). x.rank ≡ 2) sets p (servers_ranked r pieces r.authority) there;
      own = served.own;
      above = subst (λ (n : List (List ℕ)). IsUnder r.question.name n) (sym served.owner)
          ((is_under_decides r.question.name served.first.owner).0 served.serves.above);
      on_route = subst (IsOnRoute r) (sym served.owner) (on_by_test r served.first.owner served.serves.on_route);
      no_piece = all_one (λ (x : Piece). NoneOwns x.owner pieces) sets p (servers_apart r pieces r.authority).0 there;
    }

pub servers_allowed : (r : Reply) (pieces : List Piece) → AllDiffer r.config.routes
    → AreServers r pieces (servers_from r pieces r.authority)
servers_allowed r pieces differ = record {
  each = all_from (IsServerSet r pieces) (servers_from r pieces r.authority) (set_allowed r pieces);
  all = λ s fit. elim (all_carried r pieces r.authority s fit.server.there (record {
    kind = fit.server.kind;
    class = fit.server.class;
    above = (is_under_decides r.question.name s.owner).1 fit.server.above;
    on_route = tested_on r s.owner differ fit.on_route;
  })) [
    | inl has ↦ absurd (both_ways (list_any (has_owner s.owner) pieces) (none_owns s.owner pieces fit.no_piece) has)
    | inr there ↦ there
  ];
  apart = (servers_apart r pieces r.authority).1;
  in_order = in_order r pieces r.authority;
}

-- ---- no other sets are allowed

not_both_begin : (r : Reply) (records : List Record) (p q : Piece) → (IsSame p.owner q.owner → ⊥)
    → BeginsFirst r records p q → BeginsFirst r records q p → ⊥
not_both_begin r [] p q differ h k = h
not_both_begin r (s ∷ records) p q differ (inl h) (inl k) = differ (sym h.name ∙ k.name)
not_both_begin r (s ∷ records) p q differ (inl h) (inr k) = k.0 h
not_both_begin r (s ∷ records) p q differ (inr h) (inl k) = h.0 k
not_both_begin r (s ∷ records) p q differ (inr h) (inr k) = not_both_begin r records p q differ h.1 k.1

once_owned : (ps : List Piece) → OwnersDiffer ps → NoneTwice ps
once_owned [] h = tt
once_owned (p ∷ ps) h = (λ there. h.0 p there refl, once_owned ps h.1)

-- two allowed sets of an owner are equal
one_owned : (r : Reply) (pieces : List Piece) (p q : Piece) → IsServerSet r pieces p → IsServerSet r pieces q
    → IsSame p.owner q.owner → p ≡ q
one_owned r pieces p q of_p of_q same = one_set r r.authority 2 q.owner p q of_p.set of_q.set
    (record { owner = same; kind_is = of_p.at.kind_is; each = of_p.at.each; body = of_p.at.body }) of_q.at of_p.own
    of_q.own (λ _. of_p.ranked ∙ sym of_q.ranked)

one_or_apart : (r : Reply) (pieces : List Piece) (p q : Piece) → IsServerSet r pieces p → IsServerSet r pieces q
    → (p ≡ q) ⊎ AreApart (BeginsFirst r r.authority) p q
one_or_apart r pieces p q of_p of_q = elim (cases_Bool (same p.owner q.owner)) [
  | inl is ↦ inl (one_owned r pieces p q of_p of_q ((same_decides p.owner q.owner).0 is))
  | inr isnt ↦
      let differ : IsSame p.owner q.owner → ⊥ =
      λ is. both_ways (same p.owner q.owner) isnt ((same_decides p.owner q.owner).1 is) in
      inr (record {
        differ = λ e. differ (ap (λ (x : Piece). lowered x.owner) e);
        never = not_both_begin r r.authority p q differ;
      })
]

-- a record of a set, to be carried
record HasServer (r : Reply) (pieces : List Piece) (p : Piece) : Type 0 where
  pub s : Record
  pub owner : IsSame s.owner p.owner
  pub fit : IsServerFor r pieces s

has_server : (r : Reply) (pieces : List Piece) (p : Piece) → IsServerSet r pieces p → HasServer r pieces p
has_server r pieces p of_p =
    let own : Question = record { name = p.owner; kind = 2; class = p.slot.class } in
    let one : IsThere own r.authority = is_there own r.authority p.owner
    (of_p.set.spelled 2 of_p.at.each of_p.at.kind_is of_p.at.body) in
    by one.s one.fits
  where
    by : (s : Record) → IsRecordFor (record { name = p.owner; kind = 2; class = p.slot.class }) r.authority s
        → HasServer r pieces p
    by s fits = record {
      s = s;
      owner = fits.name;
      fit = record {
        server = record {
          there = fits.there;
          kind = fits.kind;
          class = fits.class ∙ of_p.own.class;
          above = under_respects_same r.question.name r.question.name p.owner s.owner refl (sym fits.name) of_p.above;
        };
        on_route = answer_of_same r.config.routes p.owner s.owner (Some r.route) (sym fits.name) of_p.on_route;
        no_piece = λ x x_there is. of_p.no_piece x x_there (is ∙ fits.name);
      };
    }

-- each set of the first list is in the second
among : (r : Reply) (pieces ones others : List Piece) (p : Piece) → AreServers r pieces ones
    → AreServers r pieces others → IsOneOf p ones → IsOneOf p others
among r pieces ones others p of_ones of_others there =
    by (has_server r pieces p (all_one (IsServerSet r pieces) ones p of_ones.each there))
  where
    same_set : (s : Record) → IsSame s.owner p.owner → IsCarriedIn others s → IsOneOf p others
    same_set s owner carried = subst (λ (x : Piece). IsOneOf x others)
        (one_owned r pieces carried.set p
        (all_one (IsServerSet r pieces) others carried.set of_others.each carried.there)
        (all_one (IsServerSet r pieces) ones p of_ones.each there) (carried.owner ∙ owner)) carried.there

    by : HasServer r pieces p → IsOneOf p others
    by h = same_set h.s h.owner (of_others.all h.s h.fit)

pub servers_only : (r : Reply) (pieces ones others : List Piece) → AreServers r pieces ones
    → AreServers r pieces others → ones ≡ others
servers_only r pieces ones others of_ones of_others = one_list (BeginsFirst r r.authority) ones others (record {
  decide = λ p q there second. one_or_apart r pieces p q (all_one (IsServerSet r pieces) ones p of_ones.each there)
      (all_one (IsServerSet r pieces) others q of_others.each second);
  first_in_order = of_ones.in_order;
  second_in_order = of_others.in_order;
  first_once = once_owned ones of_ones.apart;
  second_once = once_owned others of_others.apart;
  to = λ p there. among r pieces ones others p of_ones of_others there;
  back = λ p there. among r pieces others ones p of_others of_ones there;
})
