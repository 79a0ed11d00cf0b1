-- The reasons for a lame reply at a name: the name has no set of the asked type, and two aliases or
-- an alias without target (RFC 2181 10.1); or the reply refers to further servers (RFC 2308 2.2).
-- Each field has a neighbour failing in this field alone, or a lemma deciding the field from the
-- rest.
use Rattle.std.proofs.Common.{◌≡◌, ◌≢◌, ◌⊎◌, ℕ, true, false, inl, inr, List, [], ◌∷◌, Some, None, refl, sym, ap, ◌∙◌}
use Rattle.std.proofs.Common.{subst, arith}
use Rattle.std.proofs.lemmas.Bool.{true≢false}
use Rattle.dns_name.proofs.CallerLemmas.{is_under_decides}
use Rattle.dns_message.specs.Data.{name_of_rdata}
use Rattle.dns_message.specs.Names.{step as name_step, walk_in, name_within}
use Rattle.dns_message.specs.Values.{Record}
use Rattle.trust_rank.specs.Values.{Reply}
use Rattle.cache_laws.specs.Denials.{LacksAt, HasNothingAt}
use Rattle.cache_laws.specs.Ends.{HasSoaFor, IsReferral}
use Rattle.cache_laws.specs.Carried.{HasTwoAliases, HasNoTarget, LosesItsWay, IsReferredOn}
use Rattle.cache_laws.proofs.Lists.{only_one}
use Rattle.cache_laws.proofs.Denials.{lacks}
use Rattle.cache_laws.proofs.Worked.{e, data_of, a, b, alias, ns, message, differ}
use Rattle.cache_laws.proofs.WorkedDenials.{to_b, soa}
use Rattle.cache_laws.proofs.WorkedCarried.{seen}
use Rattle.worked_claims.proofs.Neighbours.{HoldsButFor}
use Rattle.worked_claims.proofs.AtOneName.{answering, of_a, to_e}

-- ---- the way is lost

-- two aliases, and then these answers
abbrev two_and : List Record → Reply
two_and more = answering (to_b ∷ to_e ∷ more)

has_two : (more : List Record) → HasTwoAliases (two_and more) a
has_two more = record {
  s = to_b;
  t = to_e;
  first = record { there = inl refl; kind = refl; class = refl; name = refl };
  second = record { there = inr (inl refl); kind = refl; class = refl; name = refl };
  differ = differ (data_of 98) (1 ∷ 101 ∷ 0 ∷ []) refl;
}

lost_by_two_aliases : LosesItsWay (two_and []) a
lost_by_two_aliases =
    record { other = λ is. omega (arith, is); no_set = lacks (two_and []) 1 a refl; lost = inl (has_two []) }

-- the data of the alias is a label cut off
abbrev cut_off : Record
cut_off = alias a (1 ∷ [])

lost_by_an_alias_without_target : LosesItsWay (answering (cut_off ∷ [])) a
unfolding name_of_rdata name_within walk_in name_step
lost_by_an_alias_without_target = record {
  other = λ is. omega (arith, is);
  no_set = lacks (answering (cut_off ∷ [])) 1 a refl;
  lost = inr (record {
    s = cut_off;
    fits = record { there = inl refl; kind = refl; class = refl; name = refl };
    none = refl;
  });
}

-- the address is there, too
lost_next_to_a_set : HoldsButFor (LacksAt (two_and (of_a ∷ [])) 1 a) (LosesItsWay (two_and (of_a ∷ [])) a)
lost_next_to_a_set = (
  λ none. record { other = λ is. omega (arith, is); no_set = none; lost = inl (has_two (of_a ∷ [])) },
  λ h. h.no_set of_a (record { there = inr (inr (inl refl)); kind = refl; class = refl; name = refl }),
)

-- a single alias, with a target
lost_by_one_alias : HoldsButFor (HasTwoAliases (answering (to_b ∷ [])) a ⊎ HasNoTarget (answering (to_b ∷ [])) a)
    (LosesItsWay (answering (to_b ∷ [])) a)
unfolding name_of_rdata name_within walk_in name_step
lost_by_one_alias = (
  λ lost. record { other = λ is. omega (arith, is); no_set = lacks (answering (to_b ∷ [])) 1 a refl; lost = lost },
  λ h. elim h.lost [
    | inl two ↦ two.differ (ap (λ (x : Record). x.rdata) (only_one two.s to_b two.first.there)
        ∙ sym (ap (λ (x : Record). x.rdata) (only_one two.t to_b two.second.there)))
    | inr none ↦ absurd (let wrong : Some b ≡ None =
        sym (ap (λ (x : Record). name_of_rdata x.rdata) (only_one none.s to_b none.fits.there)) ∙ none.none in cc)
  ],
)

-- The field `other` has no neighbour: a question for aliases lacks no alias of the name.
way_is_not_asked_for : (r : Reply) (name : List (List ℕ)) → LacksAt r r.question.kind name
    → HasTwoAliases r name ⊎ HasNoTarget r name → r.question.kind ≡ 5 → ⊥
way_is_not_asked_for r name none lost five =
    let no_alias : LacksAt r 5 name = subst (λ (kind : ℕ). LacksAt r kind name) five none in
    elim lost [
      | inl two ↦ no_alias two.s two.first
      | inr one ↦ no_alias one.s one.fits
    ]

-- ---- a referral

-- the name servers of e
abbrev servers : List Record
servers = ns e 1 ∷ []

abbrev silent : Reply
silent = seen (message false 0 [] servers)

no_soa_among : (s : Record) → s ≡ ns e 1 → s.kind ≡ 6 → ⊥
no_soa_among s is six = omega (arith, ap (λ (x : Record). x.kind) is, six)

referred_on : IsReferredOn silent 0 a
referred_on = record {
  first = refl;
  other = λ is. omega (arith, is);
  nothing = record { no_set = λ s h. h.there; no_alias = λ s h. h.there };
  no_soa = λ h. no_soa_among h.s (only_one h.s (ns e 1) h.there) h.fits.kind;
  refers = record { clear = refl; s = ns e 1; there = inl refl; kind = refl };
}

-- for a name after an alias
referred_on_later : HoldsButFor (◌≡◌ {A = ℕ} 1 0) (IsReferredOn silent 1 a)
referred_on_later = (
  λ first. record {
    first = first;
    other = λ is. omega (arith, is);
    nothing = record { no_set = λ s h. h.there; no_alias = λ s h. h.there };
    no_soa = λ h. no_soa_among h.s (only_one h.s (ns e 1) h.there) h.fits.kind;
    refers = record { clear = refl; s = ns e 1; there = inl refl; kind = refl };
  },
  λ h. omega (arith, h.first),
)

-- for a name denied by the reply
referred_on_by_an_error : HoldsButFor (◌≢◌ {A = ℕ} 3 3) (IsReferredOn (seen (message false 3 [] servers)) 0 a)
referred_on_by_an_error = (
  λ other. record {
    first = refl;
    other = other;
    nothing = record { no_set = λ s h. h.there; no_alias = λ s h. h.there };
    no_soa = λ h. no_soa_among h.s (only_one h.s (ns e 1) h.there) h.fits.kind;
    refers = record { clear = refl; s = ns e 1; there = inl refl; kind = refl };
  },
  λ h. h.other refl,
)

-- of a name with an address
abbrev answered : Reply
answered = seen (message false 0 (of_a ∷ []) servers)

referred_on_with_an_answer : HoldsButFor (HasNothingAt answered a) (IsReferredOn answered 0 a)
referred_on_with_an_answer = (
  λ nothing. record {
    first = refl;
    other = λ is. omega (arith, is);
    nothing = nothing;
    no_soa = λ h. no_soa_among h.s (only_one h.s (ns e 1) h.there) h.fits.kind;
    refers = record { clear = refl; s = ns e 1; there = inl refl; kind = refl };
  },
  λ h. h.nothing.no_set of_a (record { there = inl refl; kind = refl; class = refl; name = refl }),
)

-- of a name with an SOA
abbrev told : Reply
told = seen (message false 0 [] (ns e 1 ∷ soa e 1 3600 ∷ []))

referred_on_with_an_soa : HoldsButFor (HasSoaFor told a → ⊥) (IsReferredOn told 0 a)
referred_on_with_an_soa = (
  λ no_soa. record {
    first = refl;
    other = λ is. omega (arith, is);
    nothing = record { no_set = λ s h. h.there; no_alias = λ s h. h.there };
    no_soa = no_soa;
    refers = record { clear = refl; s = ns e 1; there = inl refl; kind = refl };
  },
  λ h. h.no_soa (record {
    s = soa e 1 3600;
    there = inr (inl refl);
    fits = record { kind = refl; class_is = refl; above = (is_under_decides a e).0 refl };
  }),
)

-- by a server of the name itself
abbrev own : Reply
own = seen (message true 0 [] servers)

referred_on_with_authority : HoldsButFor (IsReferral own) (IsReferredOn own 0 a)
referred_on_with_authority = (
  λ refers. record {
    first = refl;
    other = λ is. omega (arith, is);
    nothing = record { no_set = λ s h. h.there; no_alias = λ s h. h.there };
    no_soa = λ h. no_soa_among h.s (only_one h.s (ns e 1) h.there) h.fits.kind;
    refers = refers;
  },
  λ h. true≢false h.refers.clear,
)
