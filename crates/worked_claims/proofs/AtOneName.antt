-- The finding of a reply at a name, in worked replies: a set, an alias alone, nothing, the asked
-- set, and a name error (RFC 1034 3.6.2, RFC 2181 10.1, RFC 2308 2.1). Each field of a definition
-- has a neighbour failing in this field alone, or a lemma deciding the field from the rest.
use Rattle.std.proofs.Common.{◌≡◌, ℕ, true, inl, inr, List, [], ◌∷◌, length, Option, Some, None}
use Rattle.std.proofs.Common.{refl, sym, ap, ◌∙◌, subst, arith}
use Rattle.dns_name.specs.Labels.{lowered, IsSame}
use Rattle.dns_message.specs.Data.{name_of_rdata}
use Rattle.dns_message.specs.Names.{step as name_step, walk_in, name_within}
use Rattle.dns_message.specs.Values.{Question, Record}
use Rattle.trust_rank.specs.Values.{Body, rows, no_data, denied, Piece, Reply, reply_of}
use Rattle.cache_laws.specs.Sets.{HasDatum, AreDataOf}
use Rattle.cache_laws.specs.Denials.{question_at, LacksAt, IsLoneAlias, HasNothingAt}
use Rattle.cache_laws.specs.Carried.{IsSetAt, HasTwoAliases, IsFoundAt, IsErrorAt}
use Rattle.cache_laws.proofs.Lists.{only_one}
use Rattle.cache_laws.proofs.Sets.{data_of_set}
use Rattle.cache_laws.proofs.Denials.{lacks}
use Rattle.cache_laws.proofs.Worked.{config, e, below_e, data_of, a, b, ip, host, alias, message, names_differ, differ}
use Rattle.cache_laws.proofs.WorkedDenials.{to_b}
use Rattle.cache_laws.proofs.WorkedCarried.{seen}
use Rattle.worked_claims.proofs.Neighbours.{HoldsButFor}

-- a reply with these answers to the question for the address of a.e
abbrev pub answering : List Record → Reply
answering answers = seen (message true 0 answers [])

-- the address of a.e, and a second alias of a.e, next to the alias to b.e
abbrev pub of_a : Record
of_a = host a 300 5

abbrev pub to_e : Record
to_e = alias a (1 ∷ 101 ∷ 0 ∷ [])

-- a question for the alias of a.e
abbrev pub for_alias : Question
for_alias = record { name = a; kind = 5; class = 1 }

pub kinds_are : (x y : ℕ) → Some x ≡ Some y → x ≡ y
kinds_are x y is = cc

-- ---- a set at a name

abbrev pub piece_of : List (List ℕ) → Option ℕ → Body → Piece
piece_of owner kind body = record {
  owner = owner;
  slot = record { key = lowered owner; class = 1; kind = kind };
  body = body;
  lifetime = 60;
  rank = 3;
  route = 0;
}

abbrev addresses : List (List ℕ) → Piece
addresses owner = piece_of owner (Some 1) (rows (ip 5 ∷ []))

-- the set's owner is spelled A.e
set_of_a : IsSetAt 1 a (addresses (below_e 65))
set_of_a = record { owner = refl; kind_is = refl; each = ip 5 ∷ []; body = refl }

set_of_b : HoldsButFor (IsSame b a) (IsSetAt 1 a (addresses b))
set_of_b = (λ owner. record { owner = owner; kind_is = refl; each = ip 5 ∷ []; body = refl }, λ h. names_differ h.owner)

set_of_type_28 : HoldsButFor (◌≡◌ {A = Option ℕ} (Some 28) (Some 1))
    (IsSetAt 1 a (piece_of a (Some 28) (rows (ip 5 ∷ []))))
set_of_type_28 = (
  λ kind. record { owner = refl; kind_is = kind; each = ip 5 ∷ []; body = refl },
  λ h. omega (arith, kinds_are 28 1 h.kind_is),
)

-- NODATA has no rows
no_data_is_no_set : HoldsButFor ((each : List (List ℕ)) × (no_data None ≡ rows each))
    (IsSetAt 1 a (piece_of a (Some 1) (no_data None)))
no_data_is_no_set = (
  λ h. record { owner = refl; kind_is = refl; each = h.0; body = h.1 },
  λ h. absurd (let wrong : no_data None ≡ rows h.each = h.body in cc),
)

-- ---- an alias alone

leads_to_b : IsLoneAlias (answering (to_b ∷ [])) a b
unfolding name_of_rdata name_within walk_in name_step
leads_to_b = record {
  other = λ is. omega (arith, is);
  no_set = lacks (answering (to_b ∷ [])) 1 a refl;
  datum = data_of 98;
  alone = data_of_set for_alias (to_b ∷ []) to_b [] refl;
  leads = refl;
}

-- the section has the asked set, too
alias_next_to_a_set : HoldsButFor (LacksAt (answering (to_b ∷ of_a ∷ [])) 1 a)
    (IsLoneAlias (answering (to_b ∷ of_a ∷ [])) a b)
unfolding name_of_rdata name_within walk_in name_step
alias_next_to_a_set = (
  λ none. record {
    other = λ is. omega (arith, is);
    no_set = none;
    datum = data_of 98;
    alone = data_of_set for_alias (to_b ∷ of_a ∷ []) to_b [] refl;
    leads = refl;
  },
  λ h. h.no_set of_a (record { there = inr (inl refl); kind = refl; class = refl; name = refl }),
)

-- the section has a second alias
one_of_two_aliases : HoldsButFor (AreDataOf for_alias (to_b ∷ to_e ∷ []) (data_of 98 ∷ []))
    (IsLoneAlias (answering (to_b ∷ to_e ∷ [])) a b)
unfolding name_of_rdata name_within walk_in name_step
one_of_two_aliases = (
  λ alone. record {
    other = λ is. omega (arith, is);
    no_set = lacks (answering (to_b ∷ to_e ∷ [])) 1 a refl;
    datum = data_of 98;
    alone = alone;
    leads = refl;
  },
  λ h. differ (data_of 98) (1 ∷ 101 ∷ 0 ∷ []) refl
      (only_one (data_of 98) h.datum
      (h.alone.whole to_b (record { there = inl refl; kind = refl; class = refl; name = refl }))
      ∙ sym (only_one (1 ∷ 101 ∷ 0 ∷ []) h.datum
      (h.alone.whole to_e (record { there = inr (inl refl); kind = refl; class = refl; name = refl })))),
)

-- the target is another name
leads_not_to_e : HoldsButFor (name_of_rdata (data_of 98) ≡ Some e) (IsLoneAlias (answering (to_b ∷ [])) a e)
unfolding name_of_rdata name_within walk_in name_step
leads_not_to_e = (
  λ leads. record {
    other = λ is. omega (arith, is);
    no_set = lacks (answering (to_b ∷ [])) 1 a refl;
    datum = data_of 98;
    alone = data_of_set for_alias (to_b ∷ []) to_b [] refl;
    leads = leads;
  },
  λ h. by (ap name_of_rdata (only_one (data_of 98) h.datum
      (h.alone.whole to_b (record { there = inl refl; kind = refl; class = refl; name = refl })))
      ∙ h.leads),
)
  where
    by : Some b ≡ Some e → ⊥
    by is = let same : b ≡ e = cc in let labels : 2 ≡ 1 = ap length same in omega (arith, labels)

-- The field `other` has no neighbour: a question for aliases lacks no alias of the name.
alias_is_not_asked : (r : Reply) (name : List (List ℕ)) (datum : List ℕ) → LacksAt r r.question.kind name
    → AreDataOf (question_at r 5 name) r.answers (datum ∷ []) → r.question.kind ≡ 5 → ⊥
alias_is_not_asked r name datum none alone five =
    let d : HasDatum (question_at r 5 name) r.answers datum = alone.only datum (inl refl) in
    subst (λ (kind : ℕ). LacksAt r kind name) five none d.r d.fits

-- ---- nothing at a name

nothing_at_b : HasNothingAt (answering (to_b ∷ [])) b
nothing_at_b = record {
  no_set = lacks (answering (to_b ∷ [])) 1 b refl;
  no_alias = lacks (answering (to_b ∷ [])) 5 b refl;
}

set_alone : HoldsButFor (LacksAt (answering (of_a ∷ [])) 1 a) (HasNothingAt (answering (of_a ∷ [])) a)
set_alone = (
  λ none. record { no_set = none; no_alias = lacks (answering (of_a ∷ [])) 5 a refl },
  λ h. h.no_set of_a (record { there = inl refl; kind = refl; class = refl; name = refl }),
)

alias_alone : HoldsButFor (LacksAt (answering (to_b ∷ [])) 5 a) (HasNothingAt (answering (to_b ∷ [])) a)
alias_alone = (
  λ none. record { no_set = lacks (answering (to_b ∷ [])) 1 a refl; no_alias = none },
  λ h. h.no_alias to_b (record { there = inl refl; kind = refl; class = refl; name = refl }),
)

-- ---- the asked set

finds_the_set : IsFoundAt (answering (of_a ∷ [])) a (addresses a)
finds_the_set = record {
  set = record { owner = refl; kind_is = refl; each = ip 5 ∷ []; body = refl };
  one = λ five. absurd (omega (arith, five));
}

finds_a_set_of_b : HoldsButFor (IsSetAt 1 a (addresses b)) (IsFoundAt (answering (of_a ∷ [])) a (addresses b))
finds_a_set_of_b = (
  λ set. record { set = set; one = λ five. absurd (omega (arith, five)) },
  λ h. names_differ h.set.owner,
)

-- the aliases themselves are asked for
abbrev asked_for_aliases : List Record → Reply
asked_for_aliases answers = reply_of config (message true 0 answers []) for_alias 0

finds_the_alias : IsFoundAt (asked_for_aliases (to_b ∷ [])) a (piece_of a (Some 5) (rows (data_of 98 ∷ [])))
finds_the_alias = record {
  set = record { owner = refl; kind_is = refl; each = data_of 98 ∷ []; body = refl };
  one = λ five two. two.differ (ap (λ (x : Record). x.rdata) (only_one two.s to_b two.first.there)
      ∙ sym (ap (λ (x : Record). x.rdata) (only_one two.t to_b two.second.there)));
}

two_aliases : HasTwoAliases (asked_for_aliases (to_b ∷ to_e ∷ [])) a
two_aliases = record {
  s = to_b;
  t = to_e;
  first = record { there = inl refl; kind = refl; class = refl; name = refl };
  second = record { there = inr (inl refl); kind = refl; class = refl; name = refl };
  differ = differ (data_of 98) (1 ∷ 101 ∷ 0 ∷ []) refl;
}

finds_two_aliases : HoldsButFor (◌≡◌ {A = ℕ} 5 5 → HasTwoAliases (asked_for_aliases (to_b ∷ to_e ∷ [])) a → ⊥)
    (IsFoundAt (asked_for_aliases (to_b ∷ to_e ∷ [])) a (piece_of a (Some 5) (rows (data_of 98 ∷ to_e.rdata ∷ []))))
finds_two_aliases = (
  λ one. record {
    set = record { owner = refl; kind_is = refl; each = data_of 98 ∷ to_e.rdata ∷ []; body = refl };
    one = one;
  },
  λ h. h.one refl two_aliases,
)

-- ---- a name error

-- a reply with this code and these answers alone
abbrev pub coded : ℕ → List Record → Reply
coded rcode answers = seen (message true rcode answers [])

pub nothing_at_a : (rcode : ℕ) → HasNothingAt (coded rcode []) a
nothing_at_a rcode = record { no_set = λ s h. h.there; no_alias = λ s h. h.there }

abbrev error : List (List ℕ) → Piece
error owner = piece_of owner None (denied None)

is_missing : IsErrorAt (coded 3 []) a (error a)
is_missing = record { rcode = refl; nothing = nothing_at_a 3; owner = refl; kind_is = refl; soa = None; body = refl }

missing_without_the_code : HoldsButFor (◌≡◌ {A = ℕ} 0 3) (IsErrorAt (coded 0 []) a (error a))
missing_without_the_code = (
  λ rcode. record { rcode = rcode; nothing = nothing_at_a 0; owner = refl; kind_is = refl; soa = None; body = refl },
  λ h. omega (arith, h.rcode),
)

missing_with_a_set : HoldsButFor (HasNothingAt (coded 3 (of_a ∷ [])) a) (IsErrorAt (coded 3 (of_a ∷ [])) a (error a))
missing_with_a_set = (
  λ nothing. record { rcode = refl; nothing = nothing; owner = refl; kind_is = refl; soa = None; body = refl },
  λ h. h.nothing.no_set of_a (record { there = inl refl; kind = refl; class = refl; name = refl }),
)

missing_of_b : HoldsButFor (b ≡ a) (IsErrorAt (coded 3 []) a (error b))
missing_of_b = (
  λ owner. record { rcode = refl; nothing = nothing_at_a 3; owner = owner; kind_is = refl; soa = None; body = refl },
  λ h. names_differ (ap lowered h.owner),
)

-- a name error is of no type
missing_type : HoldsButFor (◌≡◌ {A = Option ℕ} (Some 1) None)
    (IsErrorAt (coded 3 []) a (piece_of a (Some 1) (denied None)))
missing_type = (
  λ kind. record { rcode = refl; nothing = nothing_at_a 3; owner = refl; kind_is = kind; soa = None; body = refl },
  λ h. absurd (let wrong : Some 1 ≡ None = h.kind_is in cc),
)

missing_as_no_data : HoldsButFor ((soa : Option Record) × (no_data None ≡ denied soa))
    (IsErrorAt (coded 3 []) a (piece_of a None (no_data None)))
missing_as_no_data = (
  λ h. record { rcode = refl; nothing = nothing_at_a 3; owner = refl; kind_is = refl; soa = h.0; body = h.1 },
  λ h. absurd (let wrong : no_data None ≡ denied h.soa = h.body in cc),
)
