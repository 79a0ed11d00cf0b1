-- NODATA of a name, in worked replies (RFC 2308 2.2), and neighbours failing in a single field. The
-- neighbours for the code and for the SOA are in `cache_laws`.
use Rattle.std.proofs.Common.{◌≡◌, ◌⊎◌, ℕ, inl, inr, List, [], ◌∷◌, Option, Some, None, refl, ap, arith}
use Rattle.std.proofs.lemmas.Bool.{true≢false}
use Rattle.dns_name.specs.Labels.{lowered}
use Rattle.dns_message.specs.Values.{Record}
use Rattle.trust_rank.specs.Values.{no_data, denied, Piece}
use Rattle.cache_laws.specs.Denials.{HasNothingAt}
use Rattle.cache_laws.specs.Ends.{HasSoaFor, IsReferral}
use Rattle.cache_laws.specs.Carried.{IsNoDataAt}
use Rattle.cache_laws.proofs.Worked.{a, b, names_differ}
use Rattle.worked_claims.proofs.Neighbours.{HoldsButFor}
use Rattle.worked_claims.proofs.AtOneName.{of_a, kinds_are, piece_of, coded, nothing_at_a}

-- the reply has no SOA and is no referral, and the name is the asked name
told_by_a : (rcode : ℕ) (answers : List Record)
    → HasSoaFor (coded rcode answers) a ⊎ (◌≡◌ {A = ℕ} 0 0 × (IsReferral (coded rcode answers) → ⊥))
told_by_a rcode answers = inr (refl, λ h. true≢false h.clear)

abbrev no_address : List (List ℕ) → Piece
no_address owner = piece_of owner (Some 1) (no_data None)

has_no_address : IsNoDataAt (coded 0 []) 0 a (no_address a)
has_no_address = record {
  other = λ is. omega (arith, is);
  nothing = nothing_at_a 0;
  stated = told_by_a 0 [];
  owner = refl;
  kind_is = refl;
  soa = None;
  body = refl;
}

no_data_with_a_set : HoldsButFor (HasNothingAt (coded 0 (of_a ∷ [])) a)
    (IsNoDataAt (coded 0 (of_a ∷ [])) 0 a (no_address a))
no_data_with_a_set = (
  λ nothing. record {
    other = λ is. omega (arith, is);
    nothing = nothing;
    stated = told_by_a 0 (of_a ∷ []);
    owner = refl;
    kind_is = refl;
    soa = None;
    body = refl;
  },
  λ h. h.nothing.no_set of_a (record { there = inl refl; kind = refl; class = refl; name = refl }),
)

no_data_of_b : HoldsButFor (b ≡ a) (IsNoDataAt (coded 0 []) 0 a (no_address b))
no_data_of_b = (
  λ owner. record {
    other = λ is. omega (arith, is);
    nothing = nothing_at_a 0;
    stated = told_by_a 0 [];
    owner = owner;
    kind_is = refl;
    soa = None;
    body = refl;
  },
  λ h. names_differ (ap lowered h.owner),
)

no_data_of_type_28 : HoldsButFor (◌≡◌ {A = Option ℕ} (Some 28) (Some 1))
    (IsNoDataAt (coded 0 []) 0 a (piece_of a (Some 28) (no_data None)))
no_data_of_type_28 = (
  λ kind. record {
    other = λ is. omega (arith, is);
    nothing = nothing_at_a 0;
    stated = told_by_a 0 [];
    owner = refl;
    kind_is = kind;
    soa = None;
    body = refl;
  },
  λ h. omega (arith, kinds_are 28 1 h.kind_is),
)

no_data_as_an_error : HoldsButFor ((soa : Option Record) × (denied None ≡ no_data soa))
    (IsNoDataAt (coded 0 []) 0 a (piece_of a (Some 1) (denied None)))
no_data_as_an_error = (
  λ h. record {
    other = λ is. omega (arith, is);
    nothing = nothing_at_a 0;
    stated = told_by_a 0 [];
    owner = refl;
    kind_is = refl;
    soa = h.0;
    body = h.1;
  },
  λ h. absurd (let wrong : denied None ≡ no_data h.soa = h.body in cc),
)
