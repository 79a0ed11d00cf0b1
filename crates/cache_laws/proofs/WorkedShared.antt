-- Worked pieces that take the place of others, and routes that serve: for each rule a case that
-- meets it, and a neighbour that does not.
use Rattle.std.proofs.Common.{◌≡◌, ℕ, true, false, inl, inr, List, [], ◌∷◌, length, ◌≤◌, Some, None, refl, sym, ap}
use Rattle.std.proofs.Common.{◌∙◌, arith}
use Rattle.std.proofs.lemmas.Bool.{true≢false}
use Rattle.dns_name.proofs.CallerLemmas.{is_under_decides}
use Rattle.suffix_routes.specs.Values.{Config, Route, default_limits}
use Rattle.suffix_routes.specs.Routes.{route_of}
use Rattle.trust_rank.specs.Values.{rows, denied, Piece}
use Rattle.trust_rank.specs.Replacing.{takes_place_of}
use Rattle.cache_laws.specs.Replacing.{Replaces}
use Rattle.cache_laws.specs.Serving.{IsServedBy}
use Rattle.cache_laws.proofs.Serving.{serves_exactly}
use Rattle.cache_laws.proofs.Worked.{server, config, e, below_e, a, b, names_differ}

-- ---- places

-- a set of this type
abbrev set_at : List (List ℕ) → ℕ → ℕ → ℕ → Piece
set_at name kind class rank = record {
  owner = name;
  slot = record { key = name; class = class; kind = Some kind };
  body = rows [];
  lifetime = 0;
  rank = rank;
  route = 0;
}

abbrev error_at : List (List ℕ) → ℕ → Piece
error_at name rank = record {
  owner = name;
  slot = record { key = name; class = 1; kind = None };
  body = denied None;
  lifetime = 0;
  rank = rank;
  route = 0;
}

-- of the same slot, and ranked equally
equal_rank : Replaces (set_at (below_e 65) 1 1 2) (set_at a 1 1 2)
equal_rank = inl (record {
  typed = λ is. absurd (let wrong : Some 1 ≡ None = is in cc);
  slot = record { name = refl; class = refl; kind = refl };
  rank = omega arith;
})

equal_rank_tested : takes_place_of (set_at (below_e 65) 1 1 2) (set_at a 1 1 2) ≡ true
equal_rank_tested = refl

lower_rank : Replaces (set_at a 1 1 1) (set_at a 1 1 2) → ⊥
lower_rank (inl h) = omega (arith, h.rank)
lower_rank (inr (inl h)) = absurd (let wrong : Some 1 ≡ None = h.whole in cc)
lower_rank (inr (inr h)) = absurd (let wrong : Some 1 ≡ None = h.whole in cc)

types_are : (x y : ℕ) → Some x ≡ Some y → x ≡ y
types_are x y is = cc

another_type : Replaces (set_at a 28 1 3) (set_at a 1 1 2) → ⊥
another_type (inl h) = omega (arith, types_are 28 1 h.slot.kind)
another_type (inr (inl h)) = absurd (let wrong : Some 1 ≡ None = h.whole in cc)
another_type (inr (inr h)) = absurd (let wrong : Some 1 ≡ None = h.whole in cc)

another_name : Replaces (set_at b 1 1 3) (set_at a 1 1 2) → ⊥
another_name (inl h) = names_differ h.slot.name
another_name (inr (inl h)) = absurd (let wrong : Some 1 ≡ None = h.whole in cc)
another_name (inr (inr h)) = absurd (let wrong : Some 1 ≡ None = h.whole in cc)

-- a name error gives way to a later one, ranked as low as it may be
later_error : Replaces (error_at e 1) (error_at e 3)
later_error = inr (inl (record { whole = refl; slot = record { name = refl; class = refl; kind = refl } }))

-- and to a set of a name below, which it says is not there
set_below : Replaces (set_at a 1 1 1) (error_at e 3)
set_below = inr (inr (record {
  whole = refl;
  typed = λ is. absurd (let wrong : Some 1 ≡ None = is in cc);
  class = refl;
  under = (is_under_decides a e).0 refl;
}))

set_of_a_sibling : Replaces (set_at b 1 1 3) (error_at a 1) → ⊥
set_of_a_sibling (inl h) = h.typed refl
set_of_a_sibling (inr (inl h)) = names_differ h.slot.name
set_of_a_sibling (inr (inr h)) = true≢false (sym ((is_under_decides b a).1 h.under))

set_of_another_class : Replaces (set_at a 1 3 3) (error_at e 1) → ⊥
set_of_another_class (inl h) = h.typed refl
set_of_another_class (inr (inl h)) = omega (arith, h.slot.class)
set_of_another_class (inr (inr h)) = omega (arith, h.class)

-- no name error replaces a set
error_for_a_set : Replaces (error_at a 3) (set_at a 1 1 1) → ⊥
error_for_a_set (inl h) = absurd (let wrong : None ≡ Some 1 = h.slot.kind in cc)
error_for_a_set (inr (inl h)) = absurd (let wrong : Some 1 ≡ None = h.whole in cc)
error_for_a_set (inr (inr h)) = absurd (let wrong : Some 1 ≡ None = h.whole in cc)

-- ---- routes

-- a name under the suffix z, and so under the root, too
abbrev below_z : List (List ℕ)
below_z = (97 ∷ []) ∷ (122 ∷ []) ∷ []

longest_serves : IsServedBy config below_z 1
unfolding route_of
longest_serves = serves_exactly.only config below_z 1 refl

shorter_serves_not : IsServedBy config below_z 0 → ⊥
shorter_serves_not h = by h.longest.route h.longest.there
    (h.longest.most 1 (record { suffix = (122 ∷ []) ∷ []; deny = false; servers = server ∷ [] }) refl
    ((is_under_decides below_z ((122 ∷ []) ∷ [])).0 refl))
  where
    by : (r : Route) → Some (record { suffix = []; deny = false; servers = server ∷ [] }) ≡ Some r
        → 1 ≤ length r.suffix → ⊥
    by r is long = let one : record { suffix = []; deny = false; servers = server ∷ [] } ≡ r = cc in
        omega (arith, long, ap (λ (x : Route). length x.suffix) one)

-- two routes with these suffixes, of which the longer one denies
abbrev denying : Config
denying = record {
  listen = server;
  limits = default_limits;
  routes = record { suffix = (122 ∷ []) ∷ []; deny = true; servers = [] } ∷ [];
}

denying_serves_not : IsServedBy denying below_z 0 → ⊥
denying_serves_not h = by h.longest.route h.longest.there h.serves
  where
    by : (r : Route) → Some (record { suffix = (122 ∷ []) ∷ []; deny = true; servers = [] }) ≡ Some r
        → r.deny ≡ false → ⊥
    by r is serves = let one : record { suffix = (122 ∷ []) ∷ []; deny = true; servers = [] } ≡ r = cc in
        true≢false (ap (λ (x : Route). x.deny) one ∙ serves)
