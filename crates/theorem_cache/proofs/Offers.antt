-- A single induction over the offers of a reply, for each fact kept by an offer.
use Rattle.std.proofs.Common.{◌≡◌, ℕ, ◌+◌, List, [], ◌∷◌, Bool, true, subst, arith}
use Rattle.std.specs.List.{AllByRecursion}
use Rattle.trust_rank.specs.Values.{Piece}
use Rattle.record_cache.specs.Values.{Held}
use Rattle.step_history.specs.Carried.{then_carried}
use Rattle.alias_chains.specs.Offering.{ended_so, put, count_of, put_all, unkept_of, held_at}

none_more : (k : ℕ) → k ≡ k + 0
none_more k = omega arith

one_and_more : (k first rest : ℕ) → k + first + rest ≡ k + (first + rest)
one_and_more k first rest = omega arith

-- P holds of the carried pieces, the entries, and the number without memory; each offer of a
-- fitting piece keeps P
module _ (capacity n : ℕ) (Fits : Piece → Type 0) (P : List Held → List Held → ℕ → Type 0)
    (one : (room : Bool) (p : Piece) (os es : List Held) (k : ℕ) → Fits p → P os es k → P (held_at n p ∷ os) (put capacity n room p es) (k + count_of (ended_so n room p es))) where
  -- so all offers keep P
  pub offers_keep : (rooms : List Bool) (ps : List Piece) (os es : List Held) (k : ℕ) → AllByRecursion Fits ps → P os es k → P (then_carried n ps os) (put_all capacity n rooms ps es) (k + unkept_of capacity n rooms ps es)
  offers_keep rooms [] os es k fits was = subst (P os es) (none_more k) was
  offers_keep [] (p ∷ ps) os es k fits was =
      subst (P (then_carried n ps (held_at n p ∷ os)) (put_all capacity n [] ps (put capacity n true p es))) (one_and_more k (count_of (ended_so n true p es)) (unkept_of capacity n [] ps (put capacity n true p es)))
      (offers_keep [] ps (held_at n p ∷ os) (put capacity n true p es) (k + count_of (ended_so n true p es)) fits.1 (one true p os es k fits.0 was))
  offers_keep (room ∷ rooms) (p ∷ ps) os es k fits was =
      subst (P (then_carried n ps (held_at n p ∷ os)) (put_all capacity n rooms ps (put capacity n room p es))) (one_and_more k (count_of (ended_so n room p es)) (unkept_of capacity n rooms ps (put capacity n room p es)))
      (offers_keep rooms ps (held_at n p ∷ os) (put capacity n room p es) (k + count_of (ended_so n room p es)) fits.1 (one room p os es k fits.0 was))
