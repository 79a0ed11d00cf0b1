-- Consecutive tries, as made by loops.
use Rattle.std.proofs.Common.{◌≡◌, refl, ℕ, suc, ◌+◌, ◌-◌, ◌<◌, inl, inr, subst, Bool, true, false}
use Rattle.std.proofs.Common.{arith}
use Rattle.socket_wire.specs.Trying.{TriesUpTo}

-- The tries left after `tried` yield the result of all tries.
pub record TriesAll {S : Type 0} (Tries : Bool → S → S → Type 0) (most tried : ℕ)
    (begun ready : S) : Type 0 where
  pub all : (after : S) → TriesUpTo Tries (most - tried) ready after
      → TriesUpTo Tries most begun after

pub tries_begun : {S : Type 0} (Tries : Bool → S → S → Type 0) (most : ℕ) (begun : S)
    → TriesAll Tries most 0 begun begun
tries_begun Tries most begun =
    let all : most - 0 ≡ most = omega arith in
    record { all = λ after tries. subst (λ n. TriesUpTo Tries n begun after) all tries }

pub tries_more : {S : Type 0} (Tries : Bool → S → S → Type 0) (most tried : ℕ)
    (begun ready between : S) → tried < most
    → TriesAll Tries most tried begun ready → Tries true ready between
    → TriesAll Tries most (tried + 1) begun between
unfolding TriesUpTo
tries_more Tries most tried begun ready between h so_far one =
    let left : suc (most - (tried + 1)) ≡ most - tried = omega arith in
    record {
      all = λ after tries.
          let with_one : TriesUpTo Tries (suc (most - (tried + 1))) ready after = inr
          (between, (one, tries)) in
          so_far.all after (subst (λ n. TriesUpTo Tries n ready after) left with_one);
    }

pub tries_end : {S : Type 0} (Tries : Bool → S → S → Type 0) (most tried : ℕ)
    (begun ready after : S) → tried < most
    → TriesAll Tries most tried begun ready → Tries false ready after
    → TriesUpTo Tries most begun after
unfolding TriesUpTo
tries_end Tries most tried begun ready after h so_far none =
    let left : suc (most - (tried + 1)) ≡ most - tried = omega arith in
    let ended : TriesUpTo Tries (suc (most - (tried + 1))) ready after = inl none in
    so_far.all after (subst (λ n. TriesUpTo Tries n ready after) left ended)

pub tries_over : {S : Type 0} (Tries : Bool → S → S → Type 0) (most : ℕ) (begun after : S)
    → TriesAll Tries most most begun after → TriesUpTo Tries most begun after
unfolding TriesUpTo
tries_over Tries most begun after so_far =
    let left : 0 ≡ most - most = omega arith in
    let none : TriesUpTo Tries 0 after after = refl in
    so_far.all after (subst (λ n. TriesUpTo Tries n after after) left none)
