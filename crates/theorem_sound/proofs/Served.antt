-- The test of types and classes that are not served decides `IsUnserved`.
use Rattle.std.proofs.Common.{◌≡◌, Bool, true, false, refl, sym, ◌∙◌, inl, inr}
use Rattle.std.specs.Prelude.{◌==◌, ◌&&◌, ◌||◌, nat_le}
use Rattle.std.proofs.lemmas.Bool.{eqb-true, eq-eqb, and_parts, and_from, leb-true, le-leb, false_from_ne_true, true≢false}
use Rattle.dns_message.specs.Questions.{is_unserved}
use Rattle.dns_message.specs.Values.{Question}
use Rattle.step_history.specs.Questions.{IsUnserved}

pub unserved_is : (q : Question) → is_unserved q ≡ true → IsUnserved q
unserved_is q t = by (q.kind == 0) refl (q.kind == 41) refl (nat_le 128 q.kind && nat_le q.kind 255) refl (q.class == 255) refl t
  where
    by : (a : Bool) → (q.kind == 0) ≡ a → (b : Bool) → (q.kind == 41) ≡ b → (r : Bool)
        → (nat_le 128 q.kind && nat_le q.kind 255) ≡ r → (k : Bool) → (q.class == 255) ≡ k → (a || b || r || k) ≡ true
        → IsUnserved q
    by true is b other r range k class t = inl (eqb-true q.kind 0 is)
    by false not true is r range k class t = inr (inl (eqb-true q.kind 41 is))
    by false not false other true range k class t =
        let both = and_parts (nat_le 128 q.kind) (nat_le q.kind 255) range in
        inr (inr (inl (leb-true 128 q.kind both.0, leb-true q.kind 255 both.1)))
    by false not false other false range true is t = inr (inr (inr (eqb-true q.class 255 is)))
    by false not false other false range false class t = absurd (true≢false (sym t))

none_true : (a b r k : Bool) → (a || b || r || k) ≡ false → (a ≡ false) × (b ≡ false) × (r ≡ false) × (k ≡ false)
none_true false false false false f = (refl, refl, refl, refl)
none_true true b r k f = absurd (true≢false f)
none_true false true r k f = absurd (true≢false f)
none_true false false true k f = absurd (true≢false f)
none_true false false false true f = absurd (true≢false f)

pub served_is : (q : Question) → is_unserved q ≡ false → IsUnserved q → ⊥
served_is q f unserved = by unserved
  where
    each : ((q.kind == 0) ≡ false) × ((q.kind == 41) ≡ false) × ((nat_le 128 q.kind && nat_le q.kind 255) ≡ false)
        × ((q.class == 255) ≡ false)
    each = none_true (q.kind == 0) (q.kind == 41) (nat_le 128 q.kind && nat_le q.kind 255) (q.class == 255) f

    by : IsUnserved q → ⊥
    by (inl is) = true≢false (sym (eq-eqb q.kind 0 is) ∙ each.0)
    by (inr (inl is)) = true≢false (sym (eq-eqb q.kind 41 is) ∙ each.1)
    by (inr (inr (inl range))) = true≢false
        (sym (and_from (nat_le 128 q.kind) (nat_le q.kind 255) (le-leb 128 q.kind range.0) (le-leb q.kind 255 range.1))
        ∙ each.2)
    by (inr (inr (inr is))) = true≢false (sym (eq-eqb q.class 255 is) ∙ each.3)

-- and back
pub served_so : (q : Question) → (IsUnserved q → ⊥) → is_unserved q ≡ false
served_so q served = false_from_ne_true (is_unserved q) (λ t. served (unserved_is q t))
