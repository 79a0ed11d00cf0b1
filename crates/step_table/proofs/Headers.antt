-- Headers of messages.
use Rattle.std.proofs.Common.{◌≡◌, ℕ, ◌≤◌, List, length, Some, None, true, false, sym, ◌∙◌, ⊎_elim}
use Rattle.std.specs.Prelude.{nat_lt}
use Rattle.std.proofs.lemmas.Bool.{cases_Bool, cond-true, cond-false, ltb-false}
use Rattle.dns_message.specs.declared.reading.header.Header.{Header}
use Rattle.dns_message.specs.Header.{header_of, header_in}

-- the header, if any
pub header_there : (octets : List ℕ) (h : Header) → header_of octets ≡ Some h → (header_in octets ≡ h) × (12 ≤ length octets)
unfolding header_of
header_there octets h e = ⊎_elim
    (λ (t : nat_lt (length octets) 12 ≡ true). let bad : None ≡ Some h = sym (cond-true (nat_lt (length octets) 12) _ _ t) ∙ e in absurd (cc))
    (λ (f : nat_lt (length octets) 12 ≡ false). let is : Some (header_in octets) ≡ Some h = sym (cond-false (nat_lt (length octets) 12) _ _ f) ∙ e in let same : header_in octets ≡ h = cc in (same, ltb-false (length octets) 12 f))
    (cases_Bool (nat_lt (length octets) 12))
