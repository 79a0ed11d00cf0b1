-- Positions, an octet at a time.
use Rattle.std.proofs.Common.{◌≡◌, ℕ, ◌+◌, ◌++◌, ◌∷◌, [], ◌<◌, List, Bool, true, false, cond, take, length, get_or, reverse, refl, ap, ◌∙◌, arith}
use Rattle.std.specs.Prelude.{not, ◌==◌, count_by, take_while}
use Rattle.std.proofs.lemmas.List.{take_more, reverse-append}
use Rattle.std.proofs.lemmas.List.Sums.{take_while-cons, sum_by-cons}
use Rattle.std.proofs.lemmas.Bool.{cond-true, ne_eqb}
use Rattle.suffix_routes.specs.Positions.{is_line_feed, begins_character, last_line}

-- one more octet, put first
last_more : (i : ℕ) (octets : List ℕ) → i < length octets → (octet : ℕ) → get_or octets i 0 ≡ octet
    → last_line (take (i + 1) octets) ≡ cond (not (is_line_feed octet)) (octet ∷ last_line (take i octets)) []
last_more i octets lt octet is =
    ap last_line (take_more octets i 0 lt ∙ ap (λ x. take i octets ++ x ∷ []) is)
    ∙ ap (take_while (λ x. not (is_line_feed x))) (reverse-append (take i octets) (octet ∷ []))
    ∙ take_while-cons (λ x. not (is_line_feed x)) octet (reverse (take i octets))

pub line_begins : (i : ℕ) (octets : List ℕ) → i < length octets → get_or octets i 0 ≡ 10 → last_line (take (i + 1) octets) ≡ []
line_begins i octets lt is = last_more i octets lt 10 is

column_more : (i : ℕ) (octets : List ℕ) → i < length octets → is_line_feed (get_or octets i 0) ≡ false
    → count_by begins_character (last_line (take (i + 1) octets)) ≡ cond (begins_character (get_or octets i 0)) 1 0 + count_by begins_character (last_line (take i octets))
column_more i octets lt none =
    ap (count_by begins_character) (last_more i octets lt (get_or octets i 0) refl ∙ cond-true (not (is_line_feed (get_or octets i 0))) _ _ (ap not none))
    ∙ sum_by-cons (λ x. cond (begins_character x) 1 0) (get_or octets i 0) (last_line (take i octets))

pub column_begins : (i : ℕ) (octets : List ℕ) → i < length octets → is_line_feed (get_or octets i 0) ≡ false → begins_character (get_or octets i 0) ≡ true
    → count_by begins_character (last_line (take (i + 1) octets)) ≡ 1 + count_by begins_character (last_line (take i octets))
column_begins i octets lt none begins = column_more i octets lt none ∙ ap (λ (b : Bool). cond b 1 0 + count_by begins_character (last_line (take i octets))) begins

pub column_goes_on : (i : ℕ) (octets : List ℕ) → i < length octets → is_line_feed (get_or octets i 0) ≡ false → begins_character (get_or octets i 0) ≡ false
    → count_by begins_character (last_line (take (i + 1) octets)) ≡ count_by begins_character (last_line (take i octets))
column_goes_on i octets lt none begins =
    let more = column_more i octets lt none in
    let nothing : cond {A = ℕ} (begins_character (get_or octets i 0)) 1 0 ≡ 0 = ap (λ (b : Bool). cond {A = ℕ} b 1 0) begins in
    omega (arith, more, nothing)

-- another octet is none
pub no_line_feed : (octet : ℕ) → (octet ≡ 10 → ⊥) → is_line_feed octet ≡ false
no_line_feed octet none = ne_eqb octet 10 none
