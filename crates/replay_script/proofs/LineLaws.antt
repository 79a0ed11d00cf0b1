-- The meaning of the parts of an event line.
use Rattle.std.proofs.Common.{rules, ◌≡◌, ℕ, ◌<◌, ◌+◌, ◌-◌, ◌*◌, ◌^◌, List, Bool, true, false, length, fold, refl, ap, arith}
use Rattle.std.specs.Prelude.{Ok, Err, nat_lt, nat_le, ◌&&◌, IsUtf8}
use Rattle.std.specs.List.{list_all}
use Rattle.std.specs.Char.{is_ascii_digit}
use Rattle.std.specs.Str.{is_utf8}
use Rattle.std.specs.Str.Parse.{ParsesUnsigned}
use Rattle.std.proofs.lemmas.Bool.{lt-ltb, le-ltb, ltb-true}
use Rattle.std.proofs.lemmas.Str.{is_utf8-from_IsUtf8, IsUtf8-from_is_utf8}
use Rattle.std.proofs.lemmas.Str.Parse.{IsNumeralModel, numerals_by_fold, parse_digits}
use Rattle.suffix_routes.specs.Peers.{decimal_value}
use Rattle.replay_script.specs.declared.events.Refusal.TheVariants.{Form}
use Rattle.replay_script.specs.Lines.{is_numeral, number_in, line_in, moment_and_event_in}

-- ---- numbers

own : IsNumeralModel (λ ds. list_all is_ascii_digit ds ≡ true) decimal_value
own = numerals_by_fold (λ ds. list_all is_ascii_digit ds ≡ true) (search rules) (λ n ds. fold (λ m c. 10 * m + (c - 48)) n ds) (search rules)

and_parts : (x y : Bool) → (x && y) ≡ true → (x ≡ true) × (y ≡ true)
and_parts true true e = (refl, refl)
and_parts true false e = absurd (cc)
and_parts false y e = absurd (cc)

digits_of : (most : ℕ) (text : List ℕ) → is_numeral most text ≡ true → (0 < length text) × (list_all is_ascii_digit text ≡ true)
digits_of most text numeral =
    let parts = and_parts (nat_lt 0 (length text)) (nat_le (length text) most && list_all is_ascii_digit text) numeral in (
      ltb-true 0 (length text) parts.0,
      (and_parts (nat_le (length text) most) (list_all is_ascii_digit text) parts.1).1,
    )

pub number_read : (most : ℕ) (text : List ℕ) (n : ℕ) → is_numeral most text ≡ true → ParsesUnsigned {E = Unit {0}} 64 10 text (Ok n) → Ok n ≡ number_in most text
unfolding number_in
number_read most text n numeral parses =
    let read : ((0 < length text) × (decimal_value text < 2 ^ 64)) × (n ≡ decimal_value text) = parse_digits own {E = Unit {0}} 64 text (Ok n) parses (digits_of most text numeral).1 in
    rw (numeral, lt-ltb (decimal_value text) (2 ^ 64) read.0.1) (ap Ok read.1)

not_below : (a b : ℕ) → (a < b → ⊥) → nat_lt a b ≡ false
not_below a b none = le-ltb a b (omega (arith, none))

pub number_refused : (most : ℕ) (text : List ℕ) → is_numeral most text ≡ true → ParsesUnsigned {E = Unit {0}} 64 10 text (Err tt) → Err Form ≡ number_in most text
unfolding number_in
number_refused most text numeral parses =
    let digits = digits_of most text numeral in
    let great : (0 < length text) × (decimal_value text < 2 ^ 64) → ⊥ = parse_digits own {E = Unit {0}} 64 text (Err tt) parses digits.1 in
    rw (numeral, not_below (decimal_value text) (2 ^ 64) (λ lt. great (digits.0, lt))) refl

-- ---- lines

pub line_of_text : (line : List ℕ) → IsUtf8 line → line_in line ≡ moment_and_event_in line
unfolding line_in
line_of_text line text = rw (is_utf8-from_IsUtf8 line text) refl

no_utf8 : (line : List ℕ) → (IsUtf8 line → ⊥) → is_utf8 line ≡ false
no_utf8 line none = by (is_utf8 line) refl
  where
    by : (b : Bool) → is_utf8 line ≡ b → is_utf8 line ≡ false
    by true e = absurd (none (IsUtf8-from_is_utf8 line e))
    by false e = e

pub line_of_no_text : (line : List ℕ) → (IsUtf8 line → ⊥) → line_in line ≡ Err Form
unfolding line_in
line_of_no_text line none = rw (no_utf8 line none) refl
