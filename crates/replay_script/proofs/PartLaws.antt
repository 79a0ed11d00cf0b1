-- How a script falls into lines.
use Rattle.std.proofs.Common.{rules, ◌≡◌, ◌++◌, ◌∷◌, [], ℕ, suc, ◌+◌, ◌-◌, ◌<◌, List, Bool, true, false, length, take, drop, get_or, refl, sym, ap, subst, ◌∙◌, arith, inl, inr, append_assoc, append-nil}
use Rattle.std.specs.Prelude.{Some, None, nat_lt, cond, not}
use Rattle.std.specs.List.{All, list_any, flat_map, position, position_or_len}
use Rattle.std.specs.Str.{bytes_eq}
use Rattle.std.proofs.lemmas.Bool.{eqb-true, le-ltb, ltb-false}
use Rattle.std.proofs.lemmas.List.{length-append, length-drop, length-take-le, get_or-take}
use Rattle.std.proofs.lemmas.List.Folds.{list_all-append, list_any_none}
use Rattle.std.proofs.lemmas.List.Quantifiers.{position-Some}
use Rattle.std.proofs.lemmas.Grind.{flat_map-append}
use Rattle.std.proofs.lemmas.Slice.Eq.{bytes_eq-Decides}
use Rattle.std.proofs.Math.Seq.{take-append_seam, take-length, split_at}
use Rattle.replay_script.specs.Parts.{AreParts, FollowsLines, separator, ended, is_feed}

-- ---- the first line

-- A found line feed is the first.
pub cut_at : (text : List ℕ) (at : ℕ) → position is_feed text ≡ Some at
    → (list_any is_feed (take at text) ≡ false) × (text ≡ ended (take at text) ++ take (length text - (at + 1)) (drop (at + 1) text))
cut_at text at e =
    let found = position-Some is_feed text at 0 e in
    let long : length (take at text) ≡ at = length-take-le at text (let below = found.0 in omega (arith, below)) in
    let none : All (λ octet. is_feed octet ≡ false) (take at text) = λ k d below.
    let within : k < at = subst (λ n. k < n) long below in
    ap is_feed (get_or-take at text k d within) ∙ (position-Some is_feed text at d e).2 k within in
    let feed : get_or text at 0 ≡ 10 = eqb-true (get_or text at 0) 10 found.1 in
    let left = drop (at + 1) text in
    let all : take (length text - (at + 1)) left ≡ left = ap (λ n. take n left) (sym (length-drop (at + 1) text)) ∙ take-length left in
    let one : suc at ≡ at + 1 = omega (arith) in (
      list_any_none is_feed (take at text) none,
      split_at text at 0 found.0 ∙ (ap (λ octet. take at text ++ octet ∷ drop (suc at) text) feed ∙ (sym (append_assoc (take at text) (10 ∷ []) (drop (suc at) text)) ∙ ap (λ t. ended (take at text) ++ t) (ap (λ n. drop n text) one ∙ sym all))),
    )

more_before : (b : Bool) (n l : ℕ) → nat_lt (cond (not b) (1 + n) 0) (suc l) ≡ false → (b ≡ false) × (nat_lt n l ≡ false)
more_before true n l e = absurd (let least = ltb-false 0 (suc l) e in omega (arith, least))
more_before false n l e = (refl, (let least = ltb-false (1 + n) (suc l) e in le-ltb n l (omega (arith, least))))

absent : (text : List ℕ) → nat_lt (position_or_len is_feed text) (length text) ≡ false → list_any is_feed text ≡ false
absent [] e = refl
absent (octet ∷ text) e =
    let parts = more_before (is_feed octet) (position_or_len is_feed text) (length text) e in
    rw (parts.0) (absent text parts.1)

none_found : (b : Bool) (at : ℕ) → cond b (Some at) None ≡ None → b ≡ false
none_found true at e = absurd (cc)
none_found false at e = refl

-- Nothing is found in a text without a line feed.
pub no_feed : (text : List ℕ) → position is_feed text ≡ None → list_any is_feed text ≡ false
no_feed text e = absent text (none_found (nat_lt (position_or_len is_feed text) (length text)) (position_or_len is_feed text) e)

-- ---- the parts

-- the part before the rest of a text
front : (text before rest : List ℕ) → text ≡ before ++ rest → take (length text - length rest) text ≡ before
front text before rest e =
    let long : length text - length rest ≡ length before = (let sum = ap length e ∙ length-append before rest in omega (arith, sum)) in
    ap (λ n. take n text) long ∙ (ap (λ t. take (length before) t) e ∙ take-append_seam before rest)

-- One more line of the configuration.
pub one_more : (script rest line behind : List ℕ) (lines : List (List ℕ)) → FollowsLines script rest lines → list_any is_feed line ≡ false → bytes_eq line separator ≡ false
    → rest ≡ ended line ++ behind → FollowsLines script behind (lines ++ line ∷ [])
one_more script rest line behind lines h whole other cut =
    let before = flat_map ended lines in
    let longer : flat_map ended (lines ++ line ∷ []) ≡ before ++ ended line = flat_map-append ended lines (line ∷ []) ∙ ap (λ t. before ++ t) (append-nil (ended line)) in
    record {
      of_config = search (rules, list_all-append, h.of_config, whole, other);
      script_is = h.script_is ∙ (ap (λ t. before ++ t) cut ∙ (sym (append_assoc before (ended line) behind) ∙ ap (λ t. t ++ behind) (sym longer)));
    }

-- The separating line before event lines.
pub before_events : (script rest line behind : List ℕ) (lines : List (List ℕ)) → FollowsLines script rest lines → bytes_eq line separator ≡ true → rest ≡ ended line ++ behind
    → AreParts script (take (length script - length rest) script) behind
before_events script rest line behind lines h is cut =
    let is_separator = (bytes_eq-Decides line separator).0 is in
    let rest_is : rest ≡ separator ++ 10 ∷ behind = cut ∙ (append_assoc line (10 ∷ []) behind ∙ ap (λ t. t ++ 10 ∷ behind) is_separator) in
    record {
      lines = lines;
      config_is = front script (flat_map ended lines) rest h.script_is;
      follows = inl (record { of_config = h.of_config; script_is = h.script_is ∙ ap (λ t. flat_map ended lines ++ t) rest_is });
    }

-- The separating line at the end.
pub at_end : (script rest : List ℕ) (lines : List (List ℕ)) → FollowsLines script rest lines → bytes_eq rest separator ≡ true → AreParts script (take (length script - length rest) script) []
at_end script rest lines h is =
    let rest_is = (bytes_eq-Decides rest separator).0 is in
    record {
      lines = lines;
      config_is = front script (flat_map ended lines) rest h.script_is;
      follows = inr (record { of_config = h.of_config; script_is = h.script_is ∙ ap (λ t. flat_map ended lines ++ t) rest_is }, refl);
    }
