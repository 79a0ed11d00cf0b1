-- Texts of peers: a written text is read back, and every text of a peer is read.
use Rattle.std.proofs.Common.{◌≡◌, ℕ, suc, ◌+◌, ◌<◌, Bool, true, false, ◌&&◌, ◌==◌, List, [], ◌∷◌, ◌++◌, length, take, drop, Option, Some, None, refl, sym, ap, ◌∙◌, arith, inl, inr}
use Rattle.std.specs.Prelude.{MatchOption}
use Rattle.std.specs.List.{list_all, position_or_len}
use Rattle.std.specs.Char.{is_ascii_digit}
use Rattle.std.proofs.lemmas.Bool.{cases_Bool, cases_lt, lt-ltb, le-ltb, eqb-true}
use Rattle.std.proofs.lemmas.Bool.Decides.{nat_tests}
use Rattle.std.proofs.lemmas.List.{take_at, length-append}
use Rattle.suffix_routes.specs.declared.peer.Peer.{Peer}
use Rattle.suffix_routes.specs.Peers.{◌>>?◌, cut, is_decimal, number_in, peer_of, Writes}

abbrev Text : Type 0
Text = List ℕ

-- ---- the result for a present value

record Bound {A B : Type 0} (o : Option A) (f : A → Option B) (y : B) : Type 0 where
  value : A
  there : o ≡ Some value
  next : f value ≡ Some y

bound : {A B : Type 0} (o : Option A) (f : A → Option B) (y : B) → (o >>? f) ≡ Some y → Bound o f y
bound (Some x) f y is = record { value = x; there = refl; next = is }
bound {B = B} None f y is = absurd (let no : None ≡ Some y = is in cc)

-- ---- cutting at a separator

place_in : (separator : ℕ) (text : Text) → position_or_len (λ c. c == separator) text < length text
    → text ≡ take (position_or_len (λ c. c == separator) text) text ++ (separator ∷ drop (position_or_len (λ c. c == separator) text + 1) text)
place_in separator [] lt = absurd (omega arith)
place_in separator (x ∷ xs) lt =
    elim (cases_Bool (x == separator)) [
      | inl here ↦ let one : x ≡ separator = eqb-true x separator here in rw (here, one) refl
      | inr other ↦
          let next : 1 + position_or_len (λ c. c == separator) xs ≡ suc (position_or_len (λ c. c == separator) xs) = omega arith in
          let after : suc (position_or_len (λ c. c == separator) xs) + 1 ≡ suc (position_or_len (λ c. c == separator) xs + 1) = omega arith in
          rw (other, next, after) (ap (λ (rest : Text). x ∷ rest) (place_in separator xs (omega (arith, rw other at lt))))
    ]

cut_whole : (separator : ℕ) (text front back : Text) → cut separator text ≡ Some (front, back) → text ≡ front ++ (separator ∷ back)
cut_whole separator text front back is =
    elim (cases_lt (position_or_len (λ c. c == separator) text) (length text)) [
      | inl lt ↦
          let n : ℕ = position_or_len (λ c. c == separator) text in
          let cut_there : Some (take n text, drop (n + 1) text) ≡ Some (front, back) = rw (lt-ltb n (length text) lt) at is in
          let pair : (take n text, drop (n + 1) text) ≡ (front, back) = cc in
          place_in separator text lt ∙ ap (λ (p : Text × Text). p.0 ++ (separator ∷ p.1)) pair
      | inr le ↦ absurd (let no : None ≡ Some (front, back) = rw (le-ltb (position_or_len (λ c. c == separator) text) (length text) le) at is in cc)
    ]

-- a separator is no digit
abbrev IsNoDigit : ℕ → Type 0
IsNoDigit separator = (c : ℕ) → is_ascii_digit c ≡ true → (c == separator) ≡ false

both : (x y : Bool) → (x && y) ≡ true → (x ≡ true) × (y ≡ true)
both true y e = (refl, e)
both false y e = absurd cc

digits_before : (separator : ℕ) (front back : Text) → IsNoDigit separator → list_all is_ascii_digit front ≡ true → position_or_len (λ c. c == separator) (front ++ (separator ∷ back)) ≡ length front
digits_before separator [] back none digits = let here : (separator == separator) ≡ true = grind (arith, nat_tests) in rw here refl
digits_before separator (c ∷ cs) back none digits =
    let parts = both (is_ascii_digit c) (list_all is_ascii_digit cs) digits in
    rw (none c parts.0, digits_before separator cs back none parts.1) (omega arith)

cut_at : (separator : ℕ) (front back : Text) → IsNoDigit separator → list_all is_ascii_digit front ≡ true → cut separator (front ++ (separator ∷ back)) ≡ Some (front, back)
cut_at separator front back none digits =
    let text : Text = front ++ (separator ∷ back) in
    let place : position_or_len (λ c. c == separator) text ≡ length front = digits_before separator front back none digits in
    let lt : length front < length text = omega (arith, length-append front (separator ∷ back)) in
    let first : take (length front) text ≡ front = take_at front (separator ∷ back) (length front) refl in
    let rest : drop (length front + 1) text ≡ back = behind front back in
    rw (place, lt-ltb (length front) (length text) lt) (ap Some (ap (λ (x : Text). (x, drop (length front + 1) text)) first ∙ ap (λ (y : Text). (front, y)) rest))
  where
    behind : (front back : Text) → drop (length front + 1) (front ++ (separator ∷ back)) ≡ back
    behind [] back = refl
    behind (c ∷ cs) back = let more : suc (length cs) + 1 ≡ suc (length cs + 1) = omega arith in rw more (behind cs back)

-- ---- numbers

digits_of : (low high : ℕ) (text : Text) (n : ℕ) → number_in low high text ≡ Some n → list_all is_ascii_digit text ≡ true
unfolding number_in
digits_of low high text n is =
    elim (cases_Bool (is_decimal text)) [
      | inl decimal ↦ (both _ (list_all is_ascii_digit text) decimal).1
      | inr other ↦ absurd (let no : None ≡ Some n = rw other at is in cc)
    ]

dot_is_no_digit : IsNoDigit 46
dot_is_no_digit c digit = grind (arith, nat_tests, digit)

colon_is_no_digit : IsNoDigit 58
colon_is_no_digit c digit = grind (arith, nat_tests, digit)

-- ---- peers

abbrev ports : Text → ℕ → ℕ → ℕ → ℕ → Option Peer
ports port a b c d = number_in 1 65535 port >>? λ n. Some (record { ip = a ∷ b ∷ c ∷ d ∷ []; port = n })

abbrev numbers : Text → Text → Text → Text → Text → Option Peer
numbers first second third fourth port =
    number_in 0 255 first >>? λ a. number_in 0 255 second >>? λ b. number_in 0 255 third >>? λ c. number_in 0 255 fourth >>? λ d. ports port a b c d

numbers_written : (first second third fourth port : Text) (peer : Peer) → numbers first second third fourth port ≡ Some peer
    → Writes (first ++ (46 ∷ (second ++ (46 ∷ (third ++ (46 ∷ (fourth ++ (58 ∷ port)))))))) peer
numbers_written first second third fourth port peer is =
    let a = bound (number_in 0 255 first) (λ a. number_in 0 255 second >>? λ b. number_in 0 255 third >>? λ c. number_in 0 255 fourth >>? λ d. ports port a b c d) peer is in
    let b = bound (number_in 0 255 second) (λ b. number_in 0 255 third >>? λ c. number_in 0 255 fourth >>? λ d. ports port a.value b c d) peer a.next in
    let c = bound (number_in 0 255 third) (λ c. number_in 0 255 fourth >>? λ d. ports port a.value b.value c d) peer b.next in
    let d = bound (number_in 0 255 fourth) (λ d. ports port a.value b.value c.value d) peer c.next in
    let n = bound (number_in 1 65535 port) (λ n. Some (record { ip = a.value ∷ b.value ∷ c.value ∷ d.value ∷ []; port = n })) peer d.next in
    record {
      first = first;
      second = second;
      third = third;
      fourth = fourth;
      last = port;
      parts = refl;
      a = a.value;
      b = b.value;
      c = c.value;
      d = d.value;
      port = n.value;
      is_a = a.there;
      is_b = b.there;
      is_c = c.there;
      is_d = d.there;
      is_port = n.there;
      is_peer = let one : record { ip = a.value ∷ b.value ∷ c.value ∷ d.value ∷ []; port = n.value } ≡ peer = cc in sym one;
    }

pub peer_writes : (text : Text) (peer : Peer) → peer_of text ≡ Some peer → Writes text peer
unfolding peer_of
peer_writes text peer is =
    let one = bound (cut 46 text) (λ first. cut 46 first.1 >>? λ second. cut 46 second.1 >>? λ third. cut 58 third.1 >>? λ fourth. numbers first.0 second.0 third.0 fourth.0 fourth.1) peer is in
    let two = bound (cut 46 one.value.1) (λ second. cut 46 second.1 >>? λ third. cut 58 third.1 >>? λ fourth. numbers one.value.0 second.0 third.0 fourth.0 fourth.1) peer one.next in
    let three = bound (cut 46 two.value.1) (λ third. cut 58 third.1 >>? λ fourth. numbers one.value.0 two.value.0 third.0 fourth.0 fourth.1) peer two.next in
    let four = bound (cut 58 three.value.1) (λ fourth. numbers one.value.0 two.value.0 three.value.0 fourth.0 fourth.1) peer three.next in
    let whole : text ≡ one.value.0 ++ (46 ∷ (two.value.0 ++ (46 ∷ (three.value.0 ++ (46 ∷ (four.value.0 ++ (58 ∷ four.value.1))))))) =
    cut_whole 46 text one.value.0 one.value.1 one.there
    ∙ ap (λ (r : Text). one.value.0 ++ (46 ∷ r)) (cut_whole 46 one.value.1 two.value.0 two.value.1 two.there
    ∙ ap (λ (r : Text). two.value.0 ++ (46 ∷ r)) (cut_whole 46 two.value.1 three.value.0 three.value.1 three.there
    ∙ ap (λ (r : Text). three.value.0 ++ (46 ∷ r)) (cut_whole 58 three.value.1 four.value.0 four.value.1 four.there))) in
    rw whole (numbers_written one.value.0 two.value.0 three.value.0 four.value.0 four.value.1 peer four.next)

pub writes_peer : (text : Text) (peer : Peer) → Writes text peer → peer_of text ≡ Some peer
unfolding peer_of
writes_peer text peer w =
    let behind_third : Text = w.fourth ++ (58 ∷ w.last) in
    let behind_second : Text = w.third ++ (46 ∷ behind_third) in
    let behind_first : Text = w.second ++ (46 ∷ behind_second) in
    rw (
      w.parts,
      cut_at 46 w.first behind_first dot_is_no_digit (digits_of 0 255 w.first w.a w.is_a),
      cut_at 46 w.second behind_second dot_is_no_digit (digits_of 0 255 w.second w.b w.is_b),
      cut_at 46 w.third behind_third dot_is_no_digit (digits_of 0 255 w.third w.c w.is_c),
      cut_at 58 w.fourth w.last colon_is_no_digit (digits_of 0 255 w.fourth w.d w.is_d),
      w.is_a,
      w.is_b,
      w.is_c,
      w.is_d,
      w.is_port,
      w.is_peer,
    )
    refl

-- the answer of from_text
pub told_peer : (text : Text) (answer : Option Peer) → answer ≡ peer_of text → MatchOption answer ((peer : Peer) → Writes text peer → ⊥) (λ peer. Writes text peer)
told_peer text (Some peer) is = peer_writes text peer (sym is)
told_peer text None is = λ peer written. absurd (let no : None ≡ Some peer = is ∙ writes_peer text peer written in cc)
