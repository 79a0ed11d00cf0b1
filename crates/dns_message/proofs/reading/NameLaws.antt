-- A name without a pointer is its own octets, with a final zero octet.
use Rattle.std.proofs.Common.{◌≡◌, ℕ, suc, ◌+◌, ◌-◌, ◌<◌, ◌≤◌, List, [], ◌∷◌, ◌++◌, length, take, drop, get_or, Option, Some, None, Result, Ok, Err, refl, sym, ap, subst, ◌∙◌, append_assoc, arith}
use Rattle.std.specs.Prelude.{IfOk, MatchOption}
use Rattle.std.specs.List.{AllByRecursion}
use Rattle.std.proofs.lemmas.List.{length-take, length-drop, length-append, drop-drop, drop_at, append-nil}
use Rattle.std.proofs.Math.Seq.{take-add, drop-cons}
use Rattle.dns_name.specs.Labels.{label_octets, octets_of, size_of, labels_of, IsLabel, IsLaidOut, IsName}
use Rattle.dns_name.proofs.CallerLemmas.{labels_of_octets, octets_are_laid_out, octets_joined}
use Rattle.dns_message.specs.declared.names.fault.Fault.{Fault}
use Rattle.dns_message.specs.Names.{NameAt, at_root, at_label, at_pointer, name_at}
use Rattle.dns_message.specs.Reading.{end_read}
use Rattle.dns_message.proofs.names.NameLaws.{name_sound}
use Rattle.dns_message.specs.Values.{Question}
use Rattle.dns_message.specs.Messages.{IsUncompressed, IsViewedTo, first_question}
use Rattle.dns_message.proofs.reading.ShapeLaws.{labels_are, name_is}
use Rattle.dns_message.proofs.reading.WholeLaws.{asked}

-- the name at o goes on at p, after the labels from o on
pub record GoesOn (bytes : List ℕ) (o p : ℕ) : Type 0 where
  pub front : List (List ℕ)
  pub rest : List (List ℕ)
  pub e : ℕ
  pub read : name_at bytes o ≡ Ok (front ++ rest, e)
  pub at : NameAt bytes p o rest e
  pub name : IsName (front ++ rest)
  pub after : o ≤ p
  pub octets : take (p - o) (drop o bytes) ≡ octets_of front

begins_by : (bytes : List ℕ) (o e : ℕ) (r : Result (List (List ℕ) × ℕ) Fault) → name_at bytes o ≡ r → end_read r ≡ Ok e → GoesOn bytes o o
begins_by bytes o e (Ok n) is ends =
    let stands = name_sound bytes o n.0 n.1 is in
    let none : o - o ≡ 0 = omega arith in
    record {
      front = [];
      rest = n.0;
      e = n.1;
      read = is;
      at = stands.0;
      name = name_is bytes o o n.1 n.0 stands.0 stands.1;
      after = omega arith;
      octets = rw none refl;
    }
begins_by bytes o e (Err fault) is ends = absurd cc

pub name_begins : (bytes : List ℕ) (o e : ℕ) → end_read (name_at bytes o) ≡ Ok e → GoesOn bytes o o
name_begins bytes o e ends = begins_by bytes o e (name_at bytes o) refl ends

-- the name at o ends with these octets, without a pointer
abbrev pub EndsPlain : List ℕ → ℕ → List ℕ → Type 0
EndsPlain bytes o octets = IsLaidOut octets × IfOk (name_at bytes o) (λ n. (n.0 ≡ labels_of octets) × IsUncompressed bytes o n.0)

-- the octet at p, and the name by this octet
pub record Stands (bytes : List ℕ) (o p : ℕ) : Type 0 where
  pub there : p < length bytes
  pub after : o ≤ p
  pub zero_octet : get_or bytes p 0 ≡ 0 → EndsPlain bytes o (take (p - o) (drop o bytes))
  pub pointer : 192 ≤ get_or bytes p 0 → IfOk (name_at bytes o) (λ n. IsUncompressed bytes o n.0 → ⊥)
  pub label : 0 < get_or bytes p 0 → get_or bytes p 0 < 192 → GoesOn bytes o (p + (get_or bytes p 0 + 1))

octets_size : (labels : List (List ℕ)) → size_of labels ≡ length (octets_of labels) + 1
octets_size [] = refl
octets_size (l ∷ ls) = omega (arith, octets_size ls, length-append l (octets_of ls))

one_label : (front : List (List ℕ)) (l : List ℕ) → octets_of (front ++ l ∷ []) ≡ octets_of front ++ label_octets l
one_label front l = octets_joined front (l ∷ []) ∙ ap (λ (xs : List ℕ). octets_of front ++ xs) (append-nil (label_octets l))

-- the octets from p on, after the octets of the labels before
behind_front : (bytes : List ℕ) (o p : ℕ) → o ≤ p → p < length bytes → drop (p - o) (drop o bytes) ≡ get_or bytes p 0 ∷ drop (p + 1) bytes
behind_front bytes o p le lt =
    let at : o + (p - o) ≡ p = omega (arith, le) in
    let next : p + 1 ≡ suc p = omega arith in
    drop-drop (p - o) o bytes ∙ ap (λ (x : ℕ). drop x bytes) at ∙ rw next (drop-cons bytes p 0 lt)

-- the octets up to and including p
up_to : (bytes : List ℕ) (o p n : ℕ) → o ≤ p → p < length bytes → take ((p - o) + suc n) (drop o bytes) ≡ take (p - o) (drop o bytes) ++ get_or bytes p 0 ∷ take n (drop (p + 1) bytes)
up_to bytes o p n le lt = take-add (p - o) (suc n) (drop o bytes) ∙ rw (behind_front bytes o p le lt) refl

-- a name ending at p
ends_here : (bytes : List ℕ) (o p : ℕ) (front : List (List ℕ)) (e : ℕ) → name_at bytes o ≡ Ok (front, e) → IsName front → o ≤ p → p < length bytes → get_or bytes p 0 ≡ 0
    → take (p - o) (drop o bytes) ≡ octets_of front → EndsPlain bytes o (take (p - o) (drop o bytes))
ends_here bytes o p front e read name le lt none octets =
    let laid = subst IsLaidOut (sym octets) (octets_are_laid_out front name) in
    let labels : front ≡ labels_of (take (p - o) (drop o bytes)) = sym (ap labels_of octets ∙ labels_of_octets front) in
    let long : p - o ≡ length (octets_of front) = sym (length-take (p - o) (drop o bytes) ∙ omega (arith, length-drop o bytes, le, lt)) ∙ ap length octets in
    let size : size_of front ≡ (p - o) + suc 0 = omega (arith, octets_size front, long) in
    let stands : IsUncompressed bytes o front = ap (λ (n : ℕ). take n (drop o bytes)) size ∙ up_to bytes o p 0 le lt ∙ rw (octets, none) refl in
    (laid, rw read (labels, stands))

-- no name begins with the first octet of a pointer
no_first : (rest : List (List ℕ)) (x : ℕ) (xs : List ℕ) → AllByRecursion IsLabel rest → 192 ≤ x → x ∷ xs ≡ octets_of rest ++ 0 ∷ [] → ⊥
no_first [] x xs all high is = let same : x ≡ 0 = cc in omega (arith, same, high)
no_first (l ∷ ls) x xs all high is = let same : x ≡ length l = cc in omega (arith, same, high, all.0.short)

-- a name with a pointer at p
leads_on : (bytes : List ℕ) (o p : ℕ) (front rest : List (List ℕ)) → AllByRecursion IsLabel rest → o ≤ p → p < length bytes → 192 ≤ get_or bytes p 0
    → take (p - o) (drop o bytes) ≡ octets_of front → IsUncompressed bytes o (front ++ rest) → ⊥
leads_on bytes o p front rest all le lt high octets stands =
    let long : p - o ≡ length (octets_of front) = sym (length-take (p - o) (drop o bytes) ∙ omega (arith, length-drop o bytes, le, lt)) ∙ ap length octets in
    let joined = octets_joined front rest in
    let size : size_of (front ++ rest) ≡ (p - o) + suc (length (octets_of rest)) = omega (arith, octets_size (front ++ rest), ap length joined, length-append (octets_of front) (octets_of rest), long) in
    let there : take ((p - o) + suc (length (octets_of rest))) (drop o bytes) ≡ octets_of front ++ get_or bytes p 0 ∷ take (length (octets_of rest)) (drop (p + 1) bytes) =
    up_to bytes o p (length (octets_of rest)) le lt ∙ rw octets refl in
    let here : octets_of (front ++ rest) ++ 0 ∷ [] ≡ octets_of front ++ (octets_of rest ++ 0 ∷ []) = rw joined (append_assoc (octets_of front) (octets_of rest) (0 ∷ [])) in
    let both : octets_of front ++ get_or bytes p 0 ∷ take (length (octets_of rest)) (drop (p + 1) bytes) ≡ octets_of front ++ (octets_of rest ++ 0 ∷ []) =
    sym there ∙ ap (λ (n : ℕ). take n (drop o bytes)) (sym size) ∙ stands ∙ here in
    no_first rest (get_or bytes p 0) (take (length (octets_of rest)) (drop (p + 1) bytes)) all high
    (sym (drop_at (octets_of front) (get_or bytes p 0 ∷ take (length (octets_of rest)) (drop (p + 1) bytes)) (p - o) (sym long)) ∙ ap (drop (p - o)) both
    ∙ drop_at (octets_of front) (octets_of rest ++ 0 ∷ []) (p - o) (sym long))

-- a label at p
one_more : (bytes : List ℕ) (o p : ℕ) (front : List (List ℕ)) (l : List ℕ) → o ≤ p → p + 1 + get_or bytes p 0 ≤ length bytes → l ≡ take (get_or bytes p 0) (drop (p + 1) bytes)
    → take (p - o) (drop o bytes) ≡ octets_of front → take (p + (get_or bytes p 0 + 1) - o) (drop o bytes) ≡ octets_of (front ++ l ∷ [])
one_more bytes o p front l le inside l-is octets =
    let len : ℕ = get_or bytes p 0 in
    let far : p + (len + 1) - o ≡ (p - o) + suc len = omega (arith, le) in
    let long : length l ≡ len = ap length l-is ∙ omega (arith, length-take len (drop (p + 1) bytes), length-drop (p + 1) bytes, inside) in
    let own : get_or bytes p 0 ∷ take len (drop (p + 1) bytes) ≡ label_octets l = rw (long, l-is) refl in
    let all : octets_of front ++ label_octets l ≡ octets_of (front ++ l ∷ []) = sym (one_label front l) in
    rw far (up_to bytes o p len le (omega (arith, inside)) ∙ (λ i. octets i ++ own i) ∙ all)

stands_by : (bytes : List ℕ) (o p e : ℕ) (front rest : List (List ℕ)) → NameAt bytes p o rest e → name_at bytes o ≡ Ok (front ++ rest, e) → IsName (front ++ rest) → o ≤ p
    → take (p - o) (drop o bytes) ≡ octets_of front → Stands bytes o p
stands_by bytes o p e front [] (at_root inside none here) read name le octets =
    let all : front ++ [] ≡ front = append-nil front in
    record {
      there = inside;
      after = le;
      zero_octet = λ z. ends_here bytes o p front e (rw all at read) (rw all at name) le inside none octets;
      pointer = λ high. absurd (omega (arith, none, high));
      label = λ some short. absurd (omega (arith, none, some));
    }
stands_by bytes o p e front (l ∷ ls) (at_label some short inside l-is rest) read name le octets =
    let on : p + 1 + get_or bytes p 0 ≡ p + (get_or bytes p 0 + 1) = omega arith in
    let same : (front ++ l ∷ []) ++ ls ≡ front ++ l ∷ ls = append_assoc front (l ∷ []) ls in
    record {
      there = omega (arith, inside);
      after = le;
      zero_octet = λ z. absurd (omega (arith, z, some));
      pointer = λ high. absurd (omega (arith, high, short));
      label = λ some' low. record {
        front = front ++ l ∷ [];
        rest = ls;
        e = e;
        read = rw same read;
        at = subst (λ (x : ℕ). NameAt bytes x o ls e) on rest;
        name = rw same name;
        after = omega (arith, le);
        octets = one_more bytes o p front l le inside l-is octets;
      };
    }
stands_by bytes o p e front rest (at_pointer {e' = e'} high inside back far here) read name le octets =
    record {
      there = omega (arith, inside);
      after = le;
      zero_octet = λ z. absurd (omega (arith, z, high));
      pointer = λ high'. rw read (λ stands. leads_on bytes o p front rest (labels_are bytes p o e rest (at_pointer {e' = e'} high inside back far here)) le (omega (arith, inside)) high octets stands);
      label = λ some low. absurd (omega (arith, high, low));
    }

pub goes_on : (bytes : List ℕ) (o p : ℕ) → GoesOn bytes o p → Stands bytes o p
goes_on bytes o p g = stands_by bytes o p g.e g.front g.rest g.at g.read g.name g.after g.octets

-- ---- the name's end

-- the octet before the last shows a name without a pointer
pub record Ends (bytes : List ℕ) (o e : ℕ) : Type 0 where
  pub some : o < e
  pub there : e ≤ length bytes
  pub plain : (o + 2 ≤ e → get_or bytes (e - 2) 0 < 192) → EndsPlain bytes o (take (e - o - 1) (drop o bytes))

ends_by : (bytes : List ℕ) (o p e : ℕ) (front rest : List (List ℕ)) → NameAt bytes p o rest e → name_at bytes o ≡ Ok (front ++ rest, e) → IsName (front ++ rest) → o ≤ p
    → take (p - o) (drop o bytes) ≡ octets_of front → Ends bytes o e
ends_by bytes o p e front [] (at_root inside none here) read name le octets =
    let all : front ++ [] ≡ front = append-nil front in
    let last : e - o - 1 ≡ p - o = omega (arith, here, le) in
    record {
      some = omega (arith, here, le);
      there = omega (arith, here, inside);
      plain = λ low. rw last (ends_here bytes o p front e (rw all at read) (rw all at name) le inside none octets);
    }
ends_by bytes o p e front (l ∷ ls) (at_label some short inside l-is rest) read name le octets =
    let on : p + 1 + get_or bytes p 0 ≡ p + (get_or bytes p 0 + 1) = omega arith in
    let same : (front ++ l ∷ []) ++ ls ≡ front ++ l ∷ ls = append_assoc front (l ∷ []) ls in
    ends_by bytes o (p + 1 + get_or bytes p 0) e (front ++ l ∷ []) ls rest (rw same read) (rw same name) (omega (arith, le)) (rw on (one_more bytes o p front l le inside l-is octets))
ends_by bytes o p e front rest (at_pointer {e' = e'} high inside back far here) read name le octets =
    let two : e - 2 ≡ p = omega (arith, here) in
    record {
      some = omega (arith, here, le);
      there = omega (arith, here, inside);
      plain = λ low. let octet = rw two at low (omega (arith, here, le)) in absurd (omega (arith, octet, high));
    }

pub name_ends : (bytes : List ℕ) (o e : ℕ) → end_read (name_at bytes o) ≡ Ok e → Ends bytes o e
name_ends bytes o e ends =
    let g = name_begins bytes o e ends in
    let own = ap end_read g.read in
    let same : g.e ≡ e = cc in
    subst (λ (x : ℕ). Ends bytes o x) same (ends_by bytes o o g.e g.front g.rest g.at g.read g.name g.after g.octets)

pub name_lies : (bytes : List ℕ) (o e : ℕ) → end_read (name_at bytes o) ≡ Ok e → (o < e) × (e ≤ length bytes)
name_lies bytes o e ends =
    let here = name_ends bytes o e ends in
    (here.some, here.there)

-- ---- the first question, borrowed

-- facts about the first name are facts about the borrowed question
pub first_borrowed : (bytes : List ℕ) (end kind class : ℕ) (borrowed : Option Question) → IsViewedTo bytes end → IfOk (first_question bytes) (λ q. kind ≡ q.kind) → IfOk (first_question bytes) (λ q. class ≡ q.class)
    → MatchOption borrowed (IfOk (name_at bytes 12) (λ n. IsUncompressed bytes 12 n.0 → ⊥)) (λ b. IfOk (name_at bytes 12) (λ n. (b ≡ record { name = n.0; kind = kind; class = class }) × IsUncompressed bytes 12 n.0))
    → MatchOption borrowed (IfOk (first_question bytes) (λ q. IsUncompressed bytes 12 q.name → ⊥)) (λ b. (first_question bytes ≡ Ok b) × IsUncompressed bytes 12 b.name)
first_borrowed bytes end kind class None view kind_is class_is given =
    let v = view.viewed in
    let name = rw v.is at (asked bytes end view).name in
    rw v.is (rw name at given)
first_borrowed bytes end kind class (Some b) view kind_is class_is given =
    let v = view.viewed in
    let name = rw v.is at (asked bytes end view).name in
    let kind_there : kind ≡ v.question.kind = rw v.is at kind_is in
    let class_there : class ≡ v.question.class = rw v.is at class_is in
    let here = rw name at given in
    let same : b ≡ v.question = here.0 ∙ (λ i. record { name = v.question.name; kind = kind_there i; class = class_there i }) in
    (v.is ∙ ap (λ (q : Question). Ok q) (sym same), subst (λ (q : Question). IsUncompressed bytes 12 q.name) (sym same) here.1)

-- the first name ends before type and class
pub first_name_ends : (bytes : List ℕ) (end : ℕ) → IsViewedTo bytes end → end_read (name_at bytes 12) ≡ Ok (end - 4)
first_name_ends bytes end view =
    let name = rw view.viewed.is at (asked bytes end view).name in
    rw name refl
