-- A readable name ends with its own octets, wherever the pointers lead.
use Rattle.std.proofs.Common.{◌≡◌, ℕ, ◌+◌, ◌<◌, ◌≤◌, List, [], ◌∷◌, length, get_or, Result, Ok, Err, refl, ap, subst, ◌∙◌, arith}
use Rattle.std.specs.Prelude.{IsOk}
use Rattle.dns_message.specs.declared.names.fault.Fault.{Fault}
use Rattle.dns_message.specs.Reading.{end_read}
use Rattle.dns_message.specs.Names.{NameAt, at_root, at_label, at_pointer, name_at}
use Rattle.dns_message.proofs.names.NameLaws.{name_sound}

-- the name at f is readable, and o is the place of its own label, zero octet or first pointer
pub record GoesOn (bytes : List ℕ) (f o : ℕ) : Type 0 where
  pub labels : List (List ℕ)
  pub e : ℕ
  pub at : NameAt bytes o f labels e
  pub ends : end_read (name_at bytes f) ≡ Ok e

begins_by : (bytes : List ℕ) (f : ℕ) (r : Result (List (List ℕ) × ℕ) Fault) → name_at bytes f ≡ r → IsOk r → GoesOn bytes f f
begins_by bytes f (Ok n) is ok = record { labels = n.0; e = n.1; at = (name_sound bytes f n.0 n.1 is).0; ends = ap end_read is }
begins_by bytes f (Err fault) is ok = absurd cc

pub name_begins : (bytes : List ℕ) (f : ℕ) → IsOk (name_at bytes f) → GoesOn bytes f f
name_begins bytes f ok = begins_by bytes f (name_at bytes f) refl ok

-- the octet at a place of a name's own octets, and the name's end by this octet
pub record Stands (bytes : List ℕ) (f o : ℕ) : Type 0 where
  pub there : o < length bytes
  pub zero_octet : get_or bytes o 0 ≡ 0 → end_read (name_at bytes f) ≡ Ok (o + 1)
  pub pointer : 192 ≤ get_or bytes o 0 → end_read (name_at bytes f) ≡ Ok (o + 2)
  pub label : 0 < get_or bytes o 0 → get_or bytes o 0 < 192 → GoesOn bytes f (o + (get_or bytes o 0 + 1))

stands_by : (bytes : List ℕ) (f o e : ℕ) (ls : List (List ℕ)) → NameAt bytes o f ls e → end_read (name_at bytes f) ≡ Ok e → Stands bytes f o
stands_by bytes f o e [] (at_root inside none here) ends =
    record {
      there = inside;
      zero_octet = λ z. ends ∙ ap (λ (x : ℕ). Ok x) here;
      pointer = λ high. absurd (omega (arith, none, high));
      label = λ some short. absurd (omega (arith, none, some));
    }
stands_by bytes f o e (l ∷ ls) (at_label some short inside l-is rest) ends =
    let on : o + 1 + get_or bytes o 0 ≡ o + (get_or bytes o 0 + 1) = omega arith in
    let P : ℕ → Type 0 = λ x. NameAt bytes x f ls e in
    record {
      there = omega (arith, inside);
      zero_octet = λ z. absurd (omega (arith, z, some));
      pointer = λ high. absurd (omega (arith, high, short));
      label = λ some' low. record { labels = ls; e = e; at = subst P on rest; ends = ends };
    }
stands_by bytes f o e ls (at_pointer high inside back rest here) ends =
    record {
      there = omega (arith, inside);
      zero_octet = λ z. absurd (omega (arith, z, high));
      pointer = λ high'. ends ∙ ap (λ (x : ℕ). Ok x) here;
      label = λ some low. absurd (omega (arith, high, low));
    }

pub goes_on : (bytes : List ℕ) (f o : ℕ) → GoesOn bytes f o → Stands bytes f o
goes_on bytes f o g = stands_by bytes f o g.e g.labels g.at g.ends
