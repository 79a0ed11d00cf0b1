-- Loops over the labels of a name, and their invariants.
use Rattle.std.proofs.Common.{◌≡◌, ℕ, List, [], ◌∷◌, ◌++◌, map, Result, Ok, Err, refl, sym, ap, append_assoc}
use Rattle.std.specs.Char.{to_ascii_lowercase}
use Rattle.dns_name.specs.Labels.{IsSame}
use Rattle.dns_message.specs.declared.names.fault.Fault.{Fault}
use Rattle.dns_message.specs.Reading.{end_read}
use Rattle.dns_message.specs.Names.{with_label, NameIs}
use Rattle.dns_message.specs.Runs.{with_front}

pub front_run : (front ls : List (List ℕ)) (r : Result (List (List ℕ) × ℕ) Fault) → with_front front (with_front ls r) ≡ with_front (front ++ ls) r
front_run front ls (Ok n) = ap (λ (all : List (List ℕ)). Ok (all, n.1)) (sym (append_assoc front ls n.0))
front_run front ls (Err fault) = refl

pub front_none : (r : Result (List (List ℕ) × ℕ) Fault) → with_front [] r ≡ r
front_none (Ok n) = refl
front_none (Err fault) = refl

pub behind_label : (l : List ℕ) (r : Result (List (List ℕ) × ℕ) Fault) → end_read (with_label l r) ≡ end_read r
behind_label l (Ok n) = refl
behind_label l (Err fault) = refl

-- ---- a name compared label by label

same_first : (l m : List ℕ) (ls ms : List (List ℕ)) → IsSame (l ∷ ls) (m ∷ ms) → (map to_ascii_lowercase l ≡ map to_ascii_lowercase m) × IsSame ls ms
same_first l m ls ms e = (cc, cc)

first_same : (l m : List ℕ) (ls ms : List (List ℕ)) → map to_ascii_lowercase l ≡ map to_ascii_lowercase m → IsSame ls ms → IsSame (l ∷ ls) (m ∷ ms)
first_same l m ls ms e f = cc

pub is_first : (l m : List ℕ) (ms : List (List ℕ)) (r : Result (List (List ℕ) × ℕ) Fault) → NameIs (with_label l r) (m ∷ ms) → (map to_ascii_lowercase l ≡ map to_ascii_lowercase m) × NameIs r ms
is_first l m ms (Ok n) is = same_first l m n.0 ms is
is_first l m ms (Err fault) is = absurd is

pub first_is : (l m : List ℕ) (ms : List (List ℕ)) (r : Result (List (List ℕ) × ℕ) Fault) → map to_ascii_lowercase l ≡ map to_ascii_lowercase m → NameIs r ms → NameIs (with_label l r) (m ∷ ms)
first_is l m ms (Ok n) e is = first_same l m n.0 ms e is
first_is l m ms (Err fault) e is = absurd is

pub is_none : (l : List ℕ) (r : Result (List (List ℕ) × ℕ) Fault) → NameIs (with_label l r) [] → ⊥
is_none l (Ok n) is = cc
is_none l (Err fault) is = is

pub end_is : (m : List ℕ) (ms : List (List ℕ)) (e : ℕ) → NameIs (Ok ([], e)) (m ∷ ms) → ⊥
end_is m ms e is = cc
