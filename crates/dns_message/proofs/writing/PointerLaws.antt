-- Names with their pointers, found one by one or by a map.
use Rattle.std.proofs.Common.{◌≡◌, ℕ, Bool, true, false, cond, List, [], ◌∷◌, ◌++◌, length, drop, get_or, ◌<◌, ◌≤◌, ◌+◌, Option, Some, None, refl, arith}
use Rattle.std.specs.Borrow.{Bor}
use Rattle.std.specs.Option.{option_or}
use Rattle.std.specs.Ordering.{nat_cmp}
use Rattle.std.specs.Cmp.Lexicographic.{slice_cmp}
use Rattle.std.specs.BTreeMap.{UpdatesBy, get_by}
use Rattle.std.specs.Str.{bytes_eq}
use Rattle.std.proofs.lemmas.List.{drop_more, drop_all}
use Rattle.std.proofs.lemmas.Bool.{le-leb}
use Rattle.std.proofs.lemmas.Map.Text.{btree_map_updates_str}
use Rattle.std.proofs.lemmas.Slice.Eq.{bytes_eq-Decides}
use Rattle.dns_message.specs.declared.writing.pointers.Pointers.{Pointers}
use Rattle.dns_message.specs.Writing.{pointer_to}
use Rattle.dns_message.specs.Writer.{KnownName, pointer_among, pointer_known, IsPutIn}

none_first : (a b : Option ℕ) → option_or a b ≡ None → a ≡ None
none_first None b none = refl
none_first (Some x) b none = absurd cc

or_nothing : (a b : Option ℕ) → option_or (option_or a None) b ≡ option_or a b
or_nothing None b = refl
or_nothing (Some x) b = refl

-- ---- one by one

pub none_among : (xs : List KnownName) (i : ℕ) (octets : List ℕ) → length xs ≤ i → pointer_among (drop i xs) octets ≡ None
unfolding pointer_among
none_among xs i octets le = rw (drop_all i xs le) refl

pub among_here : (xs : List KnownName) (i : ℕ) (d : KnownName) (octets : List ℕ) → i < length xs → bytes_eq (get_or xs i d).0.now octets ≡ true → pointer_among (drop i xs) octets ≡ Some (get_or xs i d).1
unfolding pointer_among
among_here xs i d octets lt same = rw (drop_more xs i d lt, same) refl

pub among_later : (xs : List KnownName) (i : ℕ) (d : KnownName) (octets : List ℕ) → i < length xs → bytes_eq (get_or xs i d).0.now octets ≡ false → pointer_among (drop i xs) octets ≡ pointer_among (drop (i + 1) xs) octets
unfolding pointer_among
among_later xs i d octets lt differs = rw (drop_more xs i d lt, differs) refl

among_more : (xs : List KnownName) (x : KnownName) (octets : List ℕ) → pointer_among (xs ++ x ∷ []) octets ≡ option_or (pointer_among xs octets) (cond (bytes_eq x.0.now octets) (Some x.1) None)
unfolding pointer_among
among_more [] x octets = refl
among_more (y ∷ ys) x octets = more_by (bytes_eq y.0.now octets) (among_more ys x octets)
  where
    more_by : (b : Bool) → pointer_among (ys ++ x ∷ []) octets ≡ option_or (pointer_among ys octets) (cond (bytes_eq x.0.now octets) (Some x.1) None) → cond b (Some y.1) (pointer_among (ys ++ x ∷ []) octets) ≡ option_or (cond b (Some y.1) (pointer_among ys octets)) (cond (bytes_eq x.0.now octets) (Some x.1) None)
    more_by true rest = refl
    more_by false rest = rest

pub nothing_in : {X : Type 0} (xs : List X) → length xs ≡ 0 → xs ≡ []
nothing_in [] none = refl
nothing_in (x ∷ xs) none = absurd (omega arith)

-- no name is known at the start
pub none_known : {A : Type 0} (ps : Pointers A) (octets : List ℕ) → ps.few.items ≡ [] → ps.many.entries ≡ [] → pointer_known ps octets ≡ None
unfolding pointer_among
none_known ps octets few many = rw (few, many) refl

-- ---- one more name

-- the names known before, and this name, are known
abbrev pub IsKnownNow : {A : Type 0} → Pointers A → Pointers A → List ℕ → ℕ → Type 0
IsKnownNow old new octets pointer = (other : List ℕ) → pointer_known new other ≡ cond (bytes_eq octets other) (Some pointer) (pointer_known old other)

pub put_near : {A : Type 0} (old new : Pointers A) (octets : List ℕ) (offset pointer : ℕ) → offset ≤ 16383 → pointer ≡ pointer_to offset → IsKnownNow old new octets pointer → IsPutIn old new octets offset
put_near old new octets offset pointer near is put other = rw (le-leb offset 16383 near, ← is) (put other)

abbrev in_map : {A : Type 0} → Pointers A → List ℕ → Option ℕ
in_map ps octets = get_by (λ k. slice_cmp nat_cmp octets k.now) ps.many

pub put_in_few : {A : Type 0} (old new : Pointers A) (name : Bor (List ℕ)) (pointer : ℕ) → new.few.items ≡ old.few.items ++ (name, pointer) ∷ [] → new.many ≡ old.many → pointer_known old name.now ≡ None
    → IsKnownNow old new name.now pointer
put_in_few old new name pointer grown same none other = rw (grown, same, among_more old.few.items (name, pointer) other) (put_by (bytes_eq name.now other) refl)
  where
    put_by : (b : Bool) → bytes_eq name.now other ≡ b
        → option_or (option_or (pointer_among old.few.items other) (cond b (Some pointer) None)) (in_map old other) ≡ cond b (Some pointer) (option_or (pointer_among old.few.items other) (in_map old other))
    put_by true is =
        let e : name.now ≡ other = (bytes_eq-Decides name.now other).0 is in
        let first : pointer_among old.few.items other ≡ None = rw (← e) (none_first _ _ none) in
        rw first refl
    put_by false is = or_nothing (pointer_among old.few.items other) (in_map old other)

pub put_in_many : {A : Type 0} (old new : Pointers A) (octets : List ℕ) (pointer : ℕ) → new.few ≡ old.few → pointer_known old octets ≡ None
    → UpdatesBy (λ x y. slice_cmp nat_cmp x.now y.now) (λ k. slice_cmp nat_cmp octets k.now) old.many new.many (Some pointer) → IsKnownNow old new octets pointer
put_in_many old new octets pointer same none updated other = rw (same, btree_map_updates_str octets old.many new.many (Some pointer) updated other) (put_by (bytes_eq octets other) refl)
  where
    put_by : (b : Bool) → bytes_eq octets other ≡ b
        → option_or (pointer_among old.few.items other) (cond b (Some pointer) (in_map old other)) ≡ cond b (Some pointer) (option_or (pointer_among old.few.items other) (in_map old other))
    put_by true is =
        let e : octets ≡ other = (bytes_eq-Decides octets other).0 is in
        let first : pointer_among old.few.items other ≡ None = rw (← e) (none_first _ _ none) in
        rw first refl
    put_by false is = refl
