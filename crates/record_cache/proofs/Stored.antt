-- The effect of each call of `lru` on entries under their slots.
use Rattle.std.proofs.Common.{◌≡◌, ℕ, zero, suc, ◌+◌, ◌-◌, ◌<◌, ◌≤◌, ◌^◌, Bool, true, false, cond, ◌&&◌, not, nat_lt, List, [], ◌∷◌, ◌++◌, length, take, get_or, Option, None, Some, option_map, IfSome, IsSome, is_some, MatchOption, Bor, refl, sym, ap, subst, ◌∙◌, arith, length-take}
use Rattle.std.specs.List.{slice_get, list_any}
use Rattle.std.specs.Option.{option_copied, option_map_or, option_to_list}
use Rattle.std.specs.Map.{values_of, lookup, lookup_entry, remove_entry}
use Rattle.std.proofs.lemmas.List.{take_all}
use Rattle.lru.specs.LruCache.{LruCache, lru_cache, put_entries, displaced}
use Rattle.lru.specs.LruCache.{promoted as used}
use Rattle.trust_rank.specs.declared.slot.Slot.{Slot}
use Rattle.trust_rank.specs.Formed.{IsPiece}
use Rattle.trust_rank.specs.Replacing.{is_name_error}
use Rattle.record_cache.specs.Values.{Held}
use Rattle.record_cache.specs.Entries.{name_error_size, name_error_ending, alias_ending, of_slot, entry_of, has_slot, without, promoted, AreApart, AreHeld}
use Rattle.record_cache.specs.Ageing.{is_alive}
use Rattle.record_cache.specs.Offers.{kept, outranks, is_outranked}
use Rattle.record_cache.specs.Storing.{hashed, keyed, number_in, marks_in, one_if, counted, AreCounted, HasOne, HasRoom, OneMore, AreOneMore, IsStored}
use Rattle.record_cache.specs.declared.counts.Marks.{Marks}
use Rattle.record_cache.specs.declared.counts.Tables.{Tables}
use Rattle.record_cache.specs.declared.hashed.HashedSlot.{HashedSlot}
use Rattle.record_cache.specs.contracts.hashed.HashedSlotPartialEq.TheImpl.{eq-value}
use Rattle.record_cache.proofs.Slots.{key_is, own_hash}
use Rattle.record_cache.proofs.Lists as lists
use Rattle.record_cache.proofs.Counting as counts

abbrev pub eq : HashedSlot → HashedSlot → Bool
eq = eq-value.it

-- ---- lists of entries under their slots

abbrev pair : (Slot → ℕ) → Held → HashedSlot × Held
pair hash h = (hashed hash h.piece.slot, h)

pub values_keyed : (hash : Slot → ℕ) (es : List Held) → values_of (keyed hash es) ≡ es
values_keyed hash [] = refl
values_keyed hash (h ∷ es) = ap (λ xs. h ∷ xs) (values_keyed hash es)

lookup_keyed : (hash : Slot → ℕ) (s : Slot) (es : List Held) → lookup (eq (hashed hash s)) (keyed hash es) ≡ entry_of s es
lookup_keyed hash s [] = refl
lookup_keyed hash s (h ∷ es) = λ i. cond (key_is hash s h.piece.slot i) (Some h) (lookup_keyed hash s es i)

pairs_in_step : (hash : Slot → ℕ) (b : Bool) (h : Held) (o : Option Held) → cond b (Some (pair hash h)) (option_map (pair hash) o) ≡ option_map (pair hash) (cond b (Some h) o)
pairs_in_step hash true h o = refl
pairs_in_step hash false h o = refl

pair_keyed : (hash : Slot → ℕ) (s : Slot) (es : List Held) → lookup_entry (eq (hashed hash s)) (keyed hash es) ≡ option_map (pair hash) (entry_of s es)
pair_keyed hash s [] = refl
pair_keyed hash s (h ∷ es) = (λ i. cond (key_is hash s h.piece.slot i) (Some (pair hash h)) (pair_keyed hash s es i)) ∙ pairs_in_step hash (of_slot s h) h (entry_of s es)

remove_keyed : (hash : Slot → ℕ) (s : Slot) (es : List Held) → AreApart es → remove_entry (eq (hashed hash s)) (keyed hash es) ≡ keyed hash (without s es)
remove_keyed hash s [] apart = refl
remove_keyed hash s (h ∷ es) apart = (λ i. cond (key_is hash s h.piece.slot i) (keyed hash es) (pair hash h ∷ remove_keyed hash s es apart.1 i)) ∙
    ((elim (of_slot s h) as (λ b. of_slot s h ≡ b → cond b (keyed hash es) (pair hash h ∷ keyed hash (without s es)) ≡ keyed hash (cond (not b) (h ∷ without s es) (without s es))) [
      | true ↦ λ is. ap (keyed hash) (sym (lists.without_none s es (lists.none_behind s h es apart is)))
      | false ↦ λ is. refl
    ]) refl)

promoted_keyed : (hash : Slot → ℕ) (s : Slot) (es : List Held) → AreApart es → used (eq (hashed hash s)) (keyed hash es) ≡ keyed hash (promoted s es)
promoted_keyed hash s es apart = rw (pair_keyed hash s es, remove_keyed hash s es apart, lists.promoted_is s es apart)
    ((elim (entry_of s es) as (λ o. entry_of s es ≡ o → option_map_or (λ e. e ∷ keyed hash (without s es)) (option_map (pair hash) o) (keyed hash es) ≡ keyed hash (option_to_list o ++ without s es)) [
      | None ↦ λ is. ap (keyed hash) (sym (lists.without_absent s es is))
      | Some h ↦ λ is. refl
    ]) refl)

get_keyed : (hash : Slot → ℕ) (n : ℕ) (es : List Held) → option_map (λ e. e.1) (slice_get (keyed hash es) n) ≡ slice_get es n
get_keyed hash n [] = refl
get_keyed hash zero (h ∷ es) = refl
get_keyed hash (suc n) (h ∷ es) = get_keyed hash n es

take_keyed : (hash : Slot → ℕ) (n : ℕ) (es : List Held) → take n (keyed hash es) ≡ keyed hash (take n es)
take_keyed hash zero es = refl
take_keyed hash (suc n) [] = refl
take_keyed hash (suc n) (h ∷ es) = ap (λ xs. pair hash h ∷ xs) (take_keyed hash n es)

-- ---- the front entry, and the entries left after it

take_front : (n : ℕ) (h : Held) (es : List Held) → 0 < n → take n (h ∷ es) ≡ h ∷ take (n - 1) es
take_front zero h es some = absurd (omega arith)
take_front (suc n) h es some = let e : suc n - 1 ≡ n = omega arith in rw e refl

abbrev pub rest : ℕ → Held → List Held → List Held
rest capacity h es = take (capacity - 1) (without h.piece.slot es)

pub kept_is : (n : ℕ) (h : Held) (es : List Held) → 0 < n → kept n h es ≡ h ∷ rest n h es
kept_is n h es some = take_front n h (without h.piece.slot es) some

abbrev NoMore : ℕ → List Held → Type 0
NoMore n es = length es ≤ n

pub room_left : (n : ℕ) (h old : Held) (es : List Held) → NoMore n es → entry_of h.piece.slot es ≡ Some old → rest n h es ≡ without h.piece.slot es
room_left n h old es few found = take_all (n - 1) (without h.piece.slot es) (omega (arith, few, lists.length_without h.piece.slot es old found))

put_keyed : (hash : Slot → ℕ) (n : ℕ) (h : Held) (es : List Held) → AreApart es → NoMore n es → put_entries eq (lru_cache (keyed hash es) n) (hashed hash h.piece.slot) h ≡ keyed hash (h ∷ rest n h es)
put_keyed hash n h es apart few = rw (pair_keyed hash h.piece.slot es, remove_keyed hash h.piece.slot es apart)
    ((elim (entry_of h.piece.slot es) as (λ o. entry_of h.piece.slot es ≡ o → option_map_or (λ e. (e.0, h) ∷ keyed hash (without h.piece.slot es)) (option_map (pair hash) o) ((hashed hash h.piece.slot, h) ∷ take (n - 1) (keyed hash es)) ≡ keyed hash (h ∷ rest n h es)) [
      | None ↦ λ is. ap (λ xs. pair hash h ∷ xs) (take_keyed hash (n - 1) es ∙ ap (λ xs. keyed hash (take (n - 1) xs)) (sym (lists.without_absent h.piece.slot es is)))
      | Some old ↦ λ is. let same : h.piece.slot ≡ old.piece.slot = lists.slot_is h.piece.slot old (lists.entry_is_of h.piece.slot es old is) in
          λ i. (hashed hash (sym same i), h) ∷ keyed hash (sym (room_left n h old es few is) i)
    ]) refl)

-- the entry displaced by another, if any
abbrev pub old_one : (hash : Slot → ℕ) → LruCache HashedSlot Held → Held → Option Held
old_one hash m h = option_map (λ e. e.1) (displaced eq m (hashed hash h.piece.slot) h)

-- from the code's result to the found entry
pub as_found : {X : Type 0} (r : Option (Bor X)) (o : Option X) → option_copied r ≡ o → MatchOption r (o ≡ None) (λ x. o ≡ Some x.now)
as_found None o same = sym same
as_found (Some x) o same = sym same

-- from the code's values to a key, and to a slot's numbers
pub key_of : (hash : Slot → ℕ) (k : HashedSlot) (s t : Slot) → k ≡ hashed hash s → s ≡ t → k ≡ hashed hash t
key_of hash k s t is same = is ∙ ap (hashed hash) same

pub old_marks : (hash : Slot → ℕ) (m : LruCache HashedSlot Held) (h : Held) (k : HashedSlot) (out : Option (HashedSlot × Held)) (held : Option Held) (marks : Marks)
    → k ≡ hashed hash h.piece.slot → out ≡ displaced eq m k h → held ≡ option_map (λ e. e.1) out → marks ≡ marks_in held → marks ≡ marks_in (old_one hash m h)
old_marks hash m h k out held marks key is value one_if = one_if ∙ ap marks_in (value ∙ ap (option_map (λ e. e.1)) (is ∙ ap (λ t. displaced eq m t h) key))

pub put_at : (hash : Slot → ℕ) (m new : LruCache HashedSlot Held) (h : Held) (k : HashedSlot) → k ≡ hashed hash h.piece.slot → new ≡ lru_cache (put_entries eq m k h) m.cap → new ≡ lru_cache (put_entries eq m (hashed hash h.piece.slot) h) m.cap
put_at hash m new h k key is = is ∙ ap (λ t. lru_cache (put_entries eq m t h) m.cap) key

-- the count is of the displaced entry and of the entries left
displaced_counts : (hash : Slot → ℕ) (f : Slot → Option ℕ) (d n : ℕ) (h : Held) (es : List Held) → AreApart es → NoMore n es → 0 < n
    → counted f d es ≡ one_if d (number_in f (option_map (λ e. e.1) (displaced eq (lru_cache (keyed hash es) n) (hashed hash h.piece.slot) h))) + counted f d (rest n h es)
displaced_counts hash f d n h es apart few some = rw (lookup_keyed hash h.piece.slot es)
    ((elim (entry_of h.piece.slot es) as (λ o. entry_of h.piece.slot es ≡ o → counted f d es ≡ one_if d (number_in f (option_map (λ e. e.1) (option_map_or (λ old. Some (hashed hash h.piece.slot, old)) o (slice_get (keyed hash es) (n - 1))))) + counted f d (rest n h es)) [
      | None ↦ λ is. rw (get_keyed hash (n - 1) es, lists.without_absent h.piece.slot es is) (counts.counted_take f d (n - 1) es (omega (arith, few, some)))
      | Some old ↦ λ is. rw (room_left n h old es few is) (subst (λ o. counted f d es ≡ one_if d (number_in f o) + counted f d (without h.piece.slot es)) is (counts.counted_without f d h.piece.slot es apart))
    ]) refl)

-- ---- the stored entries

stored : (hash : Slot → ℕ) (n : ℕ) (es : List Held) (tables : Tables) → n < 2 ^ 64 → AreHeld (record { capacity = n; entries = es })
    → AreCounted name_error_size tables.sizes.counts es → AreCounted name_error_ending tables.endings.counts es → AreCounted alias_ending tables.aliases.counts es
    → IsStored hash (lru_cache (keyed hash es) n) tables
stored hash n es tables fits held sizes endings aliases = record {
  keyed = rw (values_keyed hash es) refl;
  fits = fits;
  held = rw (values_keyed hash es) held;
  sizes = rw (values_keyed hash es) sizes;
  endings = rw (values_keyed hash es) endings;
  aliases = rw (values_keyed hash es) aliases;
}

module _ {hash : Slot → ℕ} (m : LruCache HashedSlot Held) (tables : Tables) (is : IsStored hash m tables) where
  abbrev es : List Held
  es = values_of m.entries

  -- a look-up finds the slot's entry
  pub found : (s : Slot) → lookup (eq (hashed hash s)) m.entries ≡ entry_of s es
  found s = ap (lookup (eq (hashed hash s))) is.keyed ∙ lookup_keyed hash s es

  -- if a look-up finds no entry, there is none
  pub absent : (s : Slot) → (IsSome (lookup (eq (hashed hash s)) m.entries) → false ≡ true) → has_slot s es ≡ false
  absent s refused = (elim (entry_of s es) as (λ o. entry_of s es ≡ o → (IsSome o → false ≡ true) → has_slot s es ≡ false) [
    | None ↦ λ is none. lists.has_none s es (lists.entry_none s es is)
    | Some h ↦ λ is none. let wrong : false ≡ true = none refl in cc
  ]) refl (λ some. refused (subst IsSome (sym (found s)) some))

  -- only the slot's entry can outrank a set or NODATA
  pub outranked : (h : Held) (o : Option Held) → o ≡ lookup (eq (hashed hash h.piece.slot)) m.entries → is_name_error h.piece ≡ false
      → option_map_or (λ x. is_alive h.accepted x && nat_lt h.piece.rank x.piece.rank) o false ≡ is_outranked h.accepted h.piece es
  outranked h o same typed =
      ap (λ x. option_map_or (λ y. is_alive h.accepted y && nat_lt h.piece.rank y.piece.rank) x false) (same ∙ found h.piece.slot)
      ∙ sym (lists.any_is_entry h.piece.slot (λ y. is_alive h.accepted y && nat_lt h.piece.rank y.piece.rank) es is.held.apart)
      ∙ (λ i. not (sym typed i) && list_any (outranks h.accepted h.piece) es)

  -- ---- an entry is removed

  taken : (s : Slot) → remove_entry (eq (hashed hash s)) m.entries ≡ keyed hash (without s es)
  taken s = ap (remove_entry (eq (hashed hash s))) is.keyed ∙ remove_keyed hash s es is.held.apart

  pub taken_list : (s : Slot) → values_of (remove_entry (eq (hashed hash s)) m.entries) ≡ without s es
  taken_list s = ap values_of (taken s) ∙ values_keyed hash (without s es)

  -- the entry's number can be counted out, and the entries left are counted
  module _ (f : Slot → Option ℕ) (numbers : List ℕ) (counts_are : AreCounted f numbers es) (s : Slot) where
    pub taken_told : (n : ℕ) → one_if n (number_in f (lookup (eq (hashed hash s)) m.entries)) ≤ get_or numbers n 0
    taken_told n = omega (arith, counts_are n, counts.counted_without f n s es is.held.apart, ap (λ o. one_if n (number_in f o)) (found s))

    taken_counted : (left : List ℕ) → OneMore numbers (number_in f (lookup (eq (hashed hash s)) m.entries)) left → AreCounted f left (without s es)
    taken_counted left less = λ n. omega (arith, counts_are n, less n, counts.counted_without f n s es is.held.apart, ap (λ o. one_if n (number_in f o)) (found s))

  pub taken_stored : (s : Slot) (left : Tables) → AreOneMore tables (marks_in (lookup (eq (hashed hash s)) m.entries)) left → IsStored hash (lru_cache (remove_entry (eq (hashed hash s)) m.entries) m.cap) left
  taken_stored s left less = rw (taken s)
      (stored hash m.cap (without s es) left is.fits (lists.held_without m.cap s es is.held)
      (taken_counted name_error_size tables.sizes.counts is.sizes s left.sizes.counts less.sizes)
      (taken_counted name_error_ending tables.endings.counts is.endings s left.endings.counts less.endings)
      (taken_counted alias_ending tables.aliases.counts is.aliases s left.aliases.counts less.aliases))

  -- ---- an entry is promoted

  used_is : (s : Slot) → used (eq (hashed hash s)) m.entries ≡ keyed hash (promoted s es)
  used_is s = ap (used (eq (hashed hash s))) is.keyed ∙ promoted_keyed hash s es is.held.apart

  pub used_list : (s : Slot) → values_of (used (eq (hashed hash s)) m.entries) ≡ promoted s es
  used_list s = ap values_of (used_is s) ∙ values_keyed hash (promoted s es)

  used_counted : (f : Slot → Option ℕ) (numbers : List ℕ) (s : Slot) → AreCounted f numbers es → AreCounted f numbers (promoted s es)
  used_counted f numbers s counts_are = λ n. counts_are n ∙ sym (counts.counted_promoted f n s es is.held.apart)

  pub used_stored : (s : Slot) → IsStored hash (lru_cache (used (eq (hashed hash s)) m.entries) m.cap) tables
  used_stored s = rw (used_is s)
      (stored hash m.cap (promoted s es) tables is.fits (lists.held_promoted m.cap s es is.held)
      (used_counted name_error_size tables.sizes.counts s is.sizes)
      (used_counted name_error_ending tables.endings.counts s is.endings)
      (used_counted alias_ending tables.aliases.counts s is.aliases))

  -- a key with a found entry carries the slot's hash
  carries : (k : HashedSlot) (ns : List Held) → IsSome (lookup (eq k) (keyed hash ns)) → k ≡ hashed hash k.slot
  carries k [] some = let wrong : false ≡ true = some in cc
  carries k (h ∷ ns) some = (elim (eq k (hashed hash h.piece.slot)) as (λ b. eq k (hashed hash h.piece.slot) ≡ b → IsSome (cond b (Some h) (lookup (eq k) (keyed hash ns))) → k ≡ hashed hash k.slot) [
    | true ↦ λ same found. own_hash hash k h.piece.slot same
    | false ↦ λ same found. carries k ns found
  ]) refl some

  nothing_found : (k : HashedSlot) (xs : List (HashedSlot × Held)) → is_some (lookup (eq k) xs) ≡ false → lookup_entry (eq k) xs ≡ None
  nothing_found k [] none = refl
  nothing_found k (x ∷ xs) none = (elim (eq k x.0) as (λ b. is_some (cond b (Some x.1) (lookup (eq k) xs)) ≡ false → cond b (Some x) (lookup_entry (eq k) xs) ≡ None) [
    | true ↦ λ no. absurd (cc)
    | false ↦ λ no. nothing_found k xs no
  ]) none

  -- after a promotion by a key without an entry, a promotion by the slot's own key alone counts
  pub used_again : (k : HashedSlot) (s : Slot) (mid new : LruCache HashedSlot Held) → is_some (lookup (eq k) m.entries) ≡ false → mid ≡ lru_cache (used (eq k) m.entries) m.cap
      → new ≡ lru_cache (used (eq (hashed hash s)) mid.entries) mid.cap → new ≡ lru_cache (used (eq (hashed hash s)) m.entries) m.cap
  used_again k s mid new none first second =
      let same : mid ≡ m = first ∙ ap (λ o. lru_cache (option_map_or (λ e. e ∷ remove_entry (eq k) m.entries) o m.entries) m.cap) (nothing_found k m.entries none) in
      second ∙ ap (λ (c : LruCache HashedSlot Held). lru_cache (used (eq (hashed hash s)) c.entries) c.cap) same

  -- an entry found by a key is the key's slot's
  pub used_by_key : (k : HashedSlot) → IsSome (lookup (eq k) m.entries) → used (eq k) m.entries ≡ used (eq (hashed hash k.slot)) m.entries
  used_by_key k some = ap (λ t. used (eq t) m.entries) (carries k es (subst (λ xs. IsSome (lookup (eq k) xs)) is.keyed some))

  -- ---- an entry is put first

  module _ (h : Held) where
    put_is : put_entries eq m (hashed hash h.piece.slot) h ≡ keyed hash (kept m.cap h es)
    put_is = ap (λ xs. put_entries eq (lru_cache xs m.cap) (hashed hash h.piece.slot) h) is.keyed ∙ put_keyed hash m.cap h es is.held.apart is.held.few ∙ ap (keyed hash) (sym (kept_is m.cap h es is.held.some))

    pub put_list : values_of (put_entries eq m (hashed hash h.piece.slot) h) ≡ kept m.cap h es
    put_list = ap values_of put_is ∙ values_keyed hash (kept m.cap h es)

    module _ (f : Slot → Option ℕ) (numbers : List ℕ) (counts_are : AreCounted f numbers es) where
      displaced_is : (n : ℕ) → counted f n es ≡ one_if n (number_in f (old_one hash m h)) + counted f n (rest m.cap h es)
      displaced_is n = subst (λ xs. counted f n es ≡ one_if n (number_in f (option_map (λ e. e.1) (displaced eq (lru_cache xs m.cap) (hashed hash h.piece.slot) h))) + counted f n (rest m.cap h es)) (sym is.keyed)
          (displaced_counts hash f n m.cap h es is.held.apart is.held.few is.held.some)

      pub put_told : (n : ℕ) → one_if n (number_in f (old_one hash m h)) ≤ get_or numbers n 0
      put_told n = omega (arith, counts_are n, displaced_is n)

      left_is : (left : List ℕ) → OneMore numbers (number_in f (old_one hash m h)) left → AreCounted f left (rest m.cap h es)
      left_is left less = λ n. omega (arith, counts_are n, displaced_is n, less n)

      -- another entry fits the count
      pub put_fits : (left : List ℕ) → OneMore numbers (number_in f (old_one hash m h)) left → (n : ℕ) → get_or left n 0 + 1 < 2 ^ 64
      put_fits left less n = omega (arith, left_is left less n, counts.counted_few f n (rest m.cap h es), length-take (m.cap - 1) (without h.piece.slot es), is.held.some, is.fits)

      put_counted : (left more : List ℕ) → OneMore numbers (number_in f (old_one hash m h)) left → OneMore more (f h.piece.slot) left → AreCounted f more (kept m.cap h es)
      put_counted left more less new = λ n. rw (kept_is m.cap h es is.held.some) (omega (arith, new n, left_is left less n))

    pub put_stored : IsPiece h.piece → (left more : Tables) → AreOneMore tables (marks_in (old_one hash m h)) left → AreOneMore more (marks_in (Some h)) left
        → IsStored hash (lru_cache (put_entries eq m (hashed hash h.piece.slot) h) m.cap) more
    put_stored piece left more less new = rw put_is
        (stored hash m.cap (kept m.cap h es) more is.fits (lists.held_kept m.cap h es piece is.held)
        (put_counted name_error_size tables.sizes.counts is.sizes left.sizes.counts more.sizes.counts less.sizes new.sizes)
        (put_counted name_error_ending tables.endings.counts is.endings left.endings.counts more.endings.counts less.endings new.endings)
        (put_counted alias_ending tables.aliases.counts is.aliases left.aliases.counts more.aliases.counts less.aliases new.aliases))

-- a counted number can be counted out
pub counted_out : (numbers : List ℕ) (o : Option ℕ) → IfSome o (λ n. n < 256) → ((n : ℕ) → one_if n o ≤ get_or numbers n 0) → HasOne numbers o
counted_out numbers None few h = tt
counted_out numbers (Some n) few h = (few, omega (arith, h n, counts.told_own n))

-- a number with room can be counted in
pub counted_in : (numbers : List ℕ) (o : Option ℕ) → IfSome o (λ n. n < 256) → ((n : ℕ) → get_or numbers n 0 + 1 < 2 ^ 64) → HasRoom numbers o
counted_in numbers None few h = tt
counted_in numbers (Some n) few h = (few, h n)
