-- Slots: the definition's test and the code's test decide equality.
use Rattle.std.proofs.Common.{◌≡◌, ℕ, Bool, true, false, ◌&&◌, ◌==◌, nat_eq, List, Option, None, Some, refl, sym, ap, ◌∙◌}
use Rattle.std.specs.Bool.{Decides}
use Rattle.std.specs.Option.{option_eq}
use Rattle.std.specs.Cmp.{first_so, second_so}
use Rattle.std.specs.Cmp.Lexicographic.{pointwise, pointwise_decides, bytes_decides}
use Rattle.std.proofs.lemmas.Bool.Decides.{Decides-eqb, same_from_decides}
use Rattle.dns_name.specs.Key.{key_octets, key_len}
use Rattle.dns_name.proofs.CallerLemmas.{key_decides}
use Rattle.trust_rank.specs.declared.slot.Slot.{Slot}
use Rattle.trust_rank.specs.Replacing.{same_kind}
use Rattle.trust_rank.specs.contracts.slot.SlotPartialEq.TheImpl.{eq-value}
use Rattle.record_cache.specs.Entries.{is_slot}
use Rattle.record_cache.specs.Storing.{hashed}
use Rattle.record_cache.specs.declared.hashed.HashedSlot.{HashedSlot}
use Rattle.record_cache.specs.contracts.hashed.HashedSlotPartialEq.TheImpl.{eq-value as key_eq-value}

both : (s t : Bool) → s ≡ true → t ≡ true → (s && t) ≡ true
both true true h k = refl
both true false h k = k
both false t h k = h

-- ---- the definition's test

labels_decide : (a b : List (List ℕ)) → Decides (pointwise (pointwise nat_eq) a b) (a ≡ b)
labels_decide = pointwise_decides bytes_decides

kinds_decide : (a b : Option ℕ) → Decides (same_kind a b) (a ≡ b)
kinds_decide None None = (λ h. refl, λ h. refl)
kinds_decide None (Some b) = (λ h. cc, λ h. cc)
kinds_decide (Some a) None = (λ h. cc, λ h. cc)
kinds_decide (Some a) (Some b) = (λ h. ap Some ((Decides-eqb a b).0 h), λ h. let e : a ≡ b = cc in (Decides-eqb a b).1 e)

one_slot : (a b : Slot) → a.key ≡ b.key → a.class ≡ b.class → a.kind ≡ b.kind → a ≡ b
one_slot a b k c o = λ i. record { key = k i; class = c i; kind = o i }

pub is_slot_decides : (a b : Slot) → Decides (is_slot a b) (a ≡ b)
is_slot_decides a b =
    let labels = pointwise (pointwise nat_eq) a.key b.key in
    let class = a.class == b.class in
    let kind = same_kind a.kind b.kind in (
      λ h. one_slot a b
          ((labels_decide a.key b.key).0 (first_so labels class (first_so (labels && class) kind h)))
          ((Decides-eqb a.class b.class).0 (second_so labels class (first_so (labels && class) kind h)))
          ((kinds_decide a.kind b.kind).0 (second_so (labels && class) kind h)),
      λ e. both (labels && class) kind
          (both labels class ((labels_decide a.key b.key).1 (ap (λ s. s.key) e)) ((Decides-eqb a.class b.class).1 (ap (λ s. s.class) e)))
          ((kinds_decide a.kind b.kind).1 (ap (λ s. s.kind) e)),
    )

-- ---- the code's test

types_decide : (a b : Option ℕ) → Decides (option_eq nat_eq a b) (a ≡ b)
types_decide None None = (λ h. refl, λ h. refl)
types_decide None (Some b) = (λ h. cc, λ h. cc)
types_decide (Some a) None = (λ h. cc, λ h. cc)
types_decide (Some a) (Some b) = (λ h. ap Some ((Decides-eqb a b).0 h), λ h. let e : a ≡ b = cc in (Decides-eqb a b).1 e)

eq_decides : (a b : Slot) → Decides (eq-value.it a b) (a ≡ b)
eq_decides a b =
    let key = pointwise nat_eq (key_octets a.key) (key_octets b.key) && nat_eq (key_len a.key) (key_len b.key) in
    let class = nat_eq a.class b.class in
    let kind = option_eq nat_eq a.kind b.kind in (
      λ h. one_slot a b
          ((key_decides a.key b.key).0 (second_so kind key (second_so class (kind && key) h)))
          ((Decides-eqb a.class b.class).0 (first_so class (kind && key) h))
          ((types_decide a.kind b.kind).0 (first_so kind key (second_so class (kind && key) h))),
      λ e. both class (kind && key)
          ((Decides-eqb a.class b.class).1 (ap (λ s. s.class) e))
          (both kind key ((types_decide a.kind b.kind).1 (ap (λ s. s.kind) e)) ((key_decides a.key b.key).1 (ap (λ s. s.key) e))),
    )

-- ---- the test of the table's keys

one_key : (a b : HashedSlot) → a.hash ≡ b.hash → a.slot ≡ b.slot → a ≡ b
one_key a b h s = λ i. record { hash = h i; slot = s i }

table_key_decides : (a b : HashedSlot) → Decides (key_eq-value.it a b) (a ≡ b)
table_key_decides a b =
    let hash = nat_eq a.hash b.hash in
    let slot = eq-value.it a.slot b.slot in (
      λ h. one_key a b
          ((Decides-eqb a.hash b.hash).0 (first_so hash slot h))
          ((eq_decides a.slot b.slot).0 (second_so hash slot h)),
      λ e. both hash slot
          ((Decides-eqb a.hash b.hash).1 (ap (λ k. k.hash) e))
          ((eq_decides a.slot b.slot).1 (ap (λ k. k.slot) e)),
    )

slots_decide_keys : (hash : Slot → ℕ) (a b : Slot) → Decides (is_slot a b) (hashed hash a ≡ hashed hash b)
slots_decide_keys hash a b = (
  λ h. ap (hashed hash) ((is_slot_decides a b).0 h),
  λ e. (is_slot_decides a b).1 (ap (λ (k : HashedSlot). k.slot) e),
)

-- slots with their own hashes are equal keys exactly if the slots are equal
pub key_is : (hash : Slot → ℕ) (a b : Slot) → key_eq-value.it (hashed hash a) (hashed hash b) ≡ is_slot a b
key_is hash a b = same_from_decides (key_eq-value.it (hashed hash a) (hashed hash b)) (is_slot a b) (table_key_decides (hashed hash a) (hashed hash b)) (slots_decide_keys hash a b)

-- a key equal to a slot with its own hash has its own hash, too
pub own_hash : (hash : Slot → ℕ) (k : HashedSlot) (s : Slot) → key_eq-value.it k (hashed hash s) ≡ true → k ≡ hashed hash k.slot
own_hash hash k s same = let is : k ≡ hashed hash s = (table_key_decides k (hashed hash s)).0 same in is ∙ ap (hashed hash) (sym (ap (λ (t : HashedSlot). t.slot) is))
