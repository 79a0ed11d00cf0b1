-- A property of all entries holds after promotions and offers.
use Rattle.std.proofs.Common.{◌≡◌, ℕ, zero, suc, List, [], ◌∷◌, take, filter, Bool, true, ◌∙◌, arith}
use Rattle.std.specs.Prelude.{not}
use Rattle.std.specs.List.{AllByRecursion}
use Rattle.std.proofs.lemmas.Bool.{cond_both}
use Rattle.trust_rank.specs.declared.slot.Slot.{Slot}
use Rattle.trust_rank.specs.Values.{Piece}
use Rattle.trust_rank.specs.Replacing.{is_name_error}
use Rattle.record_cache.specs.Values.{Held, Cache}
use Rattle.record_cache.specs.Entries.{of_slot, without, promoted}
use Rattle.record_cache.specs.Offers.{offered}
use Rattle.record_cache.specs.declared.cache.Offered.{Offered}
use Rattle.record_cache.specs.declared.cache.Offered.TheVariants.{Kept, Outranked, NotKept, Unkept}
use Rattle.step_table.specs.NegativeCache.Entries.{denies}
use Rattle.step_table.specs.NegativeCache.Showing.{shown}
use Rattle.answer_builder.specs.Answers.{IsEarlier}
use Rattle.step_table.specs.AliasChains.LookingUp.{promoted_all}
use Rattle.step_table.specs.AliasChains.Offering.{shown_by, ended_so, put, put_all, unkept_of, held_at}
use Rattle.step_table.proofs.CallerLemmas.{All-append, All-filter}

All-take : (P : Held → Type 0) (n : ℕ) (es : List Held) → AllByRecursion P es → AllByRecursion P (take n es)
All-take P zero es all = tt
All-take P (suc n) [] all = tt
All-take P (suc n) (e ∷ es) all = (all.0, All-take P n es all.1)

pub all_promoted : (P : Held → Type 0) (used : List Slot) (es : List Held) → AllByRecursion P es → AllByRecursion P (promoted_all used es)
all_promoted P [] es all = all
all_promoted P (slot ∷ used) es all =
    all_promoted P used (promoted slot es) (All-append P (filter (of_slot slot) es) (without slot es) (All-filter P (of_slot slot) es all) (All-filter P (λ e. not (of_slot slot e)) es all))

module _ (P : Held → Type 0) (capacity n : ℕ) where
  all_shown : (p : Piece) (es : List Held) → AllByRecursion P es → AllByRecursion P (shown_by p es)
  all_shown p es all = cond_both (is_name_error p) es (shown p.owner p.slot.class es) (AllByRecursion P) (λ _. all) (λ _. All-filter P (λ h. not (denies p.owner p.slot.class h)) es all)

  one_offered : (p : Piece) (o : Offered) (es : List Held) → P (held_at n p) → AllByRecursion P es → AllByRecursion P (offered o capacity n p es)
  one_offered p Kept es new all = All-take P capacity (held_at n p ∷ without p.slot es) (new, All-filter P (λ h. not (of_slot p.slot h)) es all)
  one_offered p Outranked es new all = all
  one_offered p NotKept es new all = All-filter P (λ h. not (of_slot p.slot h)) es all
  one_offered p Unkept es new all = all

  one_put : (room : Bool) (p : Piece) (es : List Held) → P (held_at n p) → AllByRecursion P es → AllByRecursion P (put capacity n room p es)
  one_put room p es new all = one_offered p (ended_so n room p es) (shown_by p es) new (all_shown p es all)

  pub all_offered : (rooms : List Bool) (ps : List Piece) (es : List Held) → AllByRecursion (λ p. P (held_at n p)) ps → AllByRecursion P es → AllByRecursion P (put_all capacity n rooms ps es)
  all_offered rooms [] es new all = all
  all_offered [] (p ∷ ps) es new all = all_offered [] ps (put capacity n true p es) new.1 (one_put true p es new.0 all)
  all_offered (room ∷ rooms) (p ∷ ps) es new all = all_offered rooms ps (put capacity n room p es) new.1 (one_put room p es new.0 all)

-- promotions, then offers
abbrev pub WasKept : ℕ → List Slot → List Piece → Cache → Cache → ℕ → Type 0
WasKept n used ps before after count =
    (rooms : List Bool) × (after ≡ record before { entries = put_all before.capacity n rooms ps (promoted_all used before.entries) }) × (count ≡ unkept_of before.capacity n rooms ps (promoted_all used before.entries))

pub kept_in_turn : (n : ℕ) (used : List Slot) (ps : List Piece) (before mid after : Cache) (count : ℕ) → mid ≡ record before { entries = promoted_all used before.entries }
    → ((rooms : List Bool) × (after ≡ record mid { entries = put_all mid.capacity n rooms ps mid.entries }) × (count ≡ unkept_of mid.capacity n rooms ps mid.entries)) → WasKept n used ps before after count
kept_in_turn n used ps before mid after count first second = (
  second.0,
  second.1 ∙ (λ i. record { capacity = (first i).capacity; entries = put_all (first i).capacity n second.0 ps (first i).entries }),
  second.2 ∙ (λ i. unkept_of (first i).capacity n second.0 ps (first i).entries),
)

-- pieces accepted now are accepted no later than now
pub all_now : (n : ℕ) (ps : List Piece) → AllByRecursion (λ p. IsEarlier n (held_at n p)) ps
all_now n [] = tt
all_now n (p ∷ ps) = (omega arith, all_now n ps)
