-- Look-ups from a finding at a name, and on the way along aliases.
use Rattle.std.proofs.Common.{◌≡◌, ℕ, zero, suc, ◌+◌, ◌-◌, ◌<◌, ◌≤◌, List, [], ◌∷◌, ◌++◌, append_assoc, length, length-append, Option, Some, None, refl, sym, ap, subst, ◌∙◌, arith}
use Rattle.std.specs.Prelude.{nat_le}
use Rattle.std.proofs.lemmas.List.{append-nil}
use Rattle.std.proofs.lemmas.Bool.{cond-true, cond-false, le-leb, lt-leb}
use Rattle.dns_message.specs.Values.{Question}
use Rattle.dns_message.specs.Questions.{asked_at}
use Rattle.trust_rank.specs.SuffixRoutes.Values.{Route}
use Rattle.trust_rank.specs.declared.slot.Slot.{Slot}
use Rattle.trust_rank.specs.Walks.{target_of, most_aliases}
use Rattle.negative_cache.specs.RecordCache.Values.{Held}
use Rattle.negative_cache.specs.Values.{Found, local, rows, alias, no_data, denied, miss}
use Rattle.negative_cache.specs.Finding.{found}
use Rattle.alias_chains.specs.LookingUp.{ends, too_long, missed, LookUp, ended, missing, look_up_on, one_too_many, through, look_up, too_many, goes_on}
use Rattle.alias_chains.specs.Looked.{chain_of, kind_of, before_last, last_of, looked_so, IsWhole, with_used, look_up_from}
use Rattle.alias_chains.specs.declared.looked.LookUpEnd.{LookUpEnd}
use Rattle.alias_chains.specs.declared.looked.LookUpEnd.TheVariants.{Ends, TooLong, Missed}

-- ---- chains

last_put : (held : List Held) (e f : Held) → last_of f (held ++ e ∷ []) ≡ e
last_put [] e f = refl
last_put (h ∷ held) e f = last_put held e h

before_put : (held : List Held) (e f : Held) → before_last f (held ++ e ∷ []) ≡ f ∷ held
before_put [] e f = refl
before_put (h ∷ held) e f = ap (λ (hs : List Held). f ∷ hs) (before_put held e h)

-- aliases and the piece after them
pub ended_so : (held : List Held) (e : Held) (q : Question) (used : List Slot)
    → looked_so Ends (held ++ e ∷ []) q used ≡ record { held = held; wanted = q; met = ends e; used = used }
ended_so [] e q used = refl
ended_so (f ∷ held) e q used = λ i. record {
  held = before_put held e f i;
  wanted = q;
  met = ends (last_put held e f i);
  used = used;
}

put_back : (e : Held) (chain : List Held) → before_last e chain ++ last_of e chain ∷ [] ≡ e ∷ chain
put_back e [] = refl
put_back e (f ∷ chain) = ap (λ (hs : List Held). e ∷ hs) (put_back f chain)

-- the chain of the look-up built from a chain
pub chain_back : (m : LookUpEnd) (chain : List Held) (q : Question) (used : List Slot) → IsWhole m chain
    → chain_of (looked_so m chain q used) ≡ chain
chain_back Ends [] q used whole = absurd (omega (arith, whole))
chain_back Ends (e ∷ chain) q used whole = put_back e chain
chain_back TooLong chain q used whole = refl
chain_back Missed chain q used whole = refl

-- and the kind of the end
pub kind_back : (m : LookUpEnd) (chain : List Held) (q : Question) (used : List Slot) → IsWhole m chain
    → kind_of (looked_so m chain q used).met ≡ m
kind_back Ends [] q used whole = absurd (omega (arith, whole))
kind_back Ends (e ∷ chain) q used whole = refl
kind_back TooLong chain q used whole = refl
kind_back Missed chain q used whole = refl

-- at most eight aliases, if nothing was found after them
pub few_back : (m : LookUpEnd) (chain : List Held) (q : Question) (used : List Slot) → IsWhole m chain
    → (looked_so m chain q used).met ≡ missed → length (looked_so m chain q used).held ≤ 8
few_back Ends [] q used whole is = absurd (omega (arith, whole))
few_back Ends (e ∷ chain) q used whole is = absurd (cc)
few_back TooLong chain q used whole is = absurd (cc)
few_back Missed chain q used whole is = whole

-- the question wanted then, and the slots used
pub wanted_back : (m : LookUpEnd) (chain : List Held) (q : Question) (used : List Slot) → (looked_so m chain q used).wanted ≡ q
wanted_back Ends [] q used = refl
wanted_back Ends (e ∷ chain) q used = refl
wanted_back TooLong chain q used = refl
wanted_back Missed chain q used = refl

pub used_back : (m : LookUpEnd) (chain : List Held) (q : Question) (used : List Slot) → (looked_so m chain q used).used ≡ used
used_back Ends [] q used = refl
used_back Ends (e ∷ chain) q used = refl
used_back TooLong chain q used = refl
used_back Missed chain q used = refl

module _ (routes : List Route) (n : ℕ) (entries : List Held) where
  -- ---- from a finding

  abbrev from : ℕ → List Held → Question → Found → LookUp
  from = look_up_from routes n entries

  from_found : (more : ℕ) (held : List Held) (q : Question)
      → look_up routes n entries more held q ≡ from more held q (found routes n entries q)
  unfolding look_up_from
  from_found zero held q = refl
  from_found (suc more) held q = refl

  -- a look-up with these aliases held may take the rest of eight
  pub goes_from : (held : List Held) (q : Question) (f : Found) → f ≡ found routes n entries q
      → length held ≤ most_aliases → goes_on routes n entries held q ≡ from (most_aliases - length held) held q f
  goes_from held q f is few =
      cond-true (nat_le (length held) most_aliases) _ _ (le-leb (length held) most_aliases few)
      ∙ from_found (most_aliases - length held) held q
      ∙ ap (from (most_aliases - length held) held q) (sym is)

  -- more than eight are held
  pub goes_too_long : (held : List Held) (q : Question) → most_aliases < length held
      → goes_on routes n entries held q ≡ too_many held q
  goes_too_long held q many = cond-false (nat_le (length held) most_aliases) _ _ (lt-leb (length held) most_aliases many)

  pub rows_from : (more : ℕ) (held : List Held) (q : Question) (e : Held) → from more held q (rows e) ≡ ended held q e
  unfolding look_up_from
  rows_from zero held q e = refl
  rows_from (suc more) held q e = refl

  pub no_data_from : (more : ℕ) (held : List Held) (q : Question) (e : Held)
      → from more held q (no_data e) ≡ ended held q e
  unfolding look_up_from
  no_data_from zero held q e = refl
  no_data_from (suc more) held q e = refl

  pub denied_from : (more : ℕ) (held : List Held) (q : Question) (e : Held)
      → from more held q (denied e) ≡ ended held q e
  unfolding look_up_from
  denied_from zero held q e = refl
  denied_from (suc more) held q e = refl

  pub miss_from : (more : ℕ) (held : List Held) (q : Question) → from more held q miss ≡ missing held q
  unfolding look_up_from
  miss_from zero held q = refl
  miss_from (suc more) held q = refl

  pub local_from : (more : ℕ) (held : List Held) (q : Question) → from more held q local ≡ missing held q
  unfolding look_up_from
  local_from zero held q = refl
  local_from (suc more) held q = refl

  -- ---- a look-up without a further alias

  -- a set or a denial is found at once
  pub hit_is : (held pieces : List Held) (q : Question) (f : Found) (e : Held) (slots : List Slot)
      → ((more : ℕ) → from more held q f ≡ ended held q e) → f ≡ found routes n entries q → length held ≤ most_aliases
      → pieces ≡ held ++ e ∷ [] → slots ≡ e.piece.slot ∷ [] → looked_so Ends pieces q slots ≡ goes_on routes n entries held q
  hit_is held pieces q f e slots ends_so is few pieces_are slots_are =
      (λ i. looked_so Ends (pieces_are i) q (slots_are i)) ∙ ended_so held e q (e.piece.slot ∷ [])
      ∙ sym (ends_so (most_aliases - length held)) ∙ sym (goes_from held q f is few)

  -- nothing is found
  pub miss_is : (held : List Held) (q : Question) (f : Found) (slots : List Slot) → ((more : ℕ) → from more held q f ≡ missing held q)
      → f ≡ found routes n entries q → length held ≤ most_aliases → slots ≡ []
      → looked_so Missed held q slots ≡ goes_on routes n entries held q
  miss_is held q f slots misses is few none =
      ap (looked_so Missed held q) none ∙ sym (misses (most_aliases - length held)) ∙ sym (goes_from held q f is few)

  -- ---- from an alias

  -- an alias without a target
  no_target_from : (more : ℕ) (held : List Held) (q : Question) (e : Held) → target_of e.piece.body ≡ None
      → from more held q (alias e) ≡ missing held q
  unfolding look_up_from
  no_target_from zero held q e none = ap (look_up_on held q (one_too_many held q) e) none
  no_target_from (suc more) held q e none =
      ap (look_up_on held q (λ f target. through f (look_up routes n entries more (held ++ f ∷ []) (asked_at q target))) e) none

  -- one alias too many
  ninth_from : (held : List Held) (q : Question) (e : Held) (target : List (List ℕ)) → target_of e.piece.body ≡ Some target
      → from 0 held q (alias e) ≡ one_too_many held q e target
  unfolding look_up_from
  ninth_from held q e target is = ap (look_up_on held q (one_too_many held q) e) is

  -- an alias with a target
  alias_from : (more : ℕ) (held : List Held) (q : Question) (e : Held) (target : List (List ℕ)) → target_of e.piece.body ≡ Some target
      → from (suc more) held q (alias e)
      ≡ through e (from more (held ++ e ∷ []) (asked_at q target) (found routes n entries (asked_at q target)))
  unfolding look_up_from
  alias_from more held q e target is =
      ap (look_up_on held q (λ f t. through f (look_up routes n entries more (held ++ f ∷ []) (asked_at q t))) e) is
      ∙ ap (through e) (from_found more (held ++ e ∷ []) (asked_at q target))

  -- ---- on the way

  -- with these aliases held and these slots used, the look-up from this finding on is the whole
  -- look-up
  pub record IsOnWay (held : List Held) (used : List Slot) (wanted : Question) (f : Found) (whole : LookUp) : Type 0 where
    pub few : length held ≤ most_aliases
    pub left : (more : ℕ) → length held + more ≡ most_aliases → with_used used (from more held wanted f) ≡ whole

  pub on_way : (held : List Held) (used : List Slot) (wanted : Question) (f : Found) → length held ≤ most_aliases
      → IsOnWay held used wanted f (with_used used (from (most_aliases - length held) held wanted f))
  on_way held used wanted f few = record {
    few = few;
    left = λ more e.
        let left : more ≡ most_aliases - length held = omega (arith, e, few) in
        ap (λ (m : ℕ). with_used used (from m held wanted f)) left;
  }

  module _ (held : List Held) (used : List Slot) (wanted : Question) (whole : LookUp) where
    -- an alias is taken
    module _ (e : Held) (target : List (List ℕ)) (held' : List Held) (used' : List Slot) (wanted' : Question)
        (way : IsOnWay held used wanted (alias e) whole) (leads : target_of e.piece.body ≡ Some target)
        (held_is : held' ≡ held ++ e ∷ []) (used_is : used' ≡ used ++ e.piece.slot ∷ [])
        (wanted_is : wanted' ≡ asked_at wanted target) where
      count : length held' ≡ length held + 1
      count = ap (λ (hs : List Held). length hs) held_is ∙ length-append held (e ∷ [])

      pub on_alias : (f : Found) → f ≡ found routes n entries wanted' → length held' ≤ most_aliases
          → IsOnWay held' used' wanted' f whole
      on_alias f is few = record {
        few = few;
        left = λ more sum.
            let longer = count in
            let there : f ≡ found routes n entries (asked_at wanted target) = is ∙ ap (found routes n entries) wanted_is in
            (λ i. with_used (used_is i) (from more (held_is i) (wanted_is i) (there i)))
            ∙ (λ i. let l : LookUp = from more (held ++ e ∷ []) (asked_at wanted target) (found routes n entries (asked_at wanted target)) in
            record l { used = append_assoc used (e.piece.slot ∷ []) l.used i })
            ∙ ap (with_used used) (sym (alias_from more held wanted e target leads))
            ∙ way.left (suc more) (omega (arith, sum, longer));
      }

      -- the alias is one too many
      pub at_ninth : most_aliases < length held' → looked_so TooLong held' wanted' used' ≡ whole
      at_ninth many =
          let longer = count in
          let few = way.few in
          (λ i. looked_so TooLong (held_is i) (wanted_is i) (used_is i))
          ∙ ap (with_used used) (sym (ninth_from held wanted e target leads))
          ∙ way.left 0 (omega (arith, longer, few, many))

    rest_is : (f : Found) (l : LookUp) → IsOnWay held used wanted f whole
        → ((more : ℕ) → from more held wanted f ≡ l) → with_used used l ≡ whole
    rest_is f l way is =
        sym (ap (with_used used) (is (most_aliases - length held)))
        ∙ way.left (most_aliases - length held) (let few = way.few in omega (arith, few))

    missed_so : with_used used (missing held wanted) ≡ whole → looked_so Missed held wanted used ≡ whole
    missed_so is = (λ i. record { held = held; wanted = wanted; met = missed; used = sym (append-nil used) i }) ∙ is

    -- nothing follows
    pub at_no_target : (e : Held) → IsOnWay held used wanted (alias e) whole → target_of e.piece.body ≡ None
        → looked_so Missed held wanted used ≡ whole
    at_no_target e way none = missed_so (rest_is (alias e) (missing held wanted) way (λ more. no_target_from more held wanted e none))

    pub at_miss : IsOnWay held used wanted miss whole → looked_so Missed held wanted used ≡ whole
    at_miss way = missed_so (rest_is miss (missing held wanted) way (λ more. miss_from more held wanted))

    pub at_local : IsOnWay held used wanted local whole → looked_so Missed held wanted used ≡ whole
    at_local way = missed_so (rest_is local (missing held wanted) way (λ more. local_from more held wanted))

    -- a set or a denial ends the look-up
    abbrev at_end : Held → LookUp
    at_end e = record { held = held; wanted = wanted; met = ends e; used = used ++ e.piece.slot ∷ [] }

    pub at_rows : (e : Held) → IsOnWay held used wanted (rows e) whole → at_end e ≡ whole
    at_rows e way = rest_is (rows e) (ended held wanted e) way (λ more. rows_from more held wanted e)

    pub at_no_data : (e : Held) → IsOnWay held used wanted (no_data e) whole → at_end e ≡ whole
    at_no_data e way = rest_is (no_data e) (ended held wanted e) way (λ more. no_data_from more held wanted e)

    pub at_denied : (e : Held) → IsOnWay held used wanted (denied e) whole → at_end e ≡ whole
    at_denied e way = rest_is (denied e) (ended held wanted e) way (λ more. denied_from more held wanted e)
