-- The chain of a look-up: the aliases given at its start, and entries of the cache.
use Rattle.std.proofs.Common.{◌≡◌, ℕ, zero, suc, ◌+◌, ◌-◌, ◌≤◌, List, [], ◌∷◌, ◌++◌, length, length-append, take, Option, Some, None, refl, ap, subst, inl, inr, arith}
use Rattle.std.specs.Prelude.{nat_le}
use Rattle.std.specs.List.{AllByRecursion}
use Rattle.std.proofs.lemmas.Bool.{cond_both}
use Rattle.dns_message.specs.Values.{Question}
use Rattle.dns_message.specs.Questions.{asked_at}
use Rattle.trust_rank.specs.SuffixRoutes.Values.{Route}
use Rattle.trust_rank.specs.Walks.{target_of, most_aliases}
use Rattle.negative_cache.specs.RecordCache.Values.{Held}
use Rattle.negative_cache.specs.RecordCache.Laws.{Among}
use Rattle.negative_cache.specs.Values.{Found, local, rows, alias, no_data, denied, miss}
use Rattle.negative_cache.specs.Finding.{found}
use Rattle.negative_cache.specs.Laws.{Fits}
use Rattle.negative_cache.proofs.CallerLemmas.{found_fits}
use Rattle.alias_chains.specs.LookingUp.{LookUpEnd, ends, too_long, missed, LookUp, look_up_on, look_up_after, one_too_many, through, look_up, too_many, goes_on}
use Rattle.alias_chains.specs.Looked.{chain_at, chain_of}

module _ (P : Held → Type 0) where
  abbrev All : List Held → Type 0
  All hs = AllByRecursion P hs

  all_put : (hs : List Held) (e : Held) → All hs → P e → All (hs ++ e ∷ [])
  all_put [] e all one = (one, tt)
  all_put (h ∷ hs) e all one = (all.0, all_put hs e all.1 one)

  all_before : (hs : List Held) (e : Held) → All (hs ++ e ∷ []) → All hs
  all_before [] e all = tt
  all_before (h ∷ hs) e all = (all.0, all_before hs e all.1)

  all_taken : (count : ℕ) (hs : List Held) → All hs → All (take count hs)
  all_taken zero hs all = tt
  all_taken (suc count) [] all = tt
  all_taken (suc count) (h ∷ hs) all = (all.0, all_taken count hs all.1)

  all_among : (h : Held) (hs : List Held) → All hs → Among h hs → P h
  all_among h [] all among = absurd among
  all_among h (e ∷ hs) all (inl here) = subst P here all.0
  all_among h (e ∷ hs) all (inr later) = all_among h hs all.1 later

  -- the aliases of a chain
  pub held_holds : (l : LookUp) → All (chain_of l) → All l.held
  held_holds l = by l.held l.met
    where
      by : (held : List Held) (m : LookUpEnd) → All (chain_at held m) → All held
      by held (ends e) all = all_before held e all
      by held too_long all = all
      by held missed all = all

  module _ (routes : List Route) (n : ℕ) (entries : List Held) (each : All entries) where
    -- P holds of the found entry, if any
    abbrev IfFound : Found → Type 0
    IfFound (rows h) = P h
    IfFound (alias h) = P h
    IfFound (no_data h) = P h
    IfFound (denied h) = P h
    IfFound local = Unit {0}
    IfFound miss = Unit {0}

    fits_hold : (q : Question) (f : Found) → Fits routes n entries q f → IfFound f
    fits_hold q (rows h) fits = all_among h entries each fits.0.living.among
    fits_hold q (alias h) fits = all_among h entries each fits.0.living.among
    fits_hold q (no_data h) fits = all_among h entries each fits.0.living.among
    fits_hold q (denied h) fits = all_among h entries each fits.living.among
    fits_hold q local fits = tt
    fits_hold q miss fits = tt

    found_holds : (q : Question) → IfFound (found routes n entries q)
    found_holds q = fits_hold q (found routes n entries q) (found_fits routes n entries q)

    followed_holds : (held : List Held) (q : Question) (onward : Held → List (List ℕ) → LookUp) → All held
        → ((h : Held) (target : List (List ℕ)) → P h → All (chain_of (onward h target)))
        → (f : Found) → IfFound f → All (chain_of (look_up_after held q onward f))
    followed_holds held q onward all go (rows h) is = all_put held h all is
    followed_holds held q onward all go (alias h) is = by (target_of h.piece.body)
      where
        by : (t : Option (List (List ℕ))) → All (chain_of (look_up_on held q onward h t))
        by None = all
        by (Some target) = go h target is
    followed_holds held q onward all go (no_data h) is = all_put held h all is
    followed_holds held q onward all go (denied h) is = all_put held h all is
    followed_holds held q onward all go local is = all
    followed_holds held q onward all go miss is = all

    more_holds : (more : ℕ) (held : List Held) (q : Question) → All held → All (chain_of (look_up routes n entries more held q))
    more_holds zero held q all =
        followed_holds held q (one_too_many held q) all (λ h target is. all_put held h all is) (found routes n entries q) (found_holds q)
    more_holds (suc more) held q all =
        followed_holds held q (λ h target. through h (look_up routes n entries more (held ++ h ∷ []) (asked_at q target))) all
        (λ h target is. more_holds more (held ++ h ∷ []) (asked_at q target) (all_put held h all is))
        (found routes n entries q) (found_holds q)

    -- a property of each entry and of each given alias is a property of each piece of the chain
    pub look_up_holds : (held : List Held) (q : Question) → All held → All (chain_of (goes_on routes n entries held q))
    look_up_holds held q all =
        cond_both (nat_le (length held) most_aliases) (look_up routes n entries (most_aliases - length held) held q) (too_many held q)
        (λ (l : LookUp). All (chain_of l))
        (λ _. more_holds (most_aliases - length held) held q all) (λ _. all_taken (suc most_aliases) held all)

-- ---- a look-up without an alias taken

-- the look-up holds at least as many aliases as given
abbrev KeepsHeld : List Held → LookUp → Type 0
KeepsHeld held l = length held ≤ length l.held

module _ (routes : List Route) (n : ℕ) (entries : List Held) where
  followed_keeps : (held : List Held) (q : Question) (onward : Held → List (List ℕ) → LookUp)
      → ((h : Held) (target : List (List ℕ)) → KeepsHeld held (onward h target))
      → (f : Found) → KeepsHeld held (look_up_after held q onward f)
  followed_keeps held q onward go (rows h) = omega arith
  followed_keeps held q onward go (alias h) = by (target_of h.piece.body)
    where
      by : (t : Option (List (List ℕ))) → KeepsHeld held (look_up_on held q onward h t)
      by None = omega arith
      by (Some target) = go h target
  followed_keeps held q onward go (no_data h) = omega arith
  followed_keeps held q onward go (denied h) = omega arith
  followed_keeps held q onward go local = omega arith
  followed_keeps held q onward go miss = omega arith

  longer : (held : List Held) (e : Held) → length (held ++ e ∷ []) ≡ length held + 1
  longer held e = length-append held (e ∷ [])

  keeps : (more : ℕ) (held : List Held) (q : Question) → KeepsHeld held (look_up routes n entries more held q)
  keeps zero held q = followed_keeps held q (one_too_many held q) (λ h target. let count = longer held h in omega (arith, count)) (found routes n entries q)
  keeps (suc more) held q =
      followed_keeps held q (λ h target. through h (look_up routes n entries more (held ++ h ∷ []) (asked_at q target)))
      (λ h target. let count = longer held h in let rest = keeps more (held ++ h ∷ []) (asked_at q target) in omega (arith, count, rest))
      (found routes n entries q)

  -- if no alias is held at the end, the question is still the first
  followed_own : (q : Question) (onward : Held → List (List ℕ) → LookUp)
      → ((h : Held) (target : List (List ℕ)) → 1 ≤ length (onward h target).held)
      → (f : Found) → (look_up_after [] q onward f).held ≡ [] → (look_up_after [] q onward f).wanted ≡ q
  followed_own q onward go (rows h) none = refl
  followed_own q onward go (alias h) none = by (target_of h.piece.body) none
    where
      by : (t : Option (List (List ℕ))) → (look_up_on [] q onward h t).held ≡ [] → (look_up_on [] q onward h t).wanted ≡ q
      by None is = refl
      by (Some target) is =
          let some = go h target in
          let count : length (onward h target).held ≡ 0 = ap (λ (hs : List Held). length hs) is in absurd (omega (arith, some, count))
  followed_own q onward go (no_data h) none = refl
  followed_own q onward go (denied h) none = refl
  followed_own q onward go local none = refl
  followed_own q onward go miss none = refl

  pub wants_own : (q : Question) → (goes_on routes n entries [] q).held ≡ [] → (goes_on routes n entries [] q).wanted ≡ q
  wants_own q none =
      followed_own q (λ h target. through h (look_up routes n entries 7 (h ∷ []) (asked_at q target)))
      (λ h target. keeps 7 (h ∷ []) (asked_at q target)) (found routes n entries q) none
