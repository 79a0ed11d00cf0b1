-- The law of sweeps, for states changed by sweeps of tries: a number staying listed is found in a
-- sweep.
use Rattle.std.proofs.Common.{◌≡◌, refl, sym, subst, ℕ, zero, suc, ◌+◌, ◌*◌, ◌<◌, ◌≤◌, ◌%◌, ◌⊎◌}
use Rattle.std.proofs.Common.{inl, inr}
use Rattle.std.proofs.Common.{List, length, Bool, true, false, is_some, Option, Some, None, arith}
use Rattle.std.proofs.lemmas.Bool.{cases_order}
use Rattle.std.specs.Map.{keys_of}
use Rattle.socket_wire.specs.InTurn.{StaysListed}
use Rattle.stream_connections.specs.Listed.{first_number}
use Rattle.socket_wire.specs.Trying.{TriesUpTo, next_from}
use Rattle.socket_wire.proofs.Firsts.{IsFound, first_number_is_found}
use Rattle.socket_wire.proofs.InTurn.{Fits, begins_anew, differ, goes_on}
use Rattle.socket_wire.proofs.Passing.{GoesOn, ahead, ahead_most, ahead_some, no_wrap, wraps}
use Rattle.socket_wire.proofs.Passing.{wraps_most, wraps_some}

-- `done` tries, each with a find, lead from a state to a state.
unfoldable pub TriesTo : {S : Type 0} → (Tries : Bool → S → S → Type 0) → (done : ℕ)
    → (before after : S) → Type 0
TriesTo Tries zero before after = after ≡ before
TriesTo {S} Tries (suc done) before after =
    (between : S) × (Tries true before between × TriesTo Tries done between after)

-- The tries go in turn through these entries: each begins at the end of the try before.
pub record GoInTurn {S X : Type 0} (Tries : Bool → S → S → Type 0) (size : ℕ) (from : S → ℕ)
    (entries : S → List (ℕ × X)) : Type 0 where
  pub report : (found : Bool) (before after : S) → Tries found before after
      → found ≡ is_some (first_number (from before) (entries before))
  pub next : (found : Bool) (before after : S) → Tries found before after
      → from after ≡ next_from size (first_number (from before) (entries before))

module _ {S X : Type 0} (Tries : Bool → S → S → Type 0) (size number : ℕ) (from : S → ℕ)
    (entries : S → List (ℕ × X)) (ever : List ℕ) where
  -- The number is found at one of at most `most` tries of a sweep.
  pub record FindsIn (most : ℕ) (before : S) : Type 0 where
    pub done : ℕ
    pub at : S
    pub few : done < most
    pub reached : TriesTo Tries done before at
    pub found : first_number (from at) (entries at) ≡ Some number

  -- The number is listed wherever the sweep comes.
  abbrev pub IsListedFrom : S → Type 0
  IsListedFrom before =
      (done : ℕ) (at : S) → TriesTo Tries done before at
      → StaysListed size number ever (keys_of (entries at))

  listed_now : (before : S) → IsListedFrom before
      → StaysListed size number ever (keys_of (entries before))
  unfolding TriesTo
  listed_now before all = all 0 before refl

  listed_later : (before between : S) → Tries true before between → IsListedFrom before
      → IsListedFrom between
  unfolding TriesTo
  listed_later before between one all = λ done at reached. all (suc done) at
      (between, (one, reached))

  finds_now : (most : ℕ) (before : S) → first_number (from before) (entries before) ≡ Some number
      → FindsIn (suc most) before
  unfolding TriesTo
  finds_now most before found = record
      { done = 0; at = before; few = omega arith; reached = refl; found = found }

  finds_later : (most : ℕ) (before between : S) → Tries true before between → FindsIn most between
      → FindsIn (suc most) before
  unfolding TriesTo
  finds_later most before between one later = record {
    done = suc later.done;
    at = later.at;
    few = let few : later.done < most = later.few in omega arith;
    reached = (between, (one, later.reached));
    found = later.found;
  }

  -- The try without a find begins again.
  ends_sweep : (most sweeps tries begin next : ℕ) (found : Option ℕ) (now : List ℕ)
      → StaysListed size number ever now
      → IsFound begin found now → false ≡ is_some found → next ≡ next_from size found
      → suc tries ≤ most
      → Fits most sweeps (suc tries) number begin ever → Fits most sweeps 0 number next ever
  ends_sweep most sweeps tries begin next (Some one) now listed first report goes few left = cc
  ends_sweep most sweeps tries begin next None now listed none report goes few left =
      let anew = begins_anew size number begin ever now listed none in
      let at_0 : wraps most number 0 ≡ 0 = no_wrap most number in
      let before : wraps most number begin ≡ most = wraps_some most number begin anew.0 in
      let from_0 : Fits most sweeps 0 number 0 ever = omega arith in
      subst (λ n. Fits most sweeps 0 number n ever) (sym goes) from_0

  -- A try with a find found the number, or less is left.
  goes_in_sweep : (most sweeps tries begin next : ℕ) (found : Option ℕ) (now : List ℕ)
      → StaysListed size number ever now → IsFound begin found now → true ≡ is_some found
      → next ≡ next_from size found
      → Fits most sweeps (suc tries) number begin ever
      → (found ≡ Some number) ⊎ Fits most sweeps tries number next ever
  goes_in_sweep most sweeps tries begin next None now listed none report goes left = inl (cc)
  goes_in_sweep most sweeps tries begin next (Some one) now listed first report goes left =
      elim (cases_order one number) [
        | inl is ↦ inl (cc)
        | inr order ↦
            let more : GoesOn number begin ((one + 1) % size) ever =
            goes_on size number begin one ever now listed first (differ one number order)
            in
            let no_more : wraps most number ((one + 1) % size) ≤ wraps most number begin =
            more.wraps most in
            let fits : Fits most sweeps tries number ((one + 1) % size) ever = omega arith in
            inr (subst (λ n. Fits most sweeps tries number n ever) (sym goes) fits)
      ]

  -- A sweep finds the number, or `tries` less is left of the walk.
  pub one_sweep : (most sweeps tries : ℕ) (before after : S) → GoInTurn Tries size from entries
      → TriesUpTo Tries tries before after → IsListedFrom before → tries ≤ most
      → Fits most sweeps tries number (from before) ever
      → FindsIn tries before ⊎ Fits most sweeps 0 number (from after) ever
  unfolding TriesUpTo
  one_sweep most sweeps zero before after turn same all few left =
      inr (subst (λ (s : S). Fits most sweeps 0 number (from s) ever) (sym same) left)
  one_sweep most sweeps (suc tries) before after turn (inl none) all few left =
      let listed = listed_now before all in
      inr (ends_sweep most sweeps tries (from before) (from after)
      (first_number (from before) (entries before))
      (keys_of (entries before)) listed
      (first_number_is_found (from before) (entries before) listed.rise)
      (turn.report false before after none) (turn.next false before after none) few left)
  one_sweep most sweeps (suc tries) before after turn (inr later) all few left =
      let listed = listed_now before all in
      let one = later.1.0 in
      elim (goes_in_sweep most sweeps tries (from before) (from later.0)
      (first_number (from before) (entries before))
      (keys_of (entries before)) listed
      (first_number_is_found (from before) (entries before) listed.rise)
      (turn.report true before later.0 one) (turn.next true before later.0 one) left) [
        | inl found ↦ inl (finds_now tries before found)
        | inr less ↦
            elim (one_sweep most sweeps tries later.0 after turn later.1.1
            (listed_later before later.0 one all)
            (omega arith) less) [
              | inl found ↦ inl (finds_later tries before later.0 one found)
              | inr rest ↦ inr rest
            ]
      ]

  pub some_sweep : (sweeps most : ℕ) (before after : ℕ → S) → GoInTurn Tries size from entries
      → ((sweep : ℕ) → TriesUpTo Tries most (before sweep) (after sweep))
      → ((sweep : ℕ) → from (before (sweep + 1)) ≡ from (after sweep))
      → ((sweep : ℕ) → IsListedFrom (before sweep))
      → Fits most sweeps 0 number (from (before 0)) ever
      → (sweep : ℕ) × ((sweep < sweeps) × FindsIn most (before sweep))
  some_sweep zero most before after turn one between all left =
      let none : most * 0 ≡ 0 = omega arith in
      let listed : StaysListed size number ever (keys_of (entries (before 0))) = listed_now
      (before 0) (all 0) in
      let some : 0 < ahead number (from (before 0)) ever =
      ahead_some number (from (before 0)) ever (listed.known number listed.stays)
      in
      absurd (omega arith)
  some_sweep (suc sweeps) most before after turn one between all left =
      let more : most * suc sweeps ≡ most * sweeps + most = omega arith in
      let fits : Fits most sweeps most number (from (before 0)) ever = omega arith in
      elim (one_sweep most sweeps most (before 0) (after 0) turn (one 0) (all 0) (omega arith) fits) [
        | inl found ↦ (0, (omega arith, found))
        | inr less ↦
            let rest : Fits most sweeps 0 number (from (before 1)) ever =
            subst (λ n. Fits most sweeps 0 number n ever) (sym (between 0)) less
            in
            let later = some_sweep sweeps most (λ sweep. before (sweep + 1))
            (λ sweep. after (sweep + 1)) turn
            (λ sweep. one (sweep + 1)) (λ sweep. between (sweep + 1)) (λ sweep. all (sweep + 1))
            rest
            in
            (later.0 + 1, (omega arith, later.1.1))
      ]

  -- Wherever the first sweep begins, the number is found within enough sweeps for a try of each
  -- number ever listed meanwhile, and one sweep more.
  pub found_in_sweeps : (sweeps most : ℕ) (before after : ℕ → S) → GoInTurn Tries size from entries
      → ((sweep : ℕ) → TriesUpTo Tries most (before sweep) (after sweep))
      → ((sweep : ℕ) → from (before (sweep + 1)) ≡ from (after sweep))
      → ((sweep : ℕ) → IsListedFrom (before sweep)) → length ever + most ≤ most * sweeps
      → (sweep : ℕ) × ((sweep < sweeps) × FindsIn most (before sweep))
  found_in_sweeps sweeps most before after turn one between all enough =
      let all_ever : ahead number (from (before 0)) ever ≤ length ever = ahead_most number
      (from (before 0)) ever in
      let wrap : wraps most number (from (before 0)) ≤ most = wraps_most most number
      (from (before 0)) in
      some_sweep sweeps most before after turn one between all (omega arith)
