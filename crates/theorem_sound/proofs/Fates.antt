-- Waiting questions with the numbers of their steps, and their fates.
use Rattle.std.proofs.Common.{◌≡◌, ℕ, List, [], ◌∷◌, Bool, false, cond, refl, sym, ap, ◌∙◌, Option, Some, None}
use Rattle.std.specs.Prelude.{filter, map, not, ◌==◌, ◌||◌}
use Rattle.std.specs.List.{filter_map, cons_option, AllByRecursion}
use Rattle.std.proofs.lemmas.Bool.{eqb-false, eq-eqb, ne_eqb, cond-true, cond-false}
use Rattle.step_values.specs.Values.{Action}
use Rattle.waiting_questions.specs.Values.{Waiting}
use Rattle.step_table.specs.Steps.{Fate, gets, waits, waiting_in, still_waiting}
use Rattle.step_history.specs.Sound.{among}
use Rattle.step_table.proofs.CallerLemmas.{All-weaker}

abbrev pub Distinct : List ℕ → Type 0
Distinct [] = Unit {0}
Distinct (i ∷ is) = AllByRecursion (λ j. (j == i) ≡ false) is × Distinct is

-- the fate of each question, with the question's number
abbrev pub fates_in : List (Fate × ℕ) → List Fate
fates_in gs = map (λ g. g.0) gs

abbrev pub numbers_in : List (Fate × ℕ) → List ℕ
numbers_in gs = map (λ g. g.1) gs

abbrev pub owner_in : Fate → ℕ → Option ℕ
owner_in (gets a) i = Some i
owner_in (waits y) i = None

abbrev pub numbered_in : Fate → ℕ → Option (Waiting × ℕ)
numbered_in (gets a) i = None
numbered_in (waits y) i = Some (y, i)

-- the numbers of the questions with a reply
abbrev pub owners_by : List (Fate × ℕ) → List ℕ
owners_by gs = filter_map (λ g. owner_in g.0 g.1) gs

-- the questions waiting on, as now, each with the number from before
abbrev pub left_by : List (Fate × ℕ) → List (Waiting × ℕ)
left_by gs = filter_map (λ g. numbered_in g.0 g.1) gs

-- ---- the remaining questions

left_one : (v : Fate) (i : ℕ) (zs : List (Waiting × ℕ)) (ys : List Waiting) → map (λ (z : Waiting × ℕ). z.0) zs ≡ ys → map (λ (z : Waiting × ℕ). z.0) (cons_option (numbered_in v i) zs) ≡ cons_option (waiting_in v) ys
left_one (gets a) i zs ys e = e
left_one (waits y) i zs ys e = ap (λ xs. y ∷ xs) e

pub left_firsts : (gs : List (Fate × ℕ)) → map (λ (z : Waiting × ℕ). z.0) (left_by gs) ≡ still_waiting (fates_in gs)
left_firsts [] = refl
left_firsts (g ∷ gs) = left_one g.0 g.1 (left_by gs) (still_waiting (fates_in gs)) (left_firsts gs)

-- ---- owners

owner_one : (P : ℕ → Type 0) (v : Fate) (i : ℕ) (os : List ℕ) → P i → AllByRecursion P os → AllByRecursion P (cons_option (owner_in v i) os)
owner_one P (gets a) i os p h = (p, h)
owner_one P (waits y) i os p h = h

-- a fact about each number is a fact about each owner
pub All-owners : (P : ℕ → Type 0) (gs : List (Fate × ℕ)) → AllByRecursion P (numbers_in gs) → AllByRecursion P (owners_by gs)
All-owners P [] h = tt
All-owners P (g ∷ gs) h = owner_one P g.0 g.1 (owners_by gs) h.0 (All-owners P gs h.1)

distinct_one : (v : Fate) (i : ℕ) (os : List ℕ) → AllByRecursion (λ j. (j == i) ≡ false) os → Distinct os → Distinct (cons_option (owner_in v i) os)
distinct_one (gets a) i os others d = (others, d)
distinct_one (waits y) i os others d = d

pub Distinct-owners : (gs : List (Fate × ℕ)) → Distinct (numbers_in gs) → Distinct (owners_by gs)
Distinct-owners [] d = tt
Distinct-owners (g ∷ gs) d = distinct_one g.0 g.1 (owners_by gs) (All-owners (λ j. (j == g.1) ≡ false) gs d.0) (Distinct-owners gs d.1)

-- ---- without the owners, the numbers are the remaining questions' numbers

not_among : (i : ℕ) (is : List ℕ) → AllByRecursion (λ j. (j == i) ≡ false) is → among i is ≡ false
not_among i [] h = refl
not_among i (j ∷ is) h = ap (λ b. b || among i is) h.0 ∙ not_among i is h.1

eqb_turned : (i j : ℕ) → (j == i) ≡ false → (i == j) ≡ false
eqb_turned i j e = ne_eqb i j (λ s. eqb-false j i e (sym s))

filter_agree_on : {X : Type 0} (f g : X → Bool) (xs : List X) → AllByRecursion (λ x. f x ≡ g x) xs → filter f xs ≡ filter g xs
filter_agree_on f g [] h = refl
filter_agree_on f g (x ∷ xs) h =
    ap (λ ys. cond (f x) (x ∷ ys) ys) (filter_agree_on f g xs h.1) ∙ ap (λ b. cond b (x ∷ filter g xs) (filter g xs)) h.0

abbrev others : List ℕ → List ℕ → List ℕ
others os is = filter (λ k. not (among k os)) is

abbrev seconds : List (Waiting × ℕ) → List ℕ
seconds zs = map (λ z. z.1) zs

one_left : (v : Fate) (i : ℕ) (is os : List ℕ) (zs : List (Waiting × ℕ)) → AllByRecursion (λ j. (j == i) ≡ false) is → AllByRecursion (λ j. (j == i) ≡ false) os → others os is ≡ seconds zs
    → others (cons_option (owner_in v i) os) (i ∷ is) ≡ seconds (cons_option (numbered_in v i) zs)
one_left (gets a) i is os zs apart free rest =
    cond-false (not (among i (i ∷ os))) _ _ (ap (λ b. not (b || among i os)) (eq-eqb i i refl))
    ∙ filter_agree_on (λ k. not (among k (i ∷ os))) (λ k. not (among k os)) is (All-weaker (λ j. (j == i) ≡ false) (λ k. not (among k (i ∷ os)) ≡ not (among k os)) (λ k e. ap (λ b. not (b || among k os)) (eqb_turned i k e)) is apart)
    ∙ rest
one_left (waits y) i is os zs apart free rest = cond-true (not (among i os)) _ _ (ap not (not_among i os free)) ∙ ap (λ ys. i ∷ ys) rest

pub left_seconds : (gs : List (Fate × ℕ)) → Distinct (numbers_in gs) → others (owners_by gs) (numbers_in gs) ≡ seconds (left_by gs)
left_seconds [] d = refl
left_seconds (g ∷ gs) d =
    one_left g.0 g.1 (numbers_in gs) (owners_by gs) (left_by gs) d.0 (All-owners (λ j. (j == g.1) ≡ false) gs d.0) (left_seconds gs d.1)

-- ---- a fact for each fate

abbrev pub Fated : (ℕ → Action → Type 0) → (Waiting → ℕ → Type 0) → Fate → ℕ → Type 0
Fated owns stays (gets a) i = owns i a
Fated owns stays (waits y) i = stays y i

stays_one : (owns : ℕ → Action → Type 0) (stays : Waiting → ℕ → Type 0) (v : Fate) (i : ℕ) (zs : List (Waiting × ℕ)) → Fated owns stays v i → AllByRecursion (λ z. stays z.0 z.1) zs → AllByRecursion (λ z. stays z.0 z.1) (cons_option (numbered_in v i) zs)
stays_one owns stays (gets a) i zs p h = h
stays_one owns stays (waits y) i zs p h = (p, h)

pub left_each : (owns : ℕ → Action → Type 0) (stays : Waiting → ℕ → Type 0) (gs : List (Fate × ℕ)) → AllByRecursion (λ g. Fated owns stays g.0 g.1) gs → AllByRecursion (λ z. stays z.0 z.1) (left_by gs)
left_each owns stays [] h = tt
left_each owns stays (g ∷ gs) h = stays_one owns stays g.0 g.1 (left_by gs) h.0 (left_each owns stays gs h.1)

-- ---- fates by the question

abbrev pub fated : (Waiting → Fate) → List (Waiting × ℕ) → List (Fate × ℕ)
fated fate zs = map (λ z. (fate z.0, z.1)) zs

pub fated_fates : (fate : Waiting → Fate) (zs : List (Waiting × ℕ)) → fates_in (fated fate zs) ≡ map fate (map (λ (z : Waiting × ℕ). z.0) zs)
fated_fates fate [] = refl
fated_fates fate (z ∷ zs) = ap (λ vs. fate z.0 ∷ vs) (fated_fates fate zs)

pub fated_numbers : (fate : Waiting → Fate) (zs : List (Waiting × ℕ)) → numbers_in (fated fate zs) ≡ seconds zs
fated_numbers fate [] = refl
fated_numbers fate (z ∷ zs) = ap (λ is. z.1 ∷ is) (fated_numbers fate zs)

pub fated_each : (owns : ℕ → Action → Type 0) (stays before : Waiting → ℕ → Type 0) (fate : Waiting → Fate) (zs : List (Waiting × ℕ)) → ((x : Waiting) (i : ℕ) → before x i → Fated owns stays (fate x) i)
    → AllByRecursion (λ z. before z.0 z.1) zs → AllByRecursion (λ g. Fated owns stays g.0 g.1) (fated fate zs)
fated_each owns stays before fate [] each h = tt
fated_each owns stays before fate (z ∷ zs) each h = (each z.0 z.1 h.0, fated_each owns stays before fate zs each h.1)
