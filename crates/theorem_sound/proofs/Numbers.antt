-- The numbers of the questions without a reply.
use Rattle.std.proofs.Common.{◌≡◌, ℕ, suc, ◌<◌, List, [], ◌∷◌, ◌++◌, length, Bool, true, false, cond, refl, sym, ap, ◌∙◌, subst, arith}
use Rattle.std.specs.Prelude.{filter, not, ◌==◌, ◌&&◌, ◌||◌}
use Rattle.std.proofs.lemmas.Bool.{ne_eqb, eq-eqb, cond-true, cond-false}
use Rattle.std.proofs.lemmas.List.Elements.{filter-append}
use Rattle.step_values.specs.Values.{Step}
use Rattle.step_history.specs.History.{is_restart, takes_question}
use Rattle.step_history.specs.Sound.{among, unanswered}
use Rattle.std.specs.List.{AllByRecursion}
use Rattle.std.proofs.lemmas.List.{append-nil}
use Rattle.step_table.proofs.CallerLemmas.{All-append, All-weaker}
use Rattle.theorem_sound.proofs.Fates.{Distinct}

among-append : (i : ℕ) (is js : List ℕ) → among i (is ++ js) ≡ (among i is || among i js)
among-append i [] js = refl
among-append i (k ∷ is) js = subst (λ (b : Bool). ((k == i) || b) ≡ (((k == i) || among i is) || among i js)) (sym (among-append i is js)) (or_assoc (k == i) (among i is) (among i js))
  where
    or_assoc : (a b c : Bool) → (a || (b || c)) ≡ ((a || b) || c)
    or_assoc true b c = refl
    or_assoc false b c = refl

one_kept : (f : ℕ → Bool) (n : ℕ) (b o t : Bool) → f n ≡ not o → cond (b && not (o || t)) (n ∷ []) [] ≡ filter f (cond (b && not t) (n ∷ []) [])
one_kept f n false o t e = refl
one_kept f n true true true e = refl
one_kept f n true false true e = refl
one_kept f n true true false e = sym (cond-false (f n) (n ∷ []) [] e)
one_kept f n true false false e = sym (cond-true (f n) (n ∷ []) [] e)

-- more owners leave the questions owned by none of them
pub unanswered-more : (past : List Step) (os taken : List ℕ) → unanswered past (os ++ taken) ≡ filter (λ i. not (among i os)) (unanswered past taken)
unanswered-more [] os taken = refl
unanswered-more (s ∷ past) os taken = elim (is_restart s) as (λ v. cond v [] (unanswered past (os ++ taken) ++ more) ≡ filter f (cond v [] (unanswered past taken ++ one))) [
  | true ↦ refl
  | false ↦ ap (λ xs. xs ++ more) (unanswered-more past os taken)
      ∙ ap (λ xs. filter f (unanswered past taken) ++ xs)
      (subst (λ (v : Bool). cond (takes_question s.input.event && not v) (n ∷ []) [] ≡ filter f one) (sym (among-append n os taken)) (one_kept f n (takes_question s.input.event) (among n os) (among n taken) refl))
      ∙ sym (filter-append f (unanswered past taken) one)
]
  where
    n : ℕ
    n = length past

    f : ℕ → Bool
    f i = not (among i os)

    more : List ℕ
    more = cond (takes_question s.input.event && not (among (length past) (os ++ taken))) (length past ∷ []) []

    one : List ℕ
    one = cond (takes_question s.input.event && not (among (length past) taken)) (length past ∷ []) []

Distinct-push : (is : List ℕ) (n : ℕ) → Distinct is → AllByRecursion (λ i. i < n) is → Distinct (is ++ n ∷ [])
Distinct-push [] n d below = (tt, tt)
Distinct-push (i ∷ is) n d below =
    let other : (n ≡ i) → ⊥ = λ e. let lt : i < n = below.0 in omega (arith, lt, e) in
    (All-append _ is (n ∷ []) d.0 (ne_eqb n i other, tt), Distinct-push is n d.1 below.1)

-- the unanswered numbers are numbers of steps, own no reply, and differ
pub record AreFree (past : List Step) (taken : List ℕ) : Type 0 where
  pub below : AllByRecursion (λ i. i < length past) (unanswered past taken)
  pub not_taken : AllByRecursion (λ i. among i taken ≡ false) (unanswered past taken)
  pub distinct : Distinct (unanswered past taken)

abbrev Free : ℕ → List ℕ → List ℕ → Type 0
Free n taken is = AllByRecursion (λ i. i < n) is × AllByRecursion (λ i. among i taken ≡ false) is × Distinct is

free_one : (n : ℕ) (taken is : List ℕ) (b t : Bool) → among n taken ≡ t → Free n taken is → Free (suc n) taken (is ++ cond (b && not t) (n ∷ []) [])
free_one n taken is b t e h = cases b t e
  where
    up : AllByRecursion (λ i. i < suc n) is
    up = All-weaker (λ i. i < n) (λ i. i < suc n) (λ i l. omega (arith, l)) is h.0

    none : Free (suc n) taken (is ++ [])
    none = (All-append _ is [] up tt, All-append _ is [] h.1 tt, subst Distinct (sym (append-nil is)) h.2)

    cases : (b t : Bool) → among n taken ≡ t → Free (suc n) taken (is ++ cond (b && not t) (n ∷ []) [])
    cases false t e = none
    cases true true e = none
    cases true false e = (All-append (λ i. i < suc n) is (n ∷ []) up (omega arith, tt), All-append (λ i. among i taken ≡ false) is (n ∷ []) h.1 (e, tt), Distinct-push is n h.2 h.0)

free : (past : List Step) (taken : List ℕ) → Free (length past) taken (unanswered past taken)
free [] taken = (tt, tt, tt)
free (s ∷ past) taken = elim (is_restart s) as (λ v. Free (suc (length past)) taken (cond v [] (unanswered past taken ++ cond (takes_question s.input.event && not (among (length past) taken)) (length past ∷ []) []))) [
  | true ↦ (tt, tt, tt)
  | false ↦ free_one (length past) taken (unanswered past taken) (takes_question s.input.event) (among (length past) taken) refl (free past taken)
]

pub are_free : (past : List Step) (taken : List ℕ) → AreFree past taken
are_free past taken = let h = free past taken in record { below = h.0; not_taken = h.1; distinct = h.2 }

-- no question
pub numbers_left : (s : Step) (past : List Step) (taken : List ℕ) → is_restart s ≡ false → takes_question s.input.event ≡ false
    → unanswered (s ∷ past) taken ≡ unanswered past taken
numbers_left s past taken run asks =
    cond-false (is_restart s) _ _ run
    ∙ ap (λ (v : Bool). unanswered past taken ++ cond (v && not (among (length past) taken)) (length past ∷ []) []) asks
    ∙ append-nil (unanswered past taken)

below_taken : (n : ℕ) (is : List ℕ) → AllByRecursion (λ i. i < n) is → among n is ≡ false
below_taken n [] h = refl
below_taken n (i ∷ is) h = ap (λ v. v || among n is) (ne_eqb i n (λ e. let lt : i < n = h.0 in omega (arith, lt, e))) ∙ below_taken n is h.1

filter_all : {X : Type 0} (f : X → Bool) (xs : List X) → AllByRecursion (λ x. f x ≡ true) xs → filter f xs ≡ xs
filter_all f [] h = refl
filter_all f (x ∷ xs) h = cond-true (f x) _ _ h.0 ∙ ap (λ ys. x ∷ ys) (filter_all f xs h.1)

-- a question with a reply at once
pub numbers_at_once : (s : Step) (past : List Step) (taken : List ℕ) → is_restart s ≡ false → takes_question s.input.event ≡ true
    → unanswered (s ∷ past) (length past ∷ taken) ≡ unanswered past taken
numbers_at_once s past taken run asks =
    cond-false (is_restart s) _ _ run
    ∙ ap (λ (v : Bool). unanswered past (n ∷ taken) ++ cond (takes_question s.input.event && not v) (n ∷ []) []) found
    ∙ ap (λ (v : Bool). unanswered past (n ∷ taken) ++ cond v (n ∷ []) []) (and_no (takes_question s.input.event))
    ∙ append-nil (unanswered past (n ∷ taken))
    ∙ unanswered-more past (n ∷ []) taken
    ∙ filter_all (λ i. not (among i (n ∷ []))) (unanswered past taken) (All-weaker (λ i. i < n) (λ i. not (among i (n ∷ [])) ≡ true) (λ i l. ap (λ v. not (v || false)) (ne_eqb n i (λ e. omega (arith, l, e)))) (unanswered past taken) (are_free past taken).below)
  where
    n : ℕ
    n = length past

    found : among n (n ∷ taken) ≡ true
    found = ap (λ v. v || among n taken) (eq-eqb n n refl)

    and_no : (b : Bool) → (b && false) ≡ false
    and_no true = refl
    and_no false = refl

-- a waiting question
pub numbers_waiting : (s : Step) (past : List Step) (taken : List ℕ) → is_restart s ≡ false → takes_question s.input.event ≡ true → AllByRecursion (λ i. i < length past) taken
    → unanswered (s ∷ past) taken ≡ unanswered past taken ++ length past ∷ []
numbers_waiting s past taken run asks below =
    cond-false (is_restart s) _ _ run
    ∙ ap (λ (v : Bool). unanswered past taken ++ cond (v && not (among (length past) taken)) (length past ∷ []) []) asks
    ∙ ap (λ (v : Bool). unanswered past taken ++ cond (not v) (length past ∷ []) []) (below_taken (length past) taken below)
