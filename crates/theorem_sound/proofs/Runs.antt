-- A run continues by a step.
use Rattle.std.proofs.Common.{◌≡◌, ◌∙◌, ℕ, ◌+◌, ◌<◌, ◌≤◌, arith, List, [], ◌∷◌, ◌++◌, length, take, get_or, refl, sym, ap, subst, append_assoc}
use Rattle.std.specs.Prelude.{reverse, map}
use Rattle.std.proofs.lemmas.List.{reverse-append, map-append, take_more, length-map, append-nil}
use Rattle.std.specs.List.{concat}
use Rattle.suffix_routes.specs.Values.{Config, IsConfig}
use Rattle.step_values.specs.Values.{StepInput, Outcome, Step}
use Rattle.step_history.specs.Sound.{unanswered}
use Rattle.step_table.specs.State.{State}
use Rattle.waiting_questions.specs.Values.{Waiting}
use Rattle.step_table.specs.Steps.{initial}
use Rattle.step_table.specs.Row.{Row}
use Rattle.step_history.specs.Asked.{AsksWell}
use Rattle.theorem_sound.specs.Explains.{Explains}
use Rattle.theorem_sound.specs.Runs.{Run, IsExplained, IsSound, StaysExplained}
use Rattle.theorem_sound.proofs.Theorem.{row_explained, start_explained}

pub Run-push : (c : Config) (s : State) (steps : List Step) (mid s' : State) (t : Step) → Run c s steps mid → Row c mid t.input t.outcome s' → Run c s (steps ++ t ∷ []) s'
Run-push c s [] mid s' t run row = (s', subst (λ (y : State). Row c y t.input t.outcome s') run row, refl)
Run-push c s (u ∷ steps) mid s' t run row = (run.0, run.1, Run-push c run.0 steps mid s' t run.2 row)

pub IsExplained-push : (c : Config) (steps : List Step) (s s' : State) (h : StepInput) (o : Outcome) → IsExplained c steps s → StaysExplained c s h o s' → IsExplained c (steps ++ record { input = h; outcome = o } ∷ []) s'
IsExplained-push c steps s s' h o x stays =
    let more = stays (reverse steps) x.0 x.1 in
    (more.0 ∷ x.0, subst (λ (past : List Step). Explains c past (more.0 ∷ x.0) s') (sym (reverse-append steps (record { input = h; outcome = o } ∷ []))) more.1)

pub IsExplained-initial : (c : Config) → IsConfig c → IsExplained c [] (initial c)
IsExplained-initial c config = ([], start_explained c config)

-- the questions owning no reply are the waiting questions
sound_of : (c : Config) (past : List Step) (w : List (List ℕ)) (s : State) → Explains c past w s → length (unanswered past (concat w)) ≤ c.limits.questions
sound_of c past w s x =
    let one = length-map x.numbers_of (λ (z : Waiting × ℕ). z.0) in
    let two = length-map x.numbers_of (λ (z : Waiting × ℕ). z.1) in
    let waiting = ap length x.waiting in
    let numbers = ap length x.numbers in
    let few = x.few in
    omega (arith, one, two, waiting, numbers, few)

pub explained_is_sound : (c : Config) (steps : List Step) (s : State) → IsExplained c steps s → IsSound c steps
explained_is_sound c steps s x = record { owners = x.0; sound = x.1.sound; tells = x.1.tells; few = sound_of c (reverse steps) x.0 s x.1 }

pub row_stays : (c : Config) (s : State) (h : StepInput) (o : Outcome) (s' : State) → Row c s h o s' → StaysExplained c s h o s'
row_stays c s h o s' r = λ past w x. row_explained c past w s h o s' x r

-- stored steps stay explained with a further step stored
pub explained_more : (c c' : Config) (steps steps' : List Step) (s s' : State) (h : StepInput) (o : Outcome) → c' ≡ c → steps' ≡ steps ++ record { input = h; outcome = o } ∷ [] → IsExplained c steps s → StaysExplained c s h o s' → IsExplained c' steps' s'
explained_more c c' steps steps' s s' h o same pushed x stays =
    subst (λ (p : Config × List Step). IsExplained p.0 p.1 s') (λ i. (sym same i, sym pushed i)) (IsExplained-push c steps s s' h o x stays)

pub run_more : (c c' : Config) (first : State) (steps steps' : List Step) (s s' : State) (h : StepInput) (o : Outcome) → c' ≡ c → steps' ≡ steps ++ record { input = h; outcome = o } ∷ [] → Run c first steps s → Row c' s h o s' → Run c first steps' s'
run_more c c' first steps steps' s s' h o same pushed run row =
    subst (λ (xs : List Step). Run c first xs s') (sym pushed) (Run-push c first steps s s' (record { input = h; outcome = o }) run (subst (λ (d : Config). Row d s h o s') same row))

pub stays_at : (c c' : Config) (s : State) (h : StepInput) (o : Outcome) (s' : State) → c' ≡ c → StaysExplained c' s h o s' → StaysExplained c s h o s'
stays_at c c' s h o s' same x = subst (λ (d : Config). StaysExplained d s h o s') same x

-- a further input was passed in
pub input_more : (steps steps' : List Step) (h item : StepInput) (o : Outcome) (all : List StepInput) (i : ℕ) → steps' ≡ steps ++ record { input = h; outcome = o } ∷ []
    → map (λ (s : Step). s.input) steps ≡ take i all → i < length all → h ≡ item → item ≡ get_or all i item → map (λ (s : Step). s.input) steps' ≡ take (i + 1) all
input_more steps steps' h item o all i pushed so_far below is there =
    ap (map (λ (s : Step). s.input)) pushed ∙ map-append (λ (s : Step). s.input) steps (record { input = h; outcome = o } ∷ []) ∙ (λ j. so_far j ++ (is ∙ there) j ∷ []) ∙ sym (take_more all i item below)

-- a history explaining the state before a run explains, with the run's steps, the state after
Run-explained : (c : Config) (s s' : State) (steps : List Step) (past : List Step) (w : List (List ℕ)) → Explains c past w s → Run c s steps s' → (w' : List (List ℕ)) × Explains c (reverse steps ++ past) w' s'
Run-explained c s s' [] past w x run = (w, subst (Explains c past w) (sym run) x)
Run-explained c s s' (t ∷ steps) past w x run =
    let more = row_explained c past w s t.input t.outcome run.0 x run.1 in
    let rest = Run-explained c run.0 s' steps (t ∷ past) (more.0 ∷ w) more.1 run.2 in
    (rest.0, subst (λ (all : List Step). Explains c all rest.0 s') (sym (ap (λ (xs : List Step). xs ++ past) (reverse-append (t ∷ []) steps) ∙ append_assoc (reverse steps) (t ∷ []) past)) rest.1)

pub runs_sound : (c : Config) (steps : List Step) (s : State) → IsConfig c → Run c (initial c) steps s → IsSound c steps × AsksWell c (reverse steps)
runs_sound c steps s config run =
    let all = Run-explained c (initial c) s steps [] [] (start_explained c config) run in
    let one = subst (λ (past : List Step). Explains c past all.0 s) (append-nil (reverse steps)) all.1 in
    (explained_is_sound c steps s (all.0, one), one.asked_well)
