-- Claims about whom asks serve.
use Rattle.std.specs.Prelude.{◌≡◌, ℕ, true, List, [], ◌∷◌, length, ◌⊎◌}
use Rattle.std.specs.List.{concat, AllByRecursion}
use Rattle.dns_message.specs.Questions.{same_question}
use Rattle.dns_message.specs.Values.{Question}
use Rattle.suffix_routes.specs.Values.{Config}
use Rattle.outstanding.specs.Values.{Ask}
use Rattle.record_cache.specs.Values.{Held}
use Rattle.step_values.specs.declared.event.Client.{Client}
use Rattle.step_values.specs.Values.{Step}
use Rattle.step_history.specs.History.{InEra, ShownAsk, listed, NothingAccepted, Reads, Sends}
use Rattle.step_history.specs.Answers.{Leads}
use Rattle.step_history.specs.Causes.{ClosesAsk}
use Rattle.step_history.specs.Sound.{unanswered}
use Rattle.step_table.specs.WaitingQuestions.Values.{Waiting, waits_for}

-- P holds of an element
abbrev pub AnyByRecursion : {X : Type 0} → (X → Type 0) → List X → Type 0
AnyByRecursion P [] = ⊥
AnyByRecursion P (x ∷ xs) = P x ⊎ AnyByRecursion P xs

-- the question of step i of the era `Leads` to `wanted`
pub record Wants (c : Config) (now : List Step) (i : ℕ) (wanted : Question) : Type 0 where
  pub asked : Step
  pub before : List Step
  pub in_era : InEra (asked ∷ before) now
  pub number : i ≡ length before
  pub client : Client
  pub request : List ℕ
  pub sent : Sends asked.input.event client request
  pub question : Question
  pub reads : Reads request question
  pub aliases : List Held
  pub leads : Leads (record { config = c; asked = asked; before = before; now = now }) question aliases wanted

-- each of these steps wants its question: `Wants`, in order
abbrev pub EachWants : Config → List Step → List ℕ → List Question → Type 0
EachWants c now [] [] = Unit {0}
EachWants c now [] (q ∷ wanted) = ⊥
EachWants c now (i ∷ is) [] = ⊥
EachWants c now (i ∷ is) (q ∷ wanted) = Wants c now i q × EachWants c now is wanted

-- the ask asks this, letter case aside
pub record Asks (a : ShownAsk) (wanted : Question) : Type 0 where
  pub question : Question
  pub reads : Reads a.octets question
  pub same : same_question wanted question ≡ true

-- this ask was listed before the newest step
abbrev pub WasListed : List Step → ShownAsk → Type 0
WasListed past a = AnyByRecursion (λ b. b ≡ a) (listed past)

-- q opens an inquiry: the step failed no ask for q, and a waiting question wants q in this spelling
pub record OpensInquiry (c : Config) (s : Step) (past : List Step) (wanted : List Question) (q : Question) : Type 0
  where
    pub anew : ClosesAsk q s past → NothingAccepted c s past → ⊥
    pub spelled : AnyByRecursion (λ w. w ≡ q) wanted

-- q follows a failed ask: the step closed an ask for q in this spelling, and accepted nothing
pub record FollowsFailed (c : Config) (s : Step) (past : List Step) (q : Question) : Type 0 where
  pub closes : ClosesAsk q s past
  pub failed : NothingAccepted c s past
  pub spelled : closes.asked ≡ q

-- `OpensInquiry` or `FollowsFailed` holds of the ask's question
pub record IsSpelled (c : Config) (s : Step) (past : List Step) (wanted : List Question) (a : ShownAsk) : Type 0 where
  pub question : Question
  pub reads : Reads a.octets question
  pub from : OpensInquiry c s past wanted question ⊎ FollowsFailed c s past question

-- After step s the listed asks are exactly for the questions wanted by waiting questions. Each new
-- ask `IsSpelled`.
pub record AsksForWaiting (c : Config) (s : Step) (past : List Step) (owners : List ℕ) : Type 0 where
  pub wanted : List Question
  pub each : EachWants c (s ∷ past) (unanswered (s ∷ past) owners) wanted
  pub asked : AllByRecursion (λ q. AnyByRecursion (λ a. Asks a q) (listed (s ∷ past))) wanted
  pub wanting : AllByRecursion (λ a. AnyByRecursion (Asks a) wanted) (listed (s ∷ past))
  pub spelled : AllByRecursion (λ a. WasListed past a ⊎ IsSpelled c s past wanted a) (listed (s ∷ past))

-- `AsksForWaiting` after every step; w as in `Sound`
abbrev pub AsksForThoseWhoWait : Config → List Step → List (List ℕ) → Type 0
AsksForThoseWhoWait c [] w = Unit {0}
AsksForThoseWhoWait c (s ∷ past) [] = ⊥
AsksForThoseWhoWait c (s ∷ past) (is ∷ w) =
    AsksForThoseWhoWait c past w × AsksForWaiting c s past (concat (is ∷ w))

-- each waits for one of the asks, and each ask is waited for
pub record AreServed (asks : List Ask) (waiting : List Waiting) : Type 0 where
  pub asked : AllByRecursion (λ x. AnyByRecursion (λ a. waits_for a.question x ≡ true) asks) waiting
  pub wanting : AllByRecursion (λ a. AnyByRecursion (λ x. waits_for a.question x ≡ true) waiting) asks
