-- If waiting questions and asks serve each other in a state, they do so in the history explaining
-- the state.
use Rattle.std.proofs.Common.{◌≡◌, ◌∙◌, ℕ, zero, suc, List, [], ◌∷◌, true, false, sym, ap, subst, inl, inr, arith, ◌⊎◌}
use Rattle.std.specs.Prelude.{map, option_map}
use Rattle.std.specs.List.{concat, AllByRecursion}
use Rattle.dns_message.specs.Values.{Question}
use Rattle.dns_message.specs.Questions.{same_question}
use Rattle.suffix_routes.specs.Values.{Config}
use Rattle.outstanding.specs.declared.ask.Path.{Path}
use Rattle.outstanding.specs.Values.{Ask}
use Rattle.step_values.specs.Values.{Step}
use Rattle.step_history.specs.History.{ShownAsk, on_path, closes_path, NothingAccepted}
use Rattle.step_history.specs.Causes.{ClosesAsk, LastFailed}
use Rattle.step_history.proofs.CallerLemmas.{failed_so_far_last}
use Rattle.step_table.specs.State.{State}
use Rattle.step_table.proofs.CallerLemmas.{ask_on-is}
use Rattle.step_table.specs.WaitingQuestions.Values.{Waiting, waits_for}
use Rattle.theorem_sound.specs.Explains.{shown, Waits, Tried, Explains}
use Rattle.theorem_sound.proofs.Asking.{closes_none}
use Rattle.theorem_sound.proofs.Listed.{on_path-shown}
use Rattle.theorem_use.specs.Asking.{AnyByRecursion, EachWants, Wants, Asks, WasListed, FollowsFailed, IsSpelled}
use Rattle.theorem_use.specs.Asking.{AsksForWaiting}
use Rattle.theorem_use.proofs.Asked.{same_as_itself, Retries, Spelled, AreServedOn}

-- ---- the wanted questions

wants : (c : Config) (now : List Step) (x : Waiting) (i : ℕ) → Waits c now x i → Wants c now i x.wanted
wants c now x i h = record {
  asked = h.comes.asked;
  before = h.comes.before;
  in_era = h.comes.in_era;
  number = h.comes.number;
  client = x.client;
  request = h.comes.request;
  sent = h.comes.sent;
  question = h.comes.question;
  reads = h.comes.reads;
  aliases = x.held;
  leads = h.leads;
}

each_wants : (c : Config) (now : List Step) (zs : List (Waiting × ℕ)) → AllByRecursion (λ z. Waits c now z.0 z.1) zs
    → EachWants c now (map (λ z. z.1) zs) (map (λ x. x.wanted) (map (λ z. z.0) zs))
each_wants c now [] all = tt
each_wants c now (z ∷ zs) all = (wants c now z.0 z.1 all.0, each_wants c now zs all.1)

-- ---- lists

-- the action of a listed ask is among the shown asks
any_shown : (R P : Ask → Type 0) (Q : ShownAsk → Type 0) → ((a : Ask) → R a → P a → Q (shown a)) → (asks : List Ask)
    → AllByRecursion R asks → AnyByRecursion P asks → AnyByRecursion Q (map shown asks)
any_shown R P Q f [] all any = absurd any
any_shown R P Q f (a ∷ asks) all (inl here) = inl (f a all.0 here)
any_shown R P Q f (a ∷ asks) all (inr later) = inr (any_shown R P Q f asks all.1 later)

any_wanted : (P : Waiting → Type 0) (Q : Question → Type 0) → ((x : Waiting) → P x → Q x.wanted) → (xs : List Waiting)
    → AnyByRecursion P xs → AnyByRecursion Q (map (λ x. x.wanted) xs)
any_wanted P Q f [] any = absurd any
any_wanted P Q f (x ∷ xs) (inl here) = inl (f x here)
any_wanted P Q f (x ∷ xs) (inr later) = inr (any_wanted P Q f xs later)

all_wanted : (P : Waiting → Type 0) (Q : Question → Type 0) → ((x : Waiting) → P x → Q x.wanted) → (xs : List Waiting)
    → AllByRecursion P xs → AllByRecursion Q (map (λ x. x.wanted) xs)
all_wanted P Q f [] all = tt
all_wanted P Q f (x ∷ xs) all = (f x all.0, all_wanted P Q f xs all.1)

pub all_shown : (R P : Ask → Type 0) (Q : ShownAsk → Type 0) → ((a : Ask) → R a → P a → Q (shown a)) → (asks : List Ask)
    → AllByRecursion R asks → AllByRecursion P asks → AllByRecursion Q (map shown asks)
all_shown R P Q f [] reads all = tt
all_shown R P Q f (a ∷ asks) reads all = (f a reads.0 all.0, all_shown R P Q f asks reads.1 all.1)

-- ---- how an ask of the step is spelled

module _ (c : Config) (past : List Step) (w : List (List ℕ)) (s : State) (x : Explains c past w s) (t : Step) (a : Ask)
    (tried : Tried c (t ∷ past) a) where
  -- the ask follows an ask closed by the step
  module _ (r : Retries t.outcome.actions s.asks a) where
    tried_before : Tried c past r.closed
    tried_before = (ask_on-is (Tried c past) r.closed.path s.asks r.closed r.on x.tried).1

    closes : ClosesAsk a.question t past
    closes = record {
      ask = shown r.closed;
      asked = r.closed.question;
      is_listed = ap (on_path r.closed.path) (sym x.asks) ∙ on_path-shown r.closed.path s.asks
          ∙ ap (option_map shown) r.on;
      closed = r.closes;
      reads = tried_before.reads;
      same = ap (same_question r.closed.question) (sym r.question) ∙ same_as_itself r.closed.question;
    }

    -- the earlier tries failed, the newest in the step
    none_accepted : (k : ℕ) → a.used ≡ suc k → LastFailed c a.question (t ∷ past) k → NothingAccepted c t past
    none_accepted zero used failed =
        let later = r.used in let first = tried_before.used in absurd (omega (arith, used, later, first))
    none_accepted (suc k) used failed = elim failed.1 [
      | inl newest ↦ newest.1
      | inr none ↦ absurd (none.0 closes)
    ]

    follows : FollowsFailed c t past a.question
    unfolding closes
    follows = record {
      closes = closes;
      failed = none_accepted tried.before tried.used
          (failed_so_far_last c a.question (t ∷ past) tried.before tried.failed);
      spelled = r.question;
    }

  opens_anew : ((path : Path) → closes_path path t.outcome.actions ≡ false) ⊎ (NothingAccepted c t past → ⊥)
      → ClosesAsk a.question t past → NothingAccepted c t past → ⊥
  opens_anew (inl none) k quiet = closes_none t past none a.question k
  opens_anew (inr accepted) k quiet = accepted quiet

  spelled_so : (waiting : List Waiting)
      → Spelled (NothingAccepted c t past → ⊥) t.outcome.actions s.asks waiting a
      → WasListed past (shown a) ⊎ IsSpelled c t past (map (λ y. y.wanted) waiting) (shown a)
  spelled_so waiting (inl before) = inl (subst (AnyByRecursion (λ b. b ≡ shown a)) x.asks
      (any_shown (Tried c past) (λ b. b ≡ a) (λ b. b ≡ shown a) (λ b _ same. ap shown same) s.asks x.tried before))
  spelled_so waiting (inr (inl retries)) = inr (record {
    question = a.question;
    reads = tried.reads;
    from = inr (follows retries);
  })
  spelled_so waiting (inr (inr opens)) = inr (record {
    question = a.question;
    reads = tried.reads;
    from = inl (record {
      anew = opens_anew opens.anew;
      spelled = any_wanted (λ y. y.wanted ≡ a.question) (λ q. q ≡ a.question) (λ y same. same) waiting opens.wanted;
    });
  })

-- ---- the history

pub asks_for_waiting : (c : Config) (past : List Step) (w : List (List ℕ)) (s : State) (x : Explains c past w s)
    (t : Step) (w' : List (List ℕ)) (s' : State) (x' : Explains c (t ∷ past) w' s')
    → AreServedOn (NothingAccepted c t past → ⊥) t.outcome.actions s.asks s'.asks s'.waiting
    → AsksForWaiting c t past (concat w')
asks_for_waiting c past w s x t w' s' x' on = record {
  wanted = wanted;
  each = subst (λ (z : List ℕ × List Waiting). EachWants c now z.0 (map (λ y. y.wanted) z.1))
      (λ i. (x'.numbers i, x'.waiting i)) (each_wants c now x'.numbers_of x'.waits);
  asked = subst (λ (asks : List ShownAsk). AllByRecursion (λ q. AnyByRecursion (λ a. Asks a q) asks) wanted) x'.asks
      (all_wanted (λ y. AnyByRecursion (λ a. waits_for a.question y ≡ true) s'.asks)
      (λ q. AnyByRecursion (λ a. Asks a q) (map shown s'.asks))
      (λ y any. any_shown (Tried c now) (λ a. waits_for a.question y ≡ true) (λ a. Asks a y.wanted)
      (λ a tried same. record { question = a.question; reads = tried.reads; same = same }) s'.asks x'.tried any)
      s'.waiting on.served.asked);
  wanting = subst (AllByRecursion (λ a. AnyByRecursion (Asks a) wanted)) x'.asks
      (all_shown (Tried c now) (λ a. AnyByRecursion (λ y. waits_for a.question y ≡ true) s'.waiting)
      (λ a. AnyByRecursion (Asks a) wanted)
      (λ a tried any. any_wanted (λ y. waits_for a.question y ≡ true) (Asks (shown a))
      (λ y same. record { question = a.question; reads = tried.reads; same = same }) s'.waiting any)
      s'.asks x'.tried on.served.wanting);
  spelled = subst (AllByRecursion (λ a. WasListed past a ⊎ IsSpelled c t past wanted a)) x'.asks
      (all_shown (Tried c now) (Spelled (NothingAccepted c t past → ⊥) t.outcome.actions s.asks s'.waiting)
      (λ a. WasListed past a ⊎ IsSpelled c t past wanted a)
      (λ a tried from. spelled_so c past w s x t a tried s'.waiting from) s'.asks x'.tried on.spelled);
}
  where
    now : List Step
    now = t ∷ past

    wanted : List Question
    wanted = map (λ y. y.wanted) s'.waiting
