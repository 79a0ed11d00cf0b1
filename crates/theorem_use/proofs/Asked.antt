-- Asks and their waiting questions, after a step.
use Rattle.std.proofs.Common.{◌≡◌, ◌∙◌, ◌+◌, List, [], ◌∷◌, ◌++◌, Bool, true, false, cond, refl, sym, ap, subst, inl, inr, Option, Some, None, ◌⊎◌}
use Rattle.std.specs.Prelude.{map, filter, not}
use Rattle.std.specs.List.{cons_option, AllByRecursion}
use Rattle.std.proofs.lemmas.Bool.{true≢false, false≢true}
use Rattle.dns_message.specs.Values.{Question}
use Rattle.dns_message.specs.Questions.{same_question}
use Rattle.dns_message.proofs.CallerLemmas.{same_question_decides, same_question_reflexive, same_question_symmetric, same_question_transitive}
use Rattle.outstanding.specs.declared.ask.Path.{Path}
use Rattle.outstanding.specs.Lists.{same_path, on_path as ask_on, of_question, without_path, AreInTurn, Follows}
use Rattle.outstanding.specs.Values.{Ask}
use Rattle.outstanding.proofs.CallerLemmas.{same_path_equal, all_without_path, question_free_without_path}
use Rattle.step_values.specs.Values.{Action}
use Rattle.step_history.specs.History.{closes_path}
use Rattle.step_table.specs.WaitingQuestions.Values.{Waiting, waits_for}
use Rattle.step_table.specs.Steps.{Fate, gets, waits, waiting_in, still_waiting, ask_list}
use Rattle.step_table.proofs.CallerLemmas.{All-append, All-weaker, none_same}
use Rattle.theorem_use.specs.Asking.{AnyByRecursion, AreServed}

-- ---- an element of a list

pub any_weaker : {X : Type 0} (P Q : X → Type 0) → ((x : X) → P x → Q x) → (xs : List X) → AnyByRecursion P xs
    → AnyByRecursion Q xs
any_weaker P Q f [] any = absurd any
any_weaker P Q f (x ∷ xs) (inl here) = inl (f x here)
any_weaker P Q f (x ∷ xs) (inr later) = inr (any_weaker P Q f xs later)

-- with a fact about all elements
pub any_with : {X : Type 0} (R P Q : X → Type 0) → ((x : X) → R x → P x → Q x) → (xs : List X) → AllByRecursion R xs
    → AnyByRecursion P xs → AnyByRecursion Q xs
any_with R P Q f [] all any = absurd any
any_with R P Q f (x ∷ xs) all (inl here) = inl (f x all.0 here)
any_with R P Q f (x ∷ xs) all (inr later) = inr (any_with R P Q f xs all.1 later)

pub any_first : {X : Type 0} (P : X → Type 0) (xs ys : List X) → AnyByRecursion P xs → AnyByRecursion P (xs ++ ys)
any_first P [] ys any = absurd any
any_first P (x ∷ xs) ys (inl here) = inl here
any_first P (x ∷ xs) ys (inr later) = inr (any_first P xs ys later)

pub any_last : {X : Type 0} (P : X → Type 0) (xs ys : List X) → AnyByRecursion P ys → AnyByRecursion P (xs ++ ys)
any_last P [] ys any = any
any_last P (x ∷ xs) ys any = inr (any_last P xs ys any)

any_cons : {X : Type 0} (P : X → Type 0) (o : Option X) (xs : List X) → AnyByRecursion P xs
    → AnyByRecursion P (cons_option o xs)
any_cons P None xs any = any
any_cons P (Some x) xs any = inr any

-- each element is in the list
each_is_one : {X : Type 0} (xs : List X) → AllByRecursion (λ x. AnyByRecursion (λ y. y ≡ x) xs) xs
each_is_one [] = tt
each_is_one (x ∷ xs) = (
  inl refl,
  All-weaker (λ z. AnyByRecursion (λ y. y ≡ z) xs) (λ z. AnyByRecursion (λ y. y ≡ z) (x ∷ xs)) (λ z any. inr any) xs
      (each_is_one xs),
)

-- ---- equal questions

pub same_as_itself : (q : Question) → same_question q q ≡ true
same_as_itself q = (same_question_decides q q).1 (same_question_reflexive q)

pub same_turned : (p q : Question) → same_question p q ≡ true → same_question q p ≡ true
same_turned p q same = (same_question_decides q p).1 (same_question_symmetric p q ((same_question_decides p q).0 same))

pub same_through : (p q r : Question) → same_question p q ≡ true → same_question q r ≡ true → same_question p r ≡ true
same_through p q r one two = (same_question_decides p r).1
    (same_question_transitive p q r ((same_question_decides p q).0 one) ((same_question_decides q r).0 two))

-- ---- asks

-- the ask of the question wanted by x is among the asks x waits for
pub of_question_any : (x : Waiting) (asks : List Ask) (a : Ask) → of_question x.wanted asks ≡ Some a
    → AnyByRecursion (λ b. waits_for b.question x ≡ true) asks
of_question_any x [] a e = absurd (cc)
of_question_any x (b ∷ asks) a e = by (of_question_any x asks a) (same_question b.question x.wanted) refl e
  where
    by : (of_question x.wanted asks ≡ Some a → AnyByRecursion (λ d. waits_for d.question x ≡ true) asks) → (v : Bool)
        → same_question b.question x.wanted ≡ v → cond v (Some b) (of_question x.wanted asks) ≡ Some a
        → AnyByRecursion (λ d. waits_for d.question x ≡ true) (b ∷ asks)
    by behind true same e = inl (same_turned b.question x.wanted same)
    by behind false other e = inr (behind e)

-- the ask on a path is alone on the path
only_on_path : (asks : List Ask) (a : Ask) → AreInTurn asks → ask_on a.path asks ≡ Some a
    → AllByRecursion (λ b. same_path b.path a.path ≡ true → b ≡ a) asks
only_on_path [] a by_arrival on = tt
only_on_path (b ∷ asks) a by_arrival on = by (only_on_path asks a by_arrival.1) (same_path b.path a.path) refl on
  where
    by : (ask_on a.path asks ≡ Some a → AllByRecursion (λ d. same_path d.path a.path ≡ true → d ≡ a) asks) → (v : Bool)
        → same_path b.path a.path ≡ v → cond v (Some b) (ask_on a.path asks) ≡ Some a
        → AllByRecursion (λ d. same_path d.path a.path ≡ true → d ≡ a) (b ∷ asks)
    by behind true same e =
        let is : b ≡ a = cc in (
          λ _. is,
          All-weaker (Follows b) (λ d. same_path d.path a.path ≡ true → d ≡ a)
              (λ d follows t. absurd (false≢true (sym (ap (λ (p : Path). same_path b.path p)
              (sym (same_path_equal d.path a.path t)) ∙ follows.path) ∙ same)))
              asks by_arrival.0,
        )
    by behind false other e = (λ t. absurd (true≢false (sym t ∙ other)), behind e)

-- a question not waiting for the closed ask still has an ask
still_asked : (x : Waiting) (a : Ask) (asks : List Ask)
    → AllByRecursion (λ b. same_path b.path a.path ≡ true → b ≡ a) asks → waits_for a.question x ≡ false
    → AnyByRecursion (λ b. waits_for b.question x ≡ true) asks
    → AnyByRecursion (λ b. waits_for b.question x ≡ true) (without_path a.path asks)
still_asked x a [] only other any = absurd any
still_asked x a (b ∷ asks) only other any =
    by (still_asked x a asks only.1 other) (same_path b.path a.path) refl any
  where
    by : (AnyByRecursion (λ d. waits_for d.question x ≡ true) asks
        → AnyByRecursion (λ d. waits_for d.question x ≡ true) (without_path a.path asks)) → (v : Bool)
        → same_path b.path a.path ≡ v → AnyByRecursion (λ d. waits_for d.question x ≡ true) (b ∷ asks)
        → AnyByRecursion (λ d. waits_for d.question x ≡ true)
        (cond (not v) (b ∷ without_path a.path asks) (without_path a.path asks))
    by behind true same (inl here) = absurd (true≢false
        (sym here ∙ ap (λ (d : Ask). waits_for d.question x) (only.0 same) ∙ other))
    by behind true same (inr later) = behind later
    by behind false apart (inl here) = inl here
    by behind false apart (inr later) = inr (behind later)

-- ---- fates

-- the fate is a reply, or a question waiting on with R
abbrev pub FateHas : (Waiting → Type 0) → Fate → Type 0
FateHas R (gets a) = Unit {0}
FateHas R (waits y) = R y

all_cons : (R : Waiting → Type 0) (v : Fate) (ys : List Waiting) → FateHas R v → AllByRecursion R ys
    → AllByRecursion R (cons_option (waiting_in v) ys)
all_cons R (gets a) ys has all = all
all_cons R (waits y) ys has all = (has, all)

-- a fact about each fate holds of all who wait on
pub all_still : (R : Waiting → Type 0) (fate : Waiting → Fate) (xs : List Waiting)
    → AllByRecursion (λ x. FateHas R (fate x)) xs → AllByRecursion R (still_waiting (map fate xs))
all_still R fate [] all = tt
all_still R fate (x ∷ xs) all = all_cons R (fate x) (still_waiting (map fate xs)) all.0 (all_still R fate xs all.1)

parts_of : (R : Waiting → Type 0) (v : Fate) (ys : List Waiting) → AllByRecursion R (cons_option (waiting_in v) ys)
    → FateHas R v × AllByRecursion R ys
parts_of R (gets a) ys all = (tt, all)
parts_of R (waits y) ys all = (all.0, all.1)

-- conversely, for the questions passing a test
pub each_fate : (R : Waiting → Type 0) (test : Waiting → Bool) (fate : Waiting → Fate) (xs : List Waiting)
    → AllByRecursion R (still_waiting (map fate (filter test xs)))
    → AllByRecursion (λ x. test x ≡ true → FateHas R (fate x)) xs
each_fate R test fate [] all = tt
each_fate R test fate (x ∷ xs) all = by (each_fate R test fate xs) (test x) refl all
  where
    by : (AllByRecursion R (still_waiting (map fate (filter test xs)))
        → AllByRecursion (λ y. test y ≡ true → FateHas R (fate y)) xs) → (v : Bool) → test x ≡ v
        → AllByRecursion R (still_waiting (map fate (cond v (x ∷ filter test xs) (filter test xs))))
        → AllByRecursion (λ y. test y ≡ true → FateHas R (fate y)) (x ∷ xs)
    by behind true is all =
        let parts = parts_of R (fate x) (still_waiting (map fate (filter test xs))) all in
        (λ _. parts.0, behind parts.1)
    by behind false isnt all = (λ t. absurd (true≢false (sym t ∙ isnt)), behind all)

-- each question waiting on was among the questions before
pub each_was : (test : Waiting → Bool) (fate : Waiting → Fate) (xs : List Waiting)
    → AllByRecursion (λ y. (x : Waiting) × (test x ≡ true) × (fate x ≡ waits y))
    (still_waiting (map fate (filter test xs)))
each_was test fate [] = tt
each_was test fate (x ∷ xs) = by (each_was test fate xs) (test x) refl
  where
    Was : Waiting → Type 0
    Was y = (z : Waiting) × (test z ≡ true) × (fate z ≡ waits y)

    here : test x ≡ true → (v : Fate) → fate x ≡ v → FateHas Was v
    here is (gets a) told = tt
    here is (waits y) told = (x, is, told)

    by : AllByRecursion Was (still_waiting (map fate (filter test xs))) → (v : Bool) → test x ≡ v
        → AllByRecursion Was (still_waiting (map fate (cond v (x ∷ filter test xs) (filter test xs))))
    by behind true is =
        all_cons Was (fate x) (still_waiting (map fate (filter test xs))) (here is (fate x) refl) behind
    by behind false isnt = behind

-- a question among the picked questions is among all
pub any_picked : (P : Waiting → Type 0) (test : Waiting → Bool) (fate : Waiting → Fate) (xs : List Waiting)
    → AnyByRecursion P (still_waiting (map fate (filter test xs))) → AnyByRecursion P (still_waiting (map fate xs))
any_picked P test fate [] any = any
any_picked P test fate (x ∷ xs) any = by (any_picked P test fate xs) (test x) any
  where
    first_of : (v : Fate) (ys zs : List Waiting) → (AnyByRecursion P ys → AnyByRecursion P zs)
        → AnyByRecursion P (cons_option (waiting_in v) ys) → AnyByRecursion P (cons_option (waiting_in v) zs)
    first_of (gets a) ys zs go any = go any
    first_of (waits y) ys zs go (inl here) = inl here
    first_of (waits y) ys zs go (inr later) = inr (go later)

    by : (AnyByRecursion P (still_waiting (map fate (filter test xs))) → AnyByRecursion P (still_waiting (map fate xs)))
        → (v : Bool) → AnyByRecursion P (still_waiting (map fate (cond v (x ∷ filter test xs) (filter test xs))))
        → AnyByRecursion P (still_waiting (map fate (x ∷ xs)))
    by behind true any =
        first_of (fate x) (still_waiting (map fate (filter test xs))) (still_waiting (map fate xs)) behind any
    by behind false any = any_cons P (waiting_in (fate x)) (still_waiting (map fate xs)) (behind any)

-- a question waiting on unchanged is among the questions waiting on
any_kept : (P : Waiting → Type 0) (fate : Waiting → Fate) (xs : List Waiting) → ((x : Waiting) → P x → fate x ≡ waits x)
    → AnyByRecursion P xs → AnyByRecursion P (still_waiting (map fate xs))
any_kept P fate [] keeps any = absurd any
any_kept P fate (x ∷ xs) keeps (inl here) =
    subst (λ (v : Fate). AnyByRecursion P (cons_option (waiting_in v) (still_waiting (map fate xs))))
    (sym (keeps x here)) (inl here)
any_kept P fate (x ∷ xs) keeps (inr later) =
    any_cons P (waiting_in (fate x)) (still_waiting (map fate xs)) (any_kept P fate xs keeps later)

pub all_wait_on : (xs : List Waiting) → still_waiting (map (λ x. waits x) xs) ≡ xs
all_wait_on [] = refl
all_wait_on (x ∷ xs) = ap (λ ys. x ∷ ys) (all_wait_on xs)

-- ---- after a step

-- the ask follows an ask closed by these actions: for its question, a try later
pub record Retries (actions : List Action) (before : List Ask) (a : Ask) : Type 0 where
  pub closed : Ask
  pub on : ask_on closed.path before ≡ Some closed
  pub closes : closes_path closed.path actions ≡ true
  pub question : closed.question ≡ a.question
  pub used : a.used ≡ closed.used + 1

-- a waiting question wants the ask's question; these actions close nothing, or a reply was accepted
pub record Opens (Accepted : Type 0) (actions : List Action) (waiting : List Waiting) (a : Ask) : Type 0 where
  pub anew : ((path : Path) → closes_path path actions ≡ false) ⊎ Accepted
  pub wanted : AnyByRecursion (λ x. x.wanted ≡ a.question) waiting

-- the ask was listed before, follows an ask, or opens an inquiry
abbrev pub Spelled : Type 0 → List Action → List Ask → List Waiting → Ask → Type 0
Spelled Accepted actions before waiting a =
    AnyByRecursion (λ b. b ≡ a) before ⊎ (Retries actions before a ⊎ Opens Accepted actions waiting a)

-- waiting questions and asks serve each other, and each ask has the right spelling
pub record AreServedOn (Accepted : Type 0) (actions : List Action) (before asks : List Ask) (waiting : List Waiting)
    : Type 0 where
  pub served : AreServed asks waiting
  pub spelled : AllByRecursion (Spelled Accepted actions before waiting) asks

pub all_spelled : (Accepted : Type 0) (actions : List Action) (asks : List Ask) (waiting : List Waiting)
    → AllByRecursion (Spelled Accepted actions asks waiting) asks
all_spelled Accepted actions asks waiting = All-weaker (λ a. AnyByRecursion (λ b. b ≡ a) asks)
    (Spelled Accepted actions asks waiting) (λ a any. inl any) asks (each_is_one asks)

pub unchanged : (Accepted : Type 0) (actions : List Action) (asks : List Ask) (waiting : List Waiting)
    → AreServed asks waiting → AreServedOn Accepted actions asks asks waiting
unchanged Accepted actions asks waiting served = record {
  served = served;
  spelled = all_spelled Accepted actions asks waiting;
}

-- the next ask, if any
abbrev pub NextHas : (Ask → Type 0) → Option Ask → Type 0
NextHas P None = Unit {0}
NextHas P (Some a) = P a

all_next : (P : Ask → Type 0) (asks : List Ask) (next : Option Ask) → AllByRecursion P asks → NextHas P next
    → AllByRecursion P (asks ++ ask_list next)
all_next P asks None all has = All-append P asks [] all tt
all_next P asks (Some a) all has = All-append P asks (a ∷ []) all (has, tt)

-- a further question waits, for a listed ask or for the next ask, and nothing is closed
pub taken_on : (Accepted : Type 0) (actions : List Action) (asks : List Ask) (waiting : List Waiting) (x : Waiting)
    (next : Option Ask)
    → AreServed asks waiting → ((path : Path) → closes_path path actions ≡ false)
    → AnyByRecursion (λ a. waits_for a.question x ≡ true) (asks ++ ask_list next)
    → NextHas (λ a. a.question ≡ x.wanted) next
    → AreServedOn Accepted actions asks (asks ++ ask_list next) (waiting ++ x ∷ [])
taken_on Accepted actions asks waiting x next served none own wanted = record {
  served = record {
    asked = All-append (λ y. AnyByRecursion (λ a. waits_for a.question y ≡ true) (asks ++ ask_list next)) waiting
        (x ∷ [])
        (All-weaker (λ y. AnyByRecursion (λ a. waits_for a.question y ≡ true) asks)
        (λ y. AnyByRecursion (λ a. waits_for a.question y ≡ true) (asks ++ ask_list next))
        (λ y any. any_first (λ a. waits_for a.question y ≡ true) asks (ask_list next) any) waiting served.asked)
        (own, tt);
    wanting = all_next (λ a. AnyByRecursion (λ y. waits_for a.question y ≡ true) (waiting ++ x ∷ [])) asks next
        (All-weaker (λ a. AnyByRecursion (λ y. waits_for a.question y ≡ true) waiting)
        (λ a. AnyByRecursion (λ y. waits_for a.question y ≡ true) (waiting ++ x ∷ []))
        (λ a any. any_first (λ y. waits_for a.question y ≡ true) waiting (x ∷ []) any) asks served.wanting)
        (wants next wanted);
  };
  spelled = all_next (Spelled Accepted actions asks (waiting ++ x ∷ [])) asks next
      (all_spelled Accepted actions asks (waiting ++ x ∷ [])) (spells next wanted);
}
  where
    wants : (o : Option Ask) → NextHas (λ a. a.question ≡ x.wanted) o
        → NextHas (λ a. AnyByRecursion (λ y. waits_for a.question y ≡ true) (waiting ++ x ∷ [])) o
    wants None has = tt
    wants (Some a) has = any_last (λ y. waits_for a.question y ≡ true) waiting (x ∷ [])
        (inl (ap (same_question x.wanted) has ∙ same_as_itself x.wanted))

    spells : (o : Option Ask) → NextHas (λ a. a.question ≡ x.wanted) o
        → NextHas (Spelled Accepted actions asks (waiting ++ x ∷ [])) o
    spells None has = tt
    spells (Some a) has = inr (inr (record {
      anew = inl none;
      wanted = any_last (λ y. y.wanted ≡ a.question) waiting (x ∷ []) (inl (sym has));
    }))

module _ (asks : List Ask) (waiting : List Waiting) (served : AreServed asks waiting) (by_arrival : AreInTurn asks)
    (a : Ask) (on : ask_on a.path asks ≡ Some a) where
  abbrev others : List Ask
  others = without_path a.path asks

  -- only the closed ask has its question
  apart : AllByRecursion (λ b. same_question b.question a.question ≡ false) others
  apart = none_same a.question others (question_free_without_path a.path a.question asks a by_arrival on
      (same_as_itself a.question))

  -- An ask is closed. A question not waiting for the ask waits on as before; a question waiting for
  -- the ask gets a reply, or waits on for another ask or the next ask; and the next ask is wanted.
  pub closed_on : (Accepted : Type 0) (actions : List Action) (fate : Waiting → Fate) (next : Option Ask)
      → ((x : Waiting) → waits_for a.question x ≡ false → fate x ≡ waits x)
      → AllByRecursion (λ x. waits_for a.question x ≡ true
      → FateHas (λ y. AnyByRecursion (λ b. waits_for b.question y ≡ true) (others ++ ask_list next))
      (fate x)) waiting
      → NextHas (λ b. AnyByRecursion (λ y. waits_for b.question y ≡ true) (still_waiting (map fate waiting))) next
      → NextHas (Spelled Accepted actions asks (still_waiting (map fate waiting))) next
      → AreServedOn Accepted actions asks (others ++ ask_list next) (still_waiting (map fate waiting))
  closed_on Accepted actions fate next keeps sends wants spells = record {
    served = record {
      asked = all_still Asked fate waiting (each waiting served.asked sends);
      wanting = all_next (λ b. AnyByRecursion (λ y. waits_for b.question y ≡ true)
          (still_waiting (map fate waiting))) others next
          (both others apart (all_without_path (λ b. AnyByRecursion
          (λ y. waits_for b.question y ≡ true) waiting) a.path asks served.wanting)) wants;
    };
    spelled = all_next (Spelled Accepted actions asks (still_waiting (map fate waiting))) others next
        (all_without_path (Spelled Accepted actions asks (still_waiting (map fate waiting))) a.path asks
        (all_spelled Accepted actions asks (still_waiting (map fate waiting)))) spells;
  }
    where
      Asked : Waiting → Type 0
      Asked y = AnyByRecursion (λ b. waits_for b.question y ≡ true) (others ++ ask_list next)

      fate_has : (x : Waiting) → AnyByRecursion (λ b. waits_for b.question x ≡ true) asks
          → (waits_for a.question x ≡ true → FateHas Asked (fate x)) → FateHas Asked (fate x)
      fate_has x any then = by (waits_for a.question x) refl
        where
          by : (v : Bool) → waits_for a.question x ≡ v → FateHas Asked (fate x)
          by true t = then t
          by false f = subst (FateHas Asked) (sym (keeps x f))
              (any_first (λ b. waits_for b.question x ≡ true) others (ask_list next)
              (still_asked x a asks (only_on_path asks a by_arrival on) f any))

      each : (xs : List Waiting) → AllByRecursion (λ x. AnyByRecursion (λ b. waits_for b.question x ≡ true) asks) xs
          → AllByRecursion (λ x. waits_for a.question x ≡ true → FateHas Asked (fate x)) xs
          → AllByRecursion (λ x. FateHas Asked (fate x)) xs
      each [] any then = tt
      each (x ∷ xs) any then = (fate_has x any.0 then.0, each xs any.1 then.1)

      -- a question waiting for another ask doesn't wait for the closed ask
      for_other : (b : Ask) → same_question b.question a.question ≡ false → (x : Waiting)
          → waits_for b.question x ≡ true → fate x ≡ waits x
      for_other b other x t = keeps x (by (waits_for a.question x) refl)
        where
          by : (v : Bool) → waits_for a.question x ≡ v → v ≡ false
          by false f = refl
          by true both = absurd (true≢false (sym (same_through b.question x.wanted a.question
              (same_turned x.wanted b.question t) both) ∙ other))

      both : (bs : List Ask) → AllByRecursion (λ b. same_question b.question a.question ≡ false) bs
          → AllByRecursion (λ b. AnyByRecursion (λ y. waits_for b.question y ≡ true) waiting) bs
          → AllByRecursion (λ b. AnyByRecursion (λ y. waits_for b.question y ≡ true)
          (still_waiting (map fate waiting))) bs
      both [] other any = tt
      both (b ∷ bs) other any = (
        any_kept (λ y. waits_for b.question y ≡ true) fate waiting (for_other b other.0) any.0,
        both bs other.1 any.1,
      )
