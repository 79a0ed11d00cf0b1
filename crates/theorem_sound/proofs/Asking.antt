-- The listed asks after a further step.
use Rattle.std.proofs.Common.{◌≡◌, ℕ, suc, zero, List, [], ◌∷◌, length, true, false, sym, ap, ◌∙◌, subst, inr, arith, Some}
use Rattle.std.specs.Prelude.{map}
use Rattle.std.specs.List.{AllByRecursion}
use Rattle.std.proofs.lemmas.List.{length-map}
use Rattle.std.proofs.lemmas.Bool.{false≢true}
use Rattle.dns_message.specs.Values.{Question}
use Rattle.dns_message.specs.Questions.{same_question}
use Rattle.dns_message.specs.Writing.{written}
use Rattle.suffix_routes.specs.Values.{Config}
use Rattle.outstanding.specs.declared.ask.Path.{Path}
use Rattle.outstanding.specs.Values.{Ask}
use Rattle.outstanding.specs.Lists.{Follows, AreInTurn, AreListed}
use Rattle.step_values.specs.Values.{Action, Step}
use Rattle.step_history.specs.History.{ShownAsk, is_restart, listed, on_path, closes_path, Reads}
use Rattle.outstanding.specs.Draws.{ask_message}
use Rattle.step_history.specs.Causes.{ClosesAsk, NoneAsks, SendsAsk, LeavesAsks, FailedSoFar}
use Rattle.step_history.specs.Asked.{DiffersFrom, AreApart, AreRightAsks, AsksWell}
use Rattle.theorem_sound.specs.Explains.{shown, Tried}

-- ---- apart

differs : (c : Config) (now : List Step) (a b : Ask) → Tried c now a → Tried c now b → Follows a b → DiffersFrom (shown a) (shown b)
differs c now a b one other follows = record {
  path = follows.path;
  question = λ p q reads_p reads_q.
      let p_is : Some p ≡ Some a.question = sym reads_p ∙ one.reads in
      let q_is : Some q ≡ Some b.question = sym reads_q ∙ other.reads in
      let p_same : p ≡ a.question = cc in
      let q_same : q ≡ b.question = cc in
      (λ i. same_question (p_same i) (q_same i)) ∙ follows.question;
}

all_differ : (c : Config) (now : List Step) (a : Ask) (asks : List Ask) → Tried c now a → AllByRecursion (Tried c now) asks → AllByRecursion (Follows a) asks → AllByRecursion (DiffersFrom (shown a)) (map shown asks)
all_differ c now a [] one others follow = tt
all_differ c now a (b ∷ asks) one others follow = (differs c now a b one others.0 follow.0, all_differ c now a asks one others.1 follow.1)

apart : (c : Config) (now : List Step) (asks : List Ask) → AllByRecursion (Tried c now) asks → AreInTurn asks → AreApart (map shown asks)
apart c now [] tried by_arrival = tt
apart c now (a ∷ asks) tried by_arrival = (all_differ c now a asks tried.0 tried.1 by_arrival.0, apart c now asks tried.1 by_arrival.1)

pub asked_more : (c : Config) (s : Step) (past : List Step) (asks : List Ask) → AsksWell c past → map shown asks ≡ listed (s ∷ past)
    → AreListed (record { capacity = c.limits.inquiries; asks = asks }) → AllByRecursion (Tried c (s ∷ past)) asks
    → AreRightAsks c s past s.outcome.actions → AsksWell c (s ∷ past)
asked_more c s past asks before shown_is are tried right =
    let size : length (map shown asks) ≡ length (listed (s ∷ past)) = ap length shown_is in
    let few = are.few in
    (before, subst AreApart shown_is (apart c (s ∷ past) asks tried are.by_arrival), omega (arith, size, length-map asks shown, few), right)

-- ---- tries

-- a step neither closing nor sending an ask of a question leaves the question's tries
pub tried_on : (c : Config) (s : Step) (past : List Step) (a : Ask) → is_restart s ≡ false → LeavesAsks a.question s past → Tried c past a → Tried c (s ∷ past) a
tried_on c s past a run left h = record {
  question = h.question;
  reads = h.reads;
  identifier = h.identifier;
  on_route = h.on_route;
  server = h.server;
  before = h.before;
  used = h.used;
  few = h.few;
  failed = by h.before h.failed;
}
  where
    by : (k : ℕ) → FailedSoFar c a.question past k → FailedSoFar c a.question (s ∷ past) k
    by zero f = (run, inr (left, f))
    by (suc k) f = (run, inr (left, f))

-- the actions send no ask for the questions of these asks
abbrev pub AsksNone : List Action → List Ask → Type 0
AsksNone actions asks = AllByRecursion (λ a. SendsAsk a.question actions → ⊥) asks

pub all_tried_on : (c : Config) (s : Step) (past : List Step) (asks : List Ask) → is_restart s ≡ false → ((q : Question) → ClosesAsk q s past → ⊥) → AsksNone s.outcome.actions asks
    → AllByRecursion (Tried c past) asks → AllByRecursion (Tried c (s ∷ past)) asks
all_tried_on c s past [] run none silent all = tt
all_tried_on c s past (a ∷ asks) run none silent all = (tried_on c s past a run (none a.question, silent.0) all.0, all_tried_on c s past asks run none silent.1 all.1)

-- actions closing no path close no ask
pub closes_none : (s : Step) (past : List Step) → ((p : Path) → closes_path p s.outcome.actions ≡ false) → (q : Question) → ClosesAsk q s past → ⊥
closes_none s past none q k = false≢true (sym (none k.ask.path) ∙ k.closed)

-- a step closing a single path closes the ask on this path alone
pub closes_one : (c : Config) (s : Step) (past : List Step) (a : Ask) → ((p : Path) → closes_path p s.outcome.actions ≡ true → p ≡ a.path) → on_path a.path (listed past) ≡ Some (shown a)
    → Reads (written (ask_message a.id a.question)) a.question → (q : Question) → ClosesAsk q s past → same_question a.question q ≡ true
closes_one c s past a only on reads q k =
    let two : Some k.ask ≡ Some (shown a) = sym k.is_listed ∙ ap (λ (p : Path). on_path p (listed past)) (only k.ask.path k.closed) ∙ on in
    let ask_is : k.ask ≡ shown a = cc in
    let one : Some k.asked ≡ Some a.question = sym k.reads ∙ ap (λ (x : ShownAsk). Rattle.dns_message.specs.Questions.one_question x.octets) ask_is ∙ reads in
    let asked_is : k.asked ≡ a.question = cc in
    ap (λ (x : Question). same_question x q) (sym asked_is) ∙ k.same

-- so the step leaves the tries of the other asks
pub others_tried_on : (c : Config) (s : Step) (past : List Step) (a : Ask) (asks : List Ask) → is_restart s ≡ false → ((q : Question) → ClosesAsk q s past → same_question q a.question ≡ true)
    → AllByRecursion (λ b. same_question b.question a.question ≡ false) asks → AsksNone s.outcome.actions asks → AllByRecursion (Tried c past) asks → AllByRecursion (Tried c (s ∷ past)) asks
others_tried_on c s past a [] run only other silent all = tt
others_tried_on c s past a (b ∷ asks) run only other silent all =
    (tried_on c s past b run ((λ k. false≢true (sym other.0 ∙ only b.question k)), silent.0) all.0, others_tried_on c s past a asks run only other.1 silent.1 all.1)

-- if no listed ask has a question, no shown ask is for the question
pub none_asks : (c : Config) (now : List Step) (q : Question) (asks : List Ask) → AllByRecursion (Tried c now) asks → AllByRecursion (λ b. same_question b.question q ≡ false) asks → NoneAsks q (map shown asks)
none_asks c now q [] tried other = tt
none_asks c now q (b ∷ asks) tried other = (
  (λ own reads. let two : Some own ≡ Some b.question = sym reads ∙ tried.0.reads in let same : own ≡ b.question = cc in ap (λ (z : Question). same_question z q) same ∙ other.0),
  none_asks c now q asks tried.1 other.1,
)
