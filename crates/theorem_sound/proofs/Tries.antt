-- The tries of an inquiry: the question asked by a step, and the tries of equal questions.
use Rattle.std.proofs.Common.{◌≡◌, ◌⊎◌, ℕ, zero, suc, ◌^◌, ◌<◌, List, [], ◌∷◌, ◌++◌, Bool, true, false, cond, refl, sym, ap, ◌∙◌, subst, inl, inr, Option, Some, None}
use Rattle.std.specs.Prelude.{map, not}
use Rattle.std.specs.List.{cons_option, AllByRecursion}
use Rattle.std.proofs.lemmas.Bool.{false≢true}
use Rattle.dns_message.specs.Values.{Question}
use Rattle.dns_message.specs.Questions.{same_question}
use Rattle.dns_message.specs.Writing.{written}
use Rattle.dns_message.specs.Written.{IsQuestion}
use Rattle.dns_message.proofs.CallerLemmas.{same_question_decides}
use Rattle.suffix_routes.specs.Values.{Config}
use Rattle.outstanding.specs.Draws.{ask_message}
use Rattle.outstanding.specs.declared.ask.Path.{Path}
use Rattle.outstanding.specs.declared.ask.Path.TheVariants.{Udp, Tcp}
use Rattle.outstanding.specs.Lists.{same_path, on_path as ask_on, without_path, AreInTurn, Follows}
use Rattle.outstanding.specs.Values.{Ask}
use Rattle.outstanding.proofs.CallerLemmas.{same_path_equal, same_path_reflexive}
use Rattle.step_values.specs.declared.action.Why.{Why}
use Rattle.step_values.specs.declared.event.Client.{Client}
use Rattle.step_values.specs.Values.{Action, ask_udp, ask_tcp, close_udp, close_tcp, send_reply, SentAsk, ask_in, Step}
use Rattle.step_history.specs.History.{ShownAsk, listed, Reads}
use Rattle.step_history.specs.Causes.{ClosesAsk, NoneAsks, IsAskOf, SendsAsk, FailsAsk, BeginsToAsk}
use Rattle.step_history.specs.Causes.{LeavesAsks, FailedSoFar}
use Rattle.step_table.specs.Steps.{Fate, gets, waits, reply_in, replies, closes, closing, asks, asks_by, ask_list}
use Rattle.step_table.proofs.CallerLemmas.{none_same}
use Rattle.theorem_sound.specs.Explains.{Tried}
use Rattle.theorem_sound.proofs.Actions.{Speaks}
use Rattle.theorem_sound.proofs.AskText.{ask_reads}
use Rattle.theorem_sound.proofs.Asking.{AsksNone}
use Rattle.theorem_sound.proofs.Names.{same_question-sym, same_question-trans}
use Rattle.theorem_sound.proofs.Nexts.{MayFollow}

-- ---- the questions asked by a step's actions

-- the next ask is for this question
abbrev pub IsNextOf : Question → Option Ask → Type 0
IsNextOf q None = ⊥
IsNextOf q (Some a) = (own : Question) × Reads (written (ask_message a.id a.question)) own × (same_question own q ≡ true)

pub same_question-refl : (q : Question) → same_question q q ≡ true
same_question-refl q = (same_question_decides q q).1 (record { name = refl; kind = refl; class = refl })

-- an ask is for its own question
pub next_asks : (q : Question) (a : Ask) → a.question ≡ q → IsQuestion q → a.id < 2 ^ 16 → IsNextOf q (Some a)
next_asks q a is is_question small =
    (q, subst (λ (z : Question). Reads (written (ask_message a.id z)) q) (sym is) (ask_reads a.id q is_question small).0, same_question-refl q)

pub sends_next : (q : Question) (next : Option Ask) → SendsAsk q (map asks (ask_list next)) → IsNextOf q next
sends_next q None k = absurd k
sends_next q (Some a) k = by a.path k
  where
    by : (p : Path) → SendsAsk q (asks_by p a ∷ []) → IsNextOf q (Some a)
    by (Udp port) (inl k) = k
    by (Udp port) (inr k) = absurd k
    by (Tcp conn) (inl k) = k
    by (Tcp conn) (inr k) = absurd k

pub next_sends : (q : Question) (next : Option Ask) → IsNextOf q next → SendsAsk q (map asks (ask_list next))
next_sends q None k = absurd k
next_sends q (Some a) k = by a.path
  where
    by : (p : Path) → SendsAsk q (asks_by p a ∷ [])
    by (Udp port) = inl k
    by (Tcp conn) = inl k

sends_later : (q : Question) (xs rest : List Action) → SendsAsk q rest → SendsAsk q (xs ++ rest)
sends_later q [] rest k = k
sends_later q (x ∷ xs) rest k = inr (sends_later q xs rest k)

-- a settling step sends the next ask
pub settled_sends : (q : Question) (close : Option Ask) (fates : List Fate) (next : Option Ask) → IsNextOf q next
    → SendsAsk q (closing close ++ (replies fates ++ map asks (ask_list next)))
settled_sends q close fates next k = sends_later q (closing close) (replies fates ++ map asks (ask_list next))
    (sends_later q (replies fates) (map asks (ask_list next)) (next_sends q next k))

past_closing : (q : Question) (close : Option Ask) (more : List Action) → SendsAsk q (closing close ++ more) → SendsAsk q more
past_closing q None more k = k
past_closing q (Some a) more k = by a.path k
  where
    by : (p : Path) → SendsAsk q (closes p ∷ more) → SendsAsk q more
    by (Udp port) (inl k) = absurd k
    by (Udp port) (inr k) = k
    by (Tcp conn) (inl k) = absurd k
    by (Tcp conn) (inr k) = k

past_one : (q : Question) (v : Fate) → Speaks v → (rs rest : List Action) → (SendsAsk q (rs ++ rest) → SendsAsk q rest)
    → SendsAsk q (cons_option (reply_in v) rs ++ rest) → SendsAsk q rest
past_one q (gets (send_reply client octets why)) h rs rest on (inl k) = absurd k
past_one q (gets (send_reply client octets why)) h rs rest on (inr k) = on k
past_one q (gets (ask_udp port server octets)) h rs rest on k = absurd h
past_one q (gets (ask_tcp conn server octets)) h rs rest on k = absurd h
past_one q (gets (close_udp port)) h rs rest on k = absurd h
past_one q (gets (close_tcp conn)) h rs rest on k = absurd h
past_one q (waits y) h rs rest on k = on k

past_all : (q : Question) (fates : List Fate) → AllByRecursion Speaks fates → (rest : List Action)
    → SendsAsk q (replies fates ++ rest) → SendsAsk q rest
past_all q [] h rest k = k
past_all q (v ∷ fates) h rest k = past_one q v h.0 (replies fates) rest (past_all q fates h.1 rest) k

-- and no other ask
pub sends_settled : (q : Question) (close : Option Ask) (fates : List Fate) (next : Option Ask) → AllByRecursion Speaks fates
    → SendsAsk q (closing close ++ (replies fates ++ map asks (ask_list next))) → IsNextOf q next
sends_settled q close fates next speak k =
    sends_next q next (past_all q fates speak (map asks (ask_list next)) (past_closing q close (replies fates ++ map asks (ask_list next)) k))

pub reply_sends_none : (q : Question) (client : Client) (octets : List ℕ) (why : Why) → SendsAsk q (send_reply client octets why ∷ []) → ⊥
reply_sends_none q client octets why (inl k) = k
reply_sends_none q client octets why (inr k) = k

pub asks_none : (actions : List Action) → ((q : Question) → SendsAsk q actions → ⊥) → (listed : List Ask) → AsksNone actions listed
asks_none actions none [] = tt
asks_none actions none (a ∷ listed) = (none a.question, asks_none actions none listed)

-- the next ask is for no listed ask's question
pub next_asks_none : (c : Config) (now : List Step) (next : Option Ask) (listed : List Ask) (actions : List Action) → AllByRecursion (Tried c now) (ask_list next)
    → MayFollow c listed next → ((q : Question) → SendsAsk q actions → IsNextOf q next) → AsksNone actions listed
next_asks_none c now None listed actions tried may sends = asks_none actions sends listed
next_asks_none c now (Some a) listed actions tried may sends = by listed (none_same a.question listed may.0.question)
  where
    by : (bs : List Ask) → AllByRecursion (λ b. same_question b.question a.question ≡ false) bs → AsksNone actions bs
    by [] other = tt
    by (b ∷ bs) other = (
      (λ k.
          let next : IsNextOf b.question (Some a) = sends b.question k in
          let one : Some next.0 ≡ Some a.question = sym next.1 ∙ tried.0.reads in
          let own : next.0 ≡ a.question = cc in
          false≢true (sym other.0 ∙ same_question-sym a.question b.question (subst (λ (z : Question). same_question z b.question ≡ true) own next.2))),
      by bs other.1,
    )

-- ---- the asks with one more

abbrev IsOther : Question → Ask → Type 0
IsOther q b = same_question b.question q ≡ false

-- if the ask on a path is for another question than q, and so are all asks on other paths, all are
pub other_asks : (path : Path) (q : Question) (listed : List Ask) (a : Ask) → AreInTurn listed → ask_on path listed ≡ Some a → same_question a.question q ≡ false
    → AllByRecursion (λ b. same_question b.question q ≡ false) (without_path path listed) → AllByRecursion (λ b. same_question b.question q ≡ false) listed
other_asks path q [] a start on other rest = tt
other_asks path q (b ∷ listed) a start on other rest = by (same_path b.path path) refl on rest (λ here left. other_asks path q listed a start.1 here other left)
  where
    kept : (xs : List Ask) → AllByRecursion (Follows b) xs → same_path b.path path ≡ true → AllByRecursion (IsOther q) (without_path path xs) → AllByRecursion (IsOther q) xs
    kept [] follow at all = tt
    kept (x ∷ xs) follow at all = one (same_path x.path path) refl all (λ left. kept xs follow.1 at left)
      where
        one : (v : Bool) → same_path x.path path ≡ v → AllByRecursion (IsOther q) (cond (not v) (x ∷ without_path path xs) (without_path path xs))
            → (AllByRecursion (IsOther q) (without_path path xs) → AllByRecursion (IsOther q) xs) → AllByRecursion (IsOther q) (x ∷ xs)
        one true same left more = absurd (false≢true (sym follow.0.path
            ∙ ap (same_path b.path) (same_path_equal x.path path same ∙ sym (same_path_equal b.path path at))
            ∙ same_path_reflexive b.path))
        one false apart left more = (left.0, more left.1)

    by : (v : Bool) → same_path b.path path ≡ v → cond v (Some b) (ask_on path listed) ≡ Some a → AllByRecursion (IsOther q) (cond (not v) (b ∷ without_path path listed) (without_path path listed))
        → (ask_on path listed ≡ Some a → AllByRecursion (IsOther q) (without_path path listed) → AllByRecursion (IsOther q) listed) → AllByRecursion (IsOther q) (b ∷ listed)
    by true at here left more = let is : b ≡ a = cc in (subst (IsOther q) (sym is) other, kept listed start.0 at left)
    by false apart here left more = (left.0, more here left.1)

-- ---- equal questions

module _ (q q' : Question) (same : same_question q q' ≡ true) where
  asked_alike : (own : Question) → same_question own q ≡ true → same_question own q' ≡ true
  asked_alike own k = same_question-trans own q q' k same

  others_alike : (own : Question) → same_question own q ≡ false → same_question own q' ≡ false
  others_alike own other = by (same_question own q') refl
    where
      by : (v : Bool) → same_question own q' ≡ v → same_question own q' ≡ false
      by true k = absurd (false≢true (sym other ∙ same_question-trans own q' q k (same_question-sym q q' same)))
      by false k = k

  -- a step closing an ask of a question closes an ask of each equal question
  pub closes_alike : (s : Step) (past : List Step) → ClosesAsk q s past → ClosesAsk q' s past
  closes_alike s past k = record { ask = k.ask; asked = k.asked; is_listed = k.is_listed; closed = k.closed; reads = k.reads; same = asked_alike k.asked k.same }

  ask_alike : (a : Option SentAsk) → IsAskOf q a → IsAskOf q' a
  ask_alike None k = k
  ask_alike (Some a) k = (k.0, k.1, asked_alike k.0 k.2)

  sends_alike : (actions : List Action) → SendsAsk q actions → SendsAsk q' actions
  sends_alike [] k = k
  sends_alike (a ∷ more) (inl k) = inl (ask_alike (ask_in a) k)
  sends_alike (a ∷ more) (inr k) = inr (sends_alike more k)

  none_alike : (asks : List ShownAsk) → NoneAsks q asks → NoneAsks q' asks
  none_alike [] h = tt
  none_alike (a ∷ asks) h = ((λ own reads. others_alike own (h.0 own reads)), none_alike asks h.1)

  fails_alike : (c : Config) (s : Step) (past : List Step) → FailsAsk c q s past → FailsAsk c q' s past
  unfolding closes_alike
  fails_alike c s past k = record { closes = closes_alike s past k.closes; quiet = k.quiet; why = k.why }

  begins_alike : (c : Config) (s : Step) (past : List Step) → BeginsToAsk c q s past → BeginsToAsk c q' s past
  begins_alike c s past (sends, inl none) = (sends_alike s.outcome.actions sends, inl (none_alike (listed past) none))
  begins_alike c s past (sends, inr accepts) = (
    sends_alike s.outcome.actions sends,
    inr (record { pieces = accepts.pieces; carries = accepts.carries; same = asked_alike accepts.carries.accepts.asked accepts.same }),
  )

leaves_alike : (q q' : Question) → same_question q q' ≡ true → (s : Step) (past : List Step) → LeavesAsks q s past → LeavesAsks q' s past
leaves_alike q q' same s past left =
    let back = same_question-sym q q' same in
    ((λ k. left.0 (closes_alike q' q back s past k)), (λ k. left.1 (sends_alike q' q back s.outcome.actions k)))

-- the tries of a question are the tries of each equal question
pub failed_alike : (c : Config) (q q' : Question) → same_question q q' ≡ true → (past : List Step) (n : ℕ) → FailedSoFar c q past n → FailedSoFar c q' past n
failed_alike c q q' same [] n h = h
failed_alike c q q' same (s ∷ past) zero h = (h.0, by (λ n. failed_alike c q q' same past n) h.1)
  where
    by : ((n : ℕ) → FailedSoFar c q past n → FailedSoFar c q' past n) → BeginsToAsk c q s past ⊎ (LeavesAsks q s past × FailedSoFar c q past zero)
        → BeginsToAsk c q' s past ⊎ (LeavesAsks q' s past × FailedSoFar c q' past zero)
    by rest (inl begins) = inl (begins_alike q q' same c s past begins)
    by rest (inr left) = inr (leaves_alike q q' same s past left.0, rest zero left.1)
failed_alike c q q' same (s ∷ past) (suc k) h = (h.0, by (λ n. failed_alike c q q' same past n) h.1)
  where
    by : ((n : ℕ) → FailedSoFar c q past n → FailedSoFar c q' past n) → (FailsAsk c q s past × SendsAsk q s.outcome.actions × FailedSoFar c q past k) ⊎ (LeavesAsks q s past × FailedSoFar c q past (suc k))
        → (FailsAsk c q' s past × SendsAsk q' s.outcome.actions × FailedSoFar c q' past k) ⊎ (LeavesAsks q' s past × FailedSoFar c q' past (suc k))
    by rest (inl failed) = inl (fails_alike q q' same c s past failed.0, sends_alike q q' same s.outcome.actions failed.1, rest k failed.2)
    by rest (inr left) = inr (leaves_alike q q' same s past left.0, rest (suc k) left.1)
