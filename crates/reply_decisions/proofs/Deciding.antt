-- The decision is the row's.
use Rattle.std.proofs.Common.{◌≡◌, ℕ, ◌+◌, List, [], ◌∷◌, ◌++◌, Bool, true, false, cond, refl, sym, ap, ◌∙◌, subst, Option, Some, None, arith}
use Rattle.std.specs.Prelude.{filter, map, not, drop, slice_set, nat_lt, IsSome, Box}
use Rattle.std.specs.List.{cons_option, AllByRecursion}
use Rattle.std.proofs.lemmas.Bool.{cond-true, cond-false}
use Rattle.std.proofs.lemmas.List.{append-nil}
use Rattle.dns_message.specs.Values.{Question}
use Rattle.suffix_routes.specs.declared.peer.Peer.{Peer}
use Rattle.suffix_routes.specs.Values.{Config}
use Rattle.outstanding.specs.declared.ask.Path.{Path}
use Rattle.step_values.specs.declared.action.Why.{Why}
use Rattle.step_values.specs.declared.action.Why.TheVariants.{Deadline}
use Rattle.step_values.specs.declared.action.Action.{Action as OwnedAction}
use Rattle.step_values.specs.Values.{Action, action_of, actions_of}
use Rattle.trust_rank.specs.declared.slot.Slot.{Slot}
use Rattle.step_table.specs.State.{State, start}
use Rattle.waiting_questions.specs.Values.{Waiting, waits_for}
use Rattle.outstanding.specs.Lists.{on_path as ask_on, without_path}
use Rattle.outstanding.specs.Values.{Ask}
use Rattle.step_table.specs.Steps.{Done, Fate, gets, waits, reply_in, waiting_in, replies, still_waiting, closes, closing, closing_step, idle_step, ask_list, asks, gives_up, with_preferred_server, tcp_count, fails, with_promoted}
use Rattle.step_table.specs.Ticks.{expiry_step}
use Rattle.step_table.specs.Replies.{timeout_of, row_of_verdict, row_of_delivery, verdict_on}
use Rattle.step_table.specs.Failures.{with_stale_ttl, found_stale, runs_out}
use Rattle.record_cache.specs.Values.{Held}
use Rattle.step_actions.specs.StepTexts.Spelling.{Source}
use Rattle.reply_match.specs.Verdicts.{judge}
use Rattle.step_actions.specs.declared.decision.Preferred.{Preferred}
use Rattle.step_actions.specs.declared.decision.Change.TheVariants.{Close, SendOn, AskAgain, Expire}
use Rattle.step_actions.specs.declared.decision.Redirect.{Redirect}
use Rattle.reply_decisions.specs.Fates.{onward_of, AreFates}
use Rattle.reply_decisions.proofs.Becoming.{replies_are, waiting_are}
use Rattle.step_actions.specs.Decision.{left_waiting, with_preferred, without_closed, closed_path, closing_path, changed, gives_from, reply_from, left_or_sent, with_reply, with_replies}
use Rattle.step_table.proofs.CallerLemmas.{ask_on-is}

-- one more action
pub pushed : (A : Type 0) (owned : List (OwnedAction A)) (last : OwnedAction A) (actions : List Action) (action : Action) → actions_of owned ≡ actions → action_of last ≡ action → actions_of (owned ++ last ∷ []) ≡ actions ++ action ∷ []
pushed A [] last actions action are is = (λ i. is i ∷ []) ∙ ap (λ ys. ys ++ action ∷ []) are
pushed A (a ∷ owned) last actions action are is = ap (λ ys. action_of a ∷ ys) (pushed A owned last (actions_of owned) action refl is) ∙ ap (λ ys. ys ++ action ∷ []) are

-- ---- the decision, as done

-- an ask is listed on the path
pub listed_some : (path : Path) (asks : List Ask) (a : Ask) → ask_on path asks ≡ Some a → IsSome (ask_on path asks)
listed_some path asks a on = subst (λ (o : Option Ask). IsSome o) (sym on) refl

no_more : (n : ℕ) → n ≡ n + 0
no_more n = omega arith

-- ---- closing an ask

one_more : (v : Option Action) (actions rest : List Action) → with_reply actions v ++ rest ≡ actions ++ cons_option v rest
one_more None actions rest = refl
one_more (Some a) [] rest = refl
one_more (Some a) (b ∷ actions) rest = ap (λ ys. b ∷ ys) (one_more (Some a) actions rest)

pub with_replies-is : (fate : Waiting → Fate) (actions : List Action) (xs : List Waiting) → with_replies fate actions xs ≡ actions ++ replies (map fate xs)
with_replies-is fate actions [] = sym (append-nil actions)
with_replies-is fate actions (x ∷ xs) = with_replies-is fate (with_reply actions (reply_in (fate x))) xs ∙ one_more (reply_in (fate x)) actions (replies (map fate xs))

-- a fate that frees the questions waiting for q
abbrev pub Frees : Question → (Waiting → Fate) → Type 0
Frees q fate = (x : Waiting) → waiting_in (fate x) ≡ cond (waits_for q x) None (Some x)

freed_one : (t : Bool) (x : Waiting) (xs : List Waiting) → cons_option (cond t None (Some x)) xs ≡ cond (not t) (x ∷ xs) xs
freed_one true x xs = refl
freed_one false x xs = refl

left_by_filter : (q : Question) (fate : Waiting → Fate) → Frees q fate → (xs : List Waiting) → still_waiting (map fate xs) ≡ filter (λ x. not (waits_for q x)) xs
left_by_filter q fate frees [] = refl
left_by_filter q fate frees (x ∷ xs) =
    (λ i. cons_option (frees x i) (left_by_filter q fate frees xs i)) ∙ freed_one (waits_for q x) x (filter (λ y. not (waits_for q y)) xs)

always : (xs : List Ask) → AllByRecursion (λ a. Unit {0}) xs
always [] = tt
always (a ∷ xs) = (tt, always xs)

-- an ask is listed on its own path
pub on_own : (path : Path) (asks : List Ask) (a : Ask) → ask_on path asks ≡ Some a → ask_on a.path asks ≡ Some a
on_own path asks a on = ap (λ (p : Path). ask_on p asks) (ask_on-is (λ b. Unit {0}) path asks a on (always asks)).0 ∙ on

pub closed_is : (A : Type 0) (n : ℕ) (path : Path) (s : State) (a : Ask) (fate : Waiting → Fate) (preferred : Option Preferred) (actions : List Action) → ask_on path s.asks ≡ Some a → actions ≡ with_replies fate (closes a.path ∷ []) s.waiting → Frees a.question fate
    → record { actions = actions; unkept = 0; state = changed {A = A} n s (Close path preferred) } ≡ closing_step n a fate None (record s { preferred = with_preferred preferred s.preferred })
closed_is A n path s a fate preferred actions on told frees = λ i. record {
  actions = actions_are i;
  unkept = 0;
  state = record { cache = s.cache; asks = asks_are i; waiting = waiting_is i; preferred = with_preferred preferred s.preferred; moment = n; tcp_asks = no_more s.tcp_asks i };
}
  where
    path_is : a.path ≡ path
    path_is = (ask_on-is (λ b. Unit {0}) path s.asks a on (always s.asks)).0

    actions_are : actions ≡ closes a.path ∷ (replies (map fate s.waiting) ++ [])
    actions_are = told ∙ with_replies-is fate (closes a.path ∷ []) s.waiting ∙ ap (λ ys. closes a.path ∷ ys) (sym (append-nil (replies (map fate s.waiting))))

    asks_are : without_path path s.asks ≡ without_path a.path s.asks ++ []
    asks_are = ap (λ (p : Path). without_path p s.asks) (sym path_is) ∙ sym (append-nil (without_path a.path s.asks))

    waiting_is : left_waiting (ask_on path s.asks) s.waiting ≡ still_waiting (map fate s.waiting)
    waiting_is = ap (λ (r : Option Ask). left_waiting r s.waiting) on ∙ sym (left_by_filter a.question fate frees s.waiting)

one_fate : (t : Bool) (a : Action) (x : Waiting) → waiting_in (cond t (gets a) (waits x)) ≡ cond t None (Some x)
one_fate true a x = refl
one_fate false a x = refl

pub fails_frees : (why : Why) (q : Question) → Frees q (fails why q)
fails_frees why q = λ x. one_fate (waits_for q x) (gives_up why x) x

pub lasts_frees : (c : Config) (n : ℕ) (entries : List Held) (q : Question) → Frees q (runs_out c n entries q)
lasts_frees c n entries q = λ x. one_fate (waits_for q x) (with_stale_ttl n x (found_stale c n entries x)) x

pub given_frees : (d : Source) (q : Question) → Frees q (gives_from d q)
given_frees d q = λ x. one_fate (waits_for q x) (reply_from d x) x

-- ---- the questions waiting for an ask are sent on

pub sending_row : (A : Type 0) (n : ℕ) (s : State) (a : Ask) (fate : Waiting → Fate) (each : List Fate) (next : Option Ask) (used : List Slot) (boxed : Box (Redirect A) A) (actions : List Action) → ask_on a.path s.asks ≡ Some a → AreFates a.question fate s.waiting each
    → boxed.value.path ≡ a.path → boxed.value.preferred.route ≡ a.route → boxed.value.preferred.server ≡ a.server → boxed.value.onward.items ≡ map onward_of each → boxed.value.ask ≡ next
    → actions ≡ closes a.path ∷ (replies each ++ map asks (ask_list next))
    → record { actions = actions; unkept = 0; state = changed {A = A} n (with_promoted used s) (SendOn boxed) } ≡ closing_step n a fate next (with_promoted used (with_preferred_server a s))
sending_row A n s a fate each next used boxed actions on become path route server onward ask told = λ i. record {
  actions = actions_are i;
  unkept = 0;
  state = record {
    cache = (with_promoted used s).cache;
    asks = without_path (path i) s.asks ++ ask_list (ask i);
    waiting = waiting_is i;
    preferred = slice_set s.preferred (route i) (server i);
    moment = n;
    tcp_asks = s.tcp_asks + tcp_count (ask i);
  };
}
  where
    actions_are : actions ≡ closes a.path ∷ (replies (map fate s.waiting) ++ map asks (ask_list next))
    actions_are = told ∙ ap (λ (ys : List Action). closes a.path ∷ (ys ++ map asks (ask_list next))) (sym (replies_are a.question fate s.waiting each become))

    waiting_is : left_or_sent (ask_on boxed.value.path s.asks) boxed.value.onward.items s.waiting ≡ still_waiting (map fate s.waiting)
    waiting_is = (λ i. left_or_sent (ask_on (path i) s.asks) (onward i) s.waiting)
        ∙ ap (λ (r : Option Ask). left_or_sent r (map onward_of each) s.waiting) on
        ∙ waiting_are a.question fate s.waiting each become

-- ---- an ask after another

all_silent : (xs : List Waiting) → replies (map (λ x. waits x) xs) ≡ []
all_silent [] = refl
all_silent (x ∷ xs) = all_silent xs

all_wait : (xs : List Waiting) → still_waiting (map (λ x. waits x) xs) ≡ xs
all_wait [] = refl
all_wait (x ∷ xs) = ap (λ ys. x ∷ ys) (all_wait xs)

pub again_is : (n : ℕ) (path : Path) (s : State) (a next : Ask) → ask_on path s.asks ≡ Some a
    → (after : State) → after ≡ record s { asks = without_path path s.asks ++ next ∷ []; moment = n; tcp_asks = s.tcp_asks + Rattle.step_table.specs.Steps.tcp_count (Some next) }
    → record { actions = closes a.path ∷ asks next ∷ []; unkept = 0; state = after } ≡ closing_step n a (λ x. waits x) (Some next) s
again_is n path s a next on after is = λ i. record { actions = closes a.path ∷ (sym (all_silent s.waiting) i ++ asks next ∷ []); unkept = 0; state = after_is i }
  where
    path_is : a.path ≡ path
    path_is = (ask_on-is (λ b. Unit {0}) path s.asks a on (always s.asks)).0

    after_is : after ≡ (closing_step n a (λ x. waits x) (Some next) s).state
    after_is = is ∙ (λ i. record { cache = s.cache; asks = without_path (sym path_is i) s.asks ++ next ∷ []; waiting = sym (all_wait s.waiting) i; preferred = s.preferred; moment = n; tcp_asks = s.tcp_asks + Rattle.step_table.specs.Steps.tcp_count (Some next) })

pub again_row : (A : Type 0) (n : ℕ) (path : Path) (s : State) (a next : Ask) (boxed : Box Ask A) (actions : List Action) → ask_on path s.asks ≡ Some a → boxed.value ≡ next → actions ≡ closes a.path ∷ asks next ∷ []
    → record { actions = actions; unkept = 0; state = changed {A = A} n s (AskAgain path boxed) } ≡ closing_step n a (λ x. waits x) (Some next) s
again_row A n path s a next boxed actions on is told =
    (λ i. record { actions = told i; unkept = 0; state = changed {A = A} n s (AskAgain path boxed) })
    ∙ again_is n path s a next on (changed {A = A} n s (AskAgain path boxed)) (λ i. record s { asks = without_path path s.asks ++ is i ∷ []; moment = n; tcp_asks = s.tcp_asks + Rattle.step_table.specs.Steps.tcp_count (Some (is i)) })

-- ---- a waiting question, and a freed question

pub expired_is : (A : Type 0) (n : ℕ) (s : State) (x : Waiting) (others : List Waiting) (alone : Option Ask) → s.waiting ≡ x ∷ others
    → record { actions = closing alone ++ gives_up Deadline x ∷ []; unkept = 0; state = changed {A = A} n s (Expire (closed_path alone)) } ≡ expiry_step n x others alone s
expired_is A n s x others alone first = λ i. record {
  actions = closing alone ++ (gives_up Deadline x ∷ (sym (all_silent others) i ++ []));
  unkept = 0;
  state = record { cache = s.cache; asks = asks_are alone i; waiting = waiting_is i; preferred = s.preferred; moment = n; tcp_asks = no_more s.tcp_asks i };
}
  where
    asks_are : (o : Option Ask) → without_closed (closed_path o) s.asks ≡ Rattle.step_table.specs.Steps.without_ask o s.asks ++ []
    asks_are None = sym (append-nil s.asks)
    asks_are (Some a) = sym (append-nil (without_path a.path s.asks))

    waiting_is : drop 1 s.waiting ≡ still_waiting (map (λ y. waits y) others)
    waiting_is = ap (drop 1) first ∙ sym (all_wait others)

closing_is : (alone : Option Ask) → closing_path (closed_path alone) ≡ closing alone
closing_is None = refl
closing_is (Some a) = refl

pub expired_row : (A : Type 0) (n : ℕ) (s : State) (x : Waiting) (others : List Waiting) (alone : Option Ask) (closed : Option Path) (actions : List Action) → s.waiting ≡ x ∷ others → closed ≡ closed_path alone → actions ≡ closing_path closed ++ gives_up Deadline x ∷ []
    → record { actions = actions; unkept = 0; state = changed {A = A} n s (Expire closed) } ≡ expiry_step n x others alone s
expired_row A n s x others alone closed actions first is told = (λ i. record { actions = are i; unkept = 0; state = changed {A = A} n s (Expire (is i)) }) ∙ expired_is A n s x others alone first
  where
    are : actions ≡ closing alone ++ gives_up Deadline x ∷ []
    are = told ∙ ap (λ (p : Option Path). closing_path p ++ gives_up Deadline x ∷ []) is ∙ ap (λ (ys : List Action). ys ++ gives_up Deadline x ∷ []) (closing_is alone)

-- ---- a delivery

pub idle_unlisted : (c : Config) (n : ℕ) (words : List ℕ) (rooms : List Bool) (from : Peer) (octets : List ℕ) (s : State) (r : Option Ask) (d : Done) → r ≡ None → d ≡ idle_step n s → d ≡ row_of_delivery (start c n words s) rooms from octets r
idle_unlisted c n words rooms from octets s r d none is = is ∙ sym (ap (row_of_delivery (start c n words s) rooms from octets) none)

pub idle_late : (c : Config) (n : ℕ) (words : List ℕ) (rooms : List Bool) (from : Peer) (octets : List ℕ) (s : State) (r : Option Ask) (a : Ask) (d : Done) → r ≡ Some a → nat_lt n (timeout_of c a) ≡ false → d ≡ idle_step n s → d ≡ row_of_delivery (start c n words s) rooms from octets r
idle_late c n words rooms from octets s r a d on late is = is ∙ sym (ap (row_of_delivery (start c n words s) rooms from octets) on ∙ cond-false (nat_lt n (timeout_of c a)) _ _ late)

pub judged_is : (c : Config) (n : ℕ) (words : List ℕ) (rooms : List Bool) (from : Peer) (octets : List ℕ) (s : State) (r : Option Ask) (a : Ask) (d : Done) → r ≡ Some a → nat_lt n (timeout_of c a) ≡ true → d ≡ row_of_verdict (start c n words s) rooms a octets (judge a from octets) → d ≡ row_of_delivery (start c n words s) rooms from octets r
judged_is c n words rooms from octets s r a d on live is = is ∙ sym (ap (row_of_delivery (start c n words s) rooms from octets) on ∙ cond-true (nat_lt n (timeout_of c a)) _ _ live)

pub verdict_is : (c : Config) (n : ℕ) (from : Peer) (octets : List ℕ) (r : Option Ask) (a : Ask) → r ≡ Some a → nat_lt n (timeout_of c a) ≡ true → verdict_on c n from octets r ≡ judge a from octets
verdict_is c n from octets r a on live = ap (verdict_on c n from octets) on ∙ cond-true (nat_lt n (timeout_of c a)) _ _ live
