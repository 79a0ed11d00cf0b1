-- A forwarder's invariant holds after each change.
use Rattle.std.proofs.Common.{Vec, ◌≡◌, ℕ, ◌+◌, ◌^◌, ◌<◌, ◌≤◌, List, [], ◌∷◌, ◌++◌, length, Bool, true, false, cond, refl, sym, ap, ◌∙◌, subst, arith, Option, Some, None}
use Rattle.std.specs.Prelude.{filter, not, drop, Result, Ok, Err}
use Rattle.std.specs.declared.alloc.AllocError.{AllocError}
use Rattle.std.specs.List.{cons_option, AllByRecursion}
use Rattle.std.specs.Option.{IfSome}
use Rattle.std.proofs.lemmas.List.{length-append, length-set, with_items_is, append-nil}
use Rattle.std.specs.Vec.{with_items}
use Rattle.std.proofs.lemmas.Bool.{cond_both}
use Rattle.suffix_routes.specs.Values.{Config, Route}
use Rattle.outstanding.specs.declared.ask.Path.{Path}
use Rattle.outstanding.specs.declared.ask.Path.TheVariants.{Udp, Tcp}
use Rattle.outstanding.specs.Lists.{on_path as ask_on, without_path, AreListed, MayBegin}
use Rattle.outstanding.specs.Values.{Ask, Inquiries}
use Rattle.step_texts.specs.StepTable.State.{State}
use Rattle.step_texts.specs.WaitingQuestions.Values.{Waiting, waits_for}
use Rattle.step_texts.specs.StepTable.Attempts.{servers_in}
use Rattle.step_texts.specs.StepTable.Steps.{ask_list, tcp_count}
use Rattle.record_cache.specs.Values.{Cache}
use Rattle.step_texts.specs.StepTable.Progress.{AreTakenInTurn, IsBelow}
use Rattle.step_texts.proofs.StepTable.CallerLemmas.{All-append, All-filter, All-weaker, preferred_put}
use Rattle.step_actions.specs.declared.decision.Preferred.{Preferred}
use Rattle.step_actions.specs.Kept.{IsKeptAsk, HoldsEarlier, IsKeptForwarder}
use Rattle.step_actions.specs.declared.decision.Change.{Change}
use Rattle.step_actions.specs.declared.decision.Change.TheVariants.{Nothing, Join, Open, Close, SendOn, AskAgain, Expire}
use Rattle.step_actions.specs.declared.kept.Kept.{Kept}
use Rattle.step_actions.specs.Decision.{left_waiting, left_or_sent, with_preferred, without_closed, tcp_count_of, changed, FitsChange, IfFollows, IsSentEarlier, IsServed}
use Rattle.step_actions.specs.Putting.{state_of, IsKept, IsPut}
use Rattle.step_texts.specs.WaitingQuestions.Onward.{Onward, redirected}
use Rattle.step_texts.specs.WaitingQuestions.Settling.{left_by, settled}
use Rattle.dns_message.specs.Values.{Question}
use Rattle.step_actions.proofs.Later.{later_entries, later_held, later_taken, kept_rest, kept_without}

-- ---- asks, later

below_more : (k j : ℕ) (p : Path) → IsBelow k p → IsBelow (k + j) p
below_more k j (Udp port) h = tt
below_more k j (Tcp conn) h = let lt : conn < k = h in omega (arith, lt)

later_asks : (c : Config) (m n k j : ℕ) (asks : List Ask) → m ≤ n → AllByRecursion (IsKeptAsk c m k) asks → AllByRecursion (IsKeptAsk c n (k + j)) asks
later_asks c m n k j asks le all = All-weaker (IsKeptAsk c m k) (IsKeptAsk c n (k + j)) (λ a h. record { earlier = let e = h.earlier in omega (arith, e, le); on_route = h.on_route; server = h.server; tries = h.tries; path = below_more k j a.path h.path }) asks all

later_same : (c : Config) (m n k : ℕ) (asks : List Ask) → m ≤ n → AllByRecursion (IsKeptAsk c m k) asks → AllByRecursion (IsKeptAsk c n k) asks
later_same c m n k asks le all = All-weaker (IsKeptAsk c m k) (IsKeptAsk c n k) (λ a h. record { earlier = let e = h.earlier in omega (arith, e, le); on_route = h.on_route; server = h.server; tries = h.tries; path = h.path }) asks all

-- ---- questions, later

in_turn_put : (m : ℕ) (xs : List Waiting) (y : Waiting) → AreTakenInTurn xs → AllByRecursion (λ x. x.taken ≤ m) xs → m ≤ y.taken → AreTakenInTurn (xs ++ y ∷ [])
in_turn_put m [] y start all le = (tt, tt)
in_turn_put m (x ∷ xs) y start all le =
    (All-append (λ (z : Waiting). x.taken ≤ z.taken) xs (y ∷ []) start.0 (let at : x.taken ≤ m = all.0 in omega (arith, at, le), tt), in_turn_put m xs y start.1 all.1 le)

in_turn_left : (test : Waiting → Bool) (xs : List Waiting) → AreTakenInTurn xs → AreTakenInTurn (filter test xs)
in_turn_left test [] start = tt
in_turn_left test (x ∷ xs) start = elim (test x) as (λ v. AreTakenInTurn (cond v (x ∷ filter test xs) (filter test xs))) [
  | true ↦ (All-filter (λ (y : Waiting). x.taken ≤ y.taken) test xs start.0, in_turn_left test xs start.1)
  | false ↦ in_turn_left test xs start.1
]

fewer : {X : Type 0} (test : X → Bool) (xs : List X) → length (filter test xs) ≤ length xs
fewer test [] = omega arith
fewer test (x ∷ xs) = cond_both (test x) (x ∷ filter test xs) (filter test xs) (λ ys. length ys ≤ length (x ∷ xs)) (λ _. let rest = fewer test xs in omega (arith, rest)) (λ _. let rest = fewer test xs in omega (arith, rest))

-- ---- changes

pub kept_later : (c : Config) (e : Cache) (i : Inquiries) (ws : List Waiting) (ps : List ℕ) (m n k : ℕ) → IsKeptForwarder c e i ws ps m k → m ≤ n → n ≤ 2 ^ 62 → IsKeptForwarder c e i ws ps n k
kept_later c e i ws ps m n k kept le small = record {
  config = kept.config;
  cache = kept.cache;
  accepted = later_entries m n e.entries le kept.accepted;
  capacity = kept.capacity;
  listed = kept.listed;
  asks = later_same c m n k i.asks le kept.asks;
  few = kept.few;
  by_arrival = kept.by_arrival;
  taken = later_taken m n ws le kept.taken;
  aliases = later_held m n ws le kept.aliases;
  places = kept.places;
  in_time = small;
  counted = kept.counted;
}

-- one more question
pub kept_joined : (c : Config) (e : Cache) (i : Inquiries) (ws ws' : List Waiting) (ps : List ℕ) (m n k : ℕ) (x : Waiting) → IsKeptForwarder c e i ws ps m k → m ≤ n → n ≤ 2 ^ 62 → length ws < c.limits.questions → x.taken ≡ n → HoldsEarlier n x → ws' ≡ ws ++ x ∷ [] → IsKeptForwarder c e i ws' ps n k
kept_joined c e i ws ws' ps m n k x kept le small room at earlier is = subst (λ (xs : List Waiting). IsKeptForwarder c e i xs ps n k) (sym is) (record {
  config = kept.config;
  cache = kept.cache;
  accepted = later_entries m n e.entries le kept.accepted;
  capacity = kept.capacity;
  listed = kept.listed;
  asks = later_same c m n k i.asks le kept.asks;
  few = let longer = length-append ws (x ∷ []) in omega (arith, longer, room);
  by_arrival = in_turn_put m ws x kept.by_arrival kept.taken (omega (arith, at, le));
  taken = All-append (λ (y : Waiting). y.taken ≤ n) ws (x ∷ []) (later_taken m n ws le kept.taken) (omega (arith, at), tt);
  aliases = All-append (HoldsEarlier n) ws (x ∷ []) (later_held m n ws le kept.aliases) (earlier, tt);
  places = kept.places;
  in_time = small;
  counted = kept.counted;
})

-- one more ask
pub kept_asked : (c : Config) (e : Cache) (i i' : Inquiries) (ws : List Waiting) (ps : List ℕ) (m n k j : ℕ) (listed : List Ask) (a : Ask) → IsKeptForwarder c e i ws ps m k → m ≤ n → n ≤ 2 ^ 62 → AllByRecursion (IsKeptAsk c m k) listed → IsKeptAsk c n (k + j) a → k + j < 2 ^ 64
    → i' ≡ record i { asks = listed ++ a ∷ [] } → AreListed i' → IsKeptForwarder c e i' ws ps n (k + j)
kept_asked c e i i' ws ps m n k j listed a kept le small all one fits is are = subst (λ (q : Inquiries). IsKeptForwarder c e q ws ps n (k + j)) (sym is) (record {
  config = kept.config;
  cache = kept.cache;
  accepted = later_entries m n e.entries le kept.accepted;
  capacity = kept.capacity;
  listed = subst AreListed is are;
  asks = All-append (IsKeptAsk c n (k + j)) listed (a ∷ []) (later_asks c m n k j listed le all) (one, tt);
  few = kept.few;
  by_arrival = kept.by_arrival;
  taken = later_taken m n ws le kept.taken;
  aliases = later_held m n ws le kept.aliases;
  places = kept.places;
  in_time = small;
  counted = fits;
})

-- fewer questions
pub kept_left : (c : Config) (e : Cache) (i : Inquiries) (ws ws' : List Waiting) (ps : List ℕ) (m k : ℕ) (r : Option Ask) → IsKeptForwarder c e i ws ps m k → ws' ≡ left_waiting r ws → IsKeptForwarder c e i ws' ps m k
kept_left c e i ws ws' ps m k r kept is = subst (λ (xs : List Waiting). IsKeptForwarder c e i xs ps m k) (sym is) (by r)
  where
    by : (o : Option Ask) → IsKeptForwarder c e i (left_waiting o ws) ps m k
    by None = kept
    by (Some a) = record {
      config = kept.config;
      cache = kept.cache;
      accepted = kept.accepted;
      capacity = kept.capacity;
      listed = kept.listed;
      asks = kept.asks;
      few = let less = fewer (λ (x : Waiting). not (waits_for a.question x)) ws in let few = kept.few in omega (arith, less, few);
      by_arrival = in_turn_left (λ x. not (waits_for a.question x)) ws kept.by_arrival;
      taken = All-filter (λ (x : Waiting). x.taken ≤ m) (λ x. not (waits_for a.question x)) ws kept.taken;
      aliases = All-filter (HoldsEarlier m) (λ x. not (waits_for a.question x)) ws kept.aliases;
      places = kept.places;
      in_time = kept.in_time;
      counted = kept.counted;
    }

-- ---- questions sent on

any_fate : (fates : List (Option Onward)) → AllByRecursion (λ o. Unit {0}) fates
any_fate [] = tt
any_fate (fate ∷ fates) = (tt, any_fate fates)

-- a fate keeps a property of a question, if sending on does
one_settled : (P : Waiting → Type 0) (Fits : Option Onward → Type 0) → ((s : Onward) (x : Waiting) → Fits (Some s) → P x → P (redirected s x)) → (x : Waiting) (rest : List Waiting) → P x → AllByRecursion P rest
    → (o : Option Onward) → Fits o → AllByRecursion P (cons_option (left_by o x) rest)
one_settled P Fits still x rest was all None h = all
one_settled P Fits still x rest was all (Some s) h = (still s x h was, all)

-- fates keep a property of all questions, if sending on does
all_settled : (P : Waiting → Type 0) (Fits : Option Onward → Type 0) → ((s : Onward) (x : Waiting) → Fits (Some s) → P x → P (redirected s x)) → (q : Question) (fates : List (Option Onward)) (xs : List Waiting)
    → AllByRecursion Fits fates → AllByRecursion P xs → AllByRecursion P (settled q fates xs)
all_settled P Fits still q fates [] fit all = tt
all_settled P Fits still q [] (x ∷ xs) fit all = all
all_settled P Fits still q (fate ∷ fates) (x ∷ xs) fit all =
    cond_both (waits_for q x) (cons_option (left_by fate x) (settled q fates xs)) (x ∷ settled q (fate ∷ fates) xs) (AllByRecursion P)
    (λ _. one_settled P Fits still x (settled q fates xs) all.0 (all_settled P Fits still q fates xs fit.1 all.1) fate fit.0) (λ _. (all.0, all_settled P Fits still q (fate ∷ fates) xs fit all.1))

-- sending on keeps the moment of taking
same_taken : (P : ℕ → Type 0) (q : Question) (fates : List (Option Onward)) (xs : List Waiting) → AllByRecursion (λ x. P x.taken) xs → AllByRecursion (λ x. P x.taken) (settled q fates xs)
same_taken P q fates xs all = all_settled (λ (x : Waiting). P x.taken) (λ o. Unit {0}) (λ s x any h. h) q fates xs (any_fate fates) all

one_in_turn : (x : Waiting) (rest : List Waiting) → AllByRecursion (λ y. x.taken ≤ y.taken) rest → AreTakenInTurn rest → (o : Option Onward) → AreTakenInTurn (cons_option (left_by o x) rest)
one_in_turn x rest after start None = start
one_in_turn x rest after start (Some s) = (after, start)

in_turn_settled : (q : Question) (fates : List (Option Onward)) (xs : List Waiting) → AreTakenInTurn xs → AreTakenInTurn (settled q fates xs)
in_turn_settled q fates [] start = tt
in_turn_settled q [] (x ∷ xs) start = start
in_turn_settled q (fate ∷ fates) (x ∷ xs) start =
    cond_both (waits_for q x) (cons_option (left_by fate x) (settled q fates xs)) (x ∷ settled q (fate ∷ fates) xs) AreTakenInTurn
    (λ _. one_in_turn x (settled q fates xs) (same_taken (λ t. x.taken ≤ t) q fates xs start.0) (in_turn_settled q fates xs start.1) fate)
    (λ _. (same_taken (λ t. x.taken ≤ t) q (fate ∷ fates) xs start.0, in_turn_settled q (fate ∷ fates) xs start.1))

one_no_more : (x : Waiting) (rest xs : List Waiting) → length rest ≤ length xs → (o : Option Onward) → length (cons_option (left_by o x) rest) ≤ length (x ∷ xs)
one_no_more x rest xs less None = omega (arith, less)
one_no_more x rest xs less (Some s) = omega (arith, less)

no_more_settled : (q : Question) (fates : List (Option Onward)) (xs : List Waiting) → length (settled q fates xs) ≤ length xs
no_more_settled q fates [] = omega arith
no_more_settled q [] (x ∷ xs) = omega arith
no_more_settled q (fate ∷ fates) (x ∷ xs) =
    cond_both (waits_for q x) (cons_option (left_by fate x) (settled q fates xs)) (x ∷ settled q (fate ∷ fates) xs) (λ ys. length ys ≤ length (x ∷ xs))
    (λ _. one_no_more x (settled q fates xs) xs (no_more_settled q fates xs) fate) (λ _. let rest = no_more_settled q (fate ∷ fates) xs in omega (arith, rest))

-- questions are sent on
pub kept_sent : (c : Config) (e : Cache) (i : Inquiries) (ws ws' : List Waiting) (ps : List ℕ) (m k : ℕ) (r : Option Ask) (onward : List (Option Onward)) → IsKeptForwarder c e i ws ps m k → AllByRecursion (IsSentEarlier m) onward → ws' ≡ left_or_sent r onward ws → IsKeptForwarder c e i ws' ps m k
kept_sent c e i ws ws' ps m k r onward kept earlier is = subst (λ (xs : List Waiting). IsKeptForwarder c e i xs ps m k) (sym is) (by r)
  where
    by : (o : Option Ask) → IsKeptForwarder c e i (left_or_sent o onward ws) ps m k
    by None = kept
    by (Some a) = record {
      config = kept.config;
      cache = kept.cache;
      accepted = kept.accepted;
      capacity = kept.capacity;
      listed = kept.listed;
      asks = kept.asks;
      few = let less = no_more_settled a.question onward ws in let few = kept.few in omega (arith, less, few);
      by_arrival = in_turn_settled a.question onward ws kept.by_arrival;
      taken = same_taken (λ t. t ≤ m) a.question onward ws kept.taken;
      aliases = all_settled (HoldsEarlier m) (IsSentEarlier m) (λ s x h was. h) a.question onward ws earlier kept.aliases;
      places = kept.places;
      in_time = kept.in_time;
      counted = kept.counted;
    }

-- the ask on a path is closed, and another is listed, if any
pub kept_next : (c : Config) (e : Cache) (i i' : Inquiries) (ws : List Waiting) (ps : List ℕ) (m n k : ℕ) (path : Path) (s : State) (listed : List Ask) (next : Option Ask) → IsKeptForwarder c e i ws ps m k → m ≤ n → n ≤ 2 ^ 62 → s.tcp_asks ≡ k → IfFollows c n s listed next
    → i' ≡ record i { asks = without_path path i.asks ++ ask_list next } → AreListed i' → IsKeptForwarder c e i' ws ps n (k + tcp_count next)
kept_next c e i i' ws ps m n k path s listed None kept le small same follows is are =
    let later = kept_later c e i ws ps m n k kept le small in
    let fewer = kept_without c e i i' ws ps n k (Some path) later (is ∙ (λ j. record i { asks = append-nil (without_path path i.asks) j })) in
    let count : k ≡ k + 0 = omega arith in
    subst (λ (j : ℕ). IsKeptForwarder c e i' ws ps n j) count fewer
kept_next c e i i' ws ps m n k path s listed (Some a) kept le small same follows is are =
    kept_asked c e i i' ws ps m n k (tcp_count (Some a)) (without_path path i.asks) a kept le small (kept_rest c m k path i.asks kept.asks)
    (subst (λ (j : ℕ). IsKeptAsk c n (j + tcp_count (Some a)) a) same follows.kept)
    (subst (λ (j : ℕ). j + tcp_count (Some a) < 2 ^ 64) same follows.counted)
    is are

-- the next ask, if any, may be counted and may begin
pub next_counted : (c : Config) (n : ℕ) (s : State) (listed : List Ask) (next : Option Ask) → s.tcp_asks < 2 ^ 64 → IfFollows c n s listed next → s.tcp_asks + tcp_count next < 2 ^ 64
next_counted c n s listed None low follows = omega (arith, low)
next_counted c n s listed (Some a) low follows = follows.counted

pub next_begins : (c : Config) (n : ℕ) (s : State) (listed : List Ask) (next : Option Ask) → IfFollows c n s listed next → IfSome next (λ a. MayBegin a listed)
next_begins c n s listed None follows = tt
next_begins c n s listed (Some a) follows = follows.begins

pub kept_dropped : (c : Config) (e : Cache) (i : Inquiries) (ws ws' : List Waiting) (ps : List ℕ) (m k : ℕ) → IsKeptForwarder c e i ws ps m k → ws' ≡ drop 1 ws → IsKeptForwarder c e i ws' ps m k
kept_dropped c e i [] ws' ps m k kept is = subst (λ (xs : List Waiting). IsKeptForwarder c e i xs ps m k) (sym is) kept
kept_dropped c e i (x ∷ ws) ws' ps m k kept is = subst (λ (xs : List Waiting). IsKeptForwarder c e i xs ps m k) (sym is) (record {
  config = kept.config;
  cache = kept.cache;
  accepted = kept.accepted;
  capacity = kept.capacity;
  listed = kept.listed;
  asks = kept.asks;
  few = let few = kept.few in omega (arith, few);
  by_arrival = kept.by_arrival.1;
  taken = kept.taken.1;
  aliases = kept.aliases.1;
  places = kept.places;
  in_time = kept.in_time;
  counted = kept.counted;
})

-- another server is preferred
pub kept_preferred : (c : Config) (e : Cache) (i : Inquiries) (ws : List Waiting) (ps ps' : List ℕ) (m k : ℕ) (preferred : Option Preferred) → IsKeptForwarder c e i ws ps m k → IsServed c preferred → ps' ≡ with_preferred preferred ps → IsKeptForwarder c e i ws ps' m k
kept_preferred c e i ws ps ps' m k preferred kept served is = subst (λ (qs : List ℕ). IsKeptForwarder c e i ws qs m k) (sym is) (by preferred served)
  where
    by : (o : Option Preferred) → IsServed c o → IsKeptForwarder c e i ws (with_preferred o ps) m k
    by None h = kept
    by (Some p) h = record {
      config = kept.config;
      cache = kept.cache;
      accepted = kept.accepted;
      capacity = kept.capacity;
      listed = kept.listed;
      asks = kept.asks;
      few = kept.few;
      by_arrival = kept.by_arrival;
      taken = kept.taken;
      aliases = kept.aliases;
      places = preferred_put c.routes ps p.route p.server kept.places (λ r there. subst (λ (o : Option Route). p.server < length (servers_in o)) there h);
      in_time = kept.in_time;
      counted = kept.counted;
    }

-- ---- places

pub preferred_length : (o : Option Preferred) (ps : List ℕ) → length (with_preferred o ps) ≡ length ps
preferred_length None ps = refl
preferred_length (Some p) ps = length-set ps p.route p.server

-- as many elements, put back into the vector
pub put_back : {Z : Type 0} (v : Vec ℕ Z) (ws ws' : List ℕ) → ws ≡ ws' → length ws' ≡ length v.items → (with_items v ws).items ≡ ws'
put_back v ws ws' is same = with_items_is v ws (ap (λ (xs : List ℕ). length xs) is ∙ same ∙ sym v.ok.0) ∙ is

-- ---- any change

-- a forwarder's invariant for a state, with room for this many asks
abbrev KeptIn : Config → ℕ → State → Type 0
KeptIn c room s = IsKeptForwarder c s.cache (record { capacity = room; asks = s.asks }) s.waiting s.preferred s.moment s.tcp_asks

-- the invariant holds after a fitting change
changed_kept : {A : Type 0} (c : Config) (n room : ℕ) (s : State) (change : Change A) → KeptIn c room s → s.moment ≤ n → n ≤ 2 ^ 62 → FitsChange c n s change → AreListed (record { capacity = room; asks = (changed n s change).asks }) → KeptIn c room (changed n s change)
changed_kept c n room s Nothing kept le small fits are = kept_later c s.cache _ s.waiting s.preferred s.moment n s.tcp_asks kept le small
changed_kept c n room s (Join b) kept le small fits are = kept_joined c s.cache _ s.waiting _ s.preferred s.moment n s.tcp_asks b.value kept le small fits.room fits.taken fits.aliases refl
changed_kept c n room s (Open b) kept le small fits are =
    let joined = kept_joined c s.cache _ s.waiting (s.waiting ++ b.value.waiting ∷ []) s.preferred s.moment n s.tcp_asks b.value.waiting kept le small fits.0.room fits.0.taken fits.0.aliases refl in
    kept_asked c s.cache (record { capacity = room; asks = s.asks }) _ (s.waiting ++ b.value.waiting ∷ []) s.preferred n n s.tcp_asks (tcp_count_of b.value.ask.path) s.asks b.value.ask joined (omega arith) small joined.asks fits.1.kept fits.1.counted refl are
changed_kept c n room s (Close path preferred) kept le small fits are =
    let listed : Inquiries = record { capacity = room; asks = without_path path s.asks } in
    let left = left_waiting (ask_on path s.asks) s.waiting in
    let asks = kept_without c s.cache (record { capacity = room; asks = s.asks }) listed s.waiting s.preferred s.moment s.tcp_asks (Some path) kept refl in
    let waiting = kept_left c s.cache listed s.waiting left s.preferred s.moment s.tcp_asks (ask_on path s.asks) asks refl in
    let places = kept_preferred c s.cache listed left s.preferred (with_preferred preferred s.preferred) s.moment s.tcp_asks preferred waiting fits refl in
    kept_later c s.cache listed left (with_preferred preferred s.preferred) s.moment n s.tcp_asks places le small
changed_kept c n room s (SendOn b) kept le small fits are =
    let listed : Inquiries = record { capacity = room; asks = s.asks } in
    let left = left_or_sent (ask_on b.value.path s.asks) b.value.onward.items s.waiting in
    let moment = kept_later c s.cache listed s.waiting s.preferred s.moment n s.tcp_asks kept le small in
    let waiting = kept_sent c s.cache listed s.waiting left s.preferred n s.tcp_asks (ask_on b.value.path s.asks) b.value.onward.items moment fits.earlier refl in
    let places = kept_preferred c s.cache listed left s.preferred (with_preferred (Some b.value.preferred) s.preferred) n s.tcp_asks (Some b.value.preferred) waiting fits.served refl in
    kept_next c s.cache listed _ left (with_preferred (Some b.value.preferred) s.preferred) n n s.tcp_asks b.value.path s _ b.value.ask places (omega arith) small refl fits.follows refl are
changed_kept c n room s (AskAgain path b) kept le small fits are =
    kept_asked c s.cache (record { capacity = room; asks = s.asks }) _ s.waiting s.preferred s.moment n s.tcp_asks (tcp_count_of b.value.path) (without_path path s.asks) b.value kept le small (kept_rest c s.moment s.tcp_asks path s.asks kept.asks) fits.1.kept fits.1.counted refl are
changed_kept c n room s (Expire closed) kept le small fits are =
    let listed : Inquiries = record { capacity = room; asks = without_closed closed s.asks } in
    let asks = kept_without c s.cache (record { capacity = room; asks = s.asks }) listed s.waiting s.preferred s.moment s.tcp_asks closed kept refl in
    let waiting = kept_dropped c s.cache listed s.waiting (drop 1 s.waiting) s.preferred s.moment s.tcp_asks asks refl in
    kept_later c s.cache listed (drop 1 s.waiting) s.preferred s.moment n s.tcp_asks waiting le small

-- the invariant holds of the changed values
pub kept_put : {H A S : Type 0} (c : Config) (n : ℕ) (before after : Kept H A S) (change : Change A) (result : Result (Unit {0}) AllocError) → IsKept c before → before.moment ≤ n → n ≤ 2 ^ 62 → FitsChange c n (state_of before) change
    → IsPut n before change result after → IsKept c after
kept_put {H} {A} {S} c n before after change (Ok done) kept le small fits put =
    let are : AreListed (record { capacity = before.inquiries.capacity; asks = (changed n (state_of before) change).asks }) =
    subst (λ (room : ℕ). AreListed (record { capacity = room; asks = (changed n (state_of before) change).asks })) put.capacity
    (subst (λ (s : State). AreListed (record { capacity = after.inquiries.capacity; asks = s.asks })) put.ok put.listed) in
    subst (λ (room : ℕ). KeptIn c room (state_of after)) (sym put.capacity)
    (subst (KeptIn c before.inquiries.capacity) (sym put.ok) (changed_kept c n before.inquiries.capacity (state_of before) change kept le small fits are))
kept_put {H} {A} {S} c n before after change (Err refused) kept le small fits put =
    subst (λ (room : ℕ). KeptIn c room (state_of after)) (sym put.capacity)
    (subst (KeptIn c before.inquiries.capacity) (sym put.err) kept)
