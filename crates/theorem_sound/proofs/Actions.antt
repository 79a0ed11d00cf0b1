-- The actions of a step in the history: owners of replies, listed asks, asks by TCP, closed paths,
-- right asks.
use Rattle.std.proofs.Common.{◌≡◌, ℕ, List, [], ◌∷◌, ◌++◌, Bool, true, false, cond, refl, sym, ap, ◌∙◌, inl, inr, arith, Option, Some, None}
use Rattle.std.specs.Prelude.{map, not, ◌==◌, ◌||◌}
use Rattle.std.specs.List.{cons_option, AllByRecursion}
use Rattle.std.proofs.lemmas.List.{map-append, append-nil}
use Rattle.std.proofs.lemmas.Bool.{ne_eqb, false≢true, eq-eqb}
use Rattle.dns_message.specs.Writing.{written}
use Rattle.suffix_routes.specs.Values.{Config}
use Rattle.step_values.specs.declared.event.Client.{Client}
use Rattle.outstanding.specs.declared.ask.Path.{Path}
use Rattle.outstanding.specs.declared.ask.Path.TheVariants.{Udp, Tcp}
use Rattle.outstanding.specs.Lists.{same_path, without_path, is_tcp}
use Rattle.outstanding.specs.Values.{Ask}
use Rattle.step_values.specs.declared.action.Why.{Why}
use Rattle.step_values.specs.Values.{Action, ask_udp, ask_tcp, close_udp, close_tcp, send_reply, Step}
use Rattle.step_history.specs.History.{ShownAsk, asks_after, unlisted, listed, tcp_asks_in, closes_path}
use Rattle.outstanding.specs.Draws.{ask_message}
use Rattle.step_history.specs.Sound.{among, Owns, EachOwned, Replies}
use Rattle.step_history.specs.Asked.{AsksRight, AreRightAsks}
use Rattle.step_table.specs.Steps.{Fate, gets, waits, reply_in, replies, closes, closing, without_ask, asks, asks_by, ask_list, tcp_count}
use Rattle.theorem_sound.specs.Explains.{shown, Waits}
use Rattle.theorem_sound.proofs.Fates.{Distinct, fates_in, owner_in, owners_by, Fated}

-- ---- actions

-- the action is a reply, right for question i
abbrev pub OwnsReply : Config → List Step → ℕ → Action → Type 0
OwnsReply c now i (send_reply client octets why) = (owners : List ℕ) → Owns c now owners i (record { client = client; octets = octets; why = why })
OwnsReply c now i (ask_udp port server octets) = ⊥
OwnsReply c now i (ask_tcp conn server octets) = ⊥
OwnsReply c now i (close_udp port) = ⊥
OwnsReply c now i (close_tcp conn) = ⊥

abbrev pub AreFated : Config → List Step → List (Fate × ℕ) → Type 0
AreFated c now gs = AllByRecursion (λ g. Fated (OwnsReply c now) (Waits c now) g.0 g.1) gs

-- the function ignores replies
abbrev pub Passes : {Y : Type 0} → (List Action → Y) → Type 0
Passes f = (client : Client) (octets : List ℕ) (why : Why) (more : List Action) → f (send_reply client octets why ∷ more) ≡ f more

-- the fate is a reply or none
abbrev pub Speaks : Fate → Type 0
Speaks (gets (send_reply client octets why)) = Unit {0}
Speaks (gets (ask_udp port server octets)) = ⊥
Speaks (gets (ask_tcp conn server octets)) = ⊥
Speaks (gets (close_udp port)) = ⊥
Speaks (gets (close_tcp conn)) = ⊥
Speaks (waits y) = Unit {0}

past_one : {Y : Type 0} (f : List Action → Y) → Passes f → (v : Fate) → Speaks v → (rs rest : List Action) → f (rs ++ rest) ≡ f rest → f (cons_option (reply_in v) rs ++ rest) ≡ f rest
past_one f over (gets (send_reply client octets why)) h rs rest e = over client octets why (rs ++ rest) ∙ e
past_one f over (gets (ask_udp port server octets)) h rs rest e = absurd h
past_one f over (gets (ask_tcp conn server octets)) h rs rest e = absurd h
past_one f over (gets (close_udp port)) h rs rest e = absurd h
past_one f over (gets (close_tcp conn)) h rs rest e = absurd h
past_one f over (waits y) h rs rest e = e

-- the function ignores the replies of a step
pub past_replies : {Y : Type 0} (f : List Action → Y) → Passes f → (fates : List Fate) → AllByRecursion Speaks fates → (rest : List Action) → f (replies fates ++ rest) ≡ f rest
past_replies f over [] h rest = refl
past_replies f over (v ∷ fates) h rest = past_one f over v h.0 (replies fates) rest (past_replies f over fates h.1 rest)

fated_one : (c : Config) (now : List Step) (v : Fate) (i : ℕ) → Fated (OwnsReply c now) (Waits c now) v i → Speaks v
fated_one c now (gets (send_reply client octets why)) i h = tt
fated_one c now (gets (ask_udp port server octets)) i h = h
fated_one c now (gets (ask_tcp conn server octets)) i h = h
fated_one c now (gets (close_udp port)) i h = h
fated_one c now (gets (close_tcp conn)) i h = h
fated_one c now (waits y) i h = tt

pub fated_speak : (c : Config) (now : List Step) (gs : List (Fate × ℕ)) → AreFated c now gs → AllByRecursion Speaks (fates_in gs)
fated_speak c now [] h = tt
fated_speak c now (g ∷ gs) h = (fated_one c now g.0 g.1 h.0, fated_speak c now gs h.1)

-- ---- owners

abbrev Free : List ℕ → List ℕ → Type 0
Free owners is = AllByRecursion (λ i. among i owners ≡ false) is

still_free : (n : ℕ) (owners is : List ℕ) → AllByRecursion (λ j. (j == n) ≡ false) is → Free owners is → Free (n ∷ owners) is
still_free n owners [] a b = tt
still_free n owners (i ∷ is) a b = (ap (λ v. v || among i owners) (ne_eqb n i (λ e. false≢true (sym a.0 ∙ eq-eqb i n (sym e)))) ∙ b.0, still_free n owners is a.1 b.1)

-- each question getting a reply owns this reply alone; the asks after the replies own nothing
pub owned_replies : (c : Config) (now : List Step) (rest : List Action) → ((owners : List ℕ) → EachOwned c now rest owners []) → (gs : List (Fate × ℕ)) → AreFated c now gs
    → (owners : List ℕ) → Distinct (owners_by gs) → Free owners (owners_by gs) → EachOwned c now (replies (fates_in gs) ++ rest) owners (owners_by gs)
owned_replies c now rest quiet [] h owners d free = quiet owners
owned_replies c now rest quiet (g ∷ gs) h owners d free = by (λ owners d free. owned_replies c now rest quiet gs h.1 owners d free) g.0 h.0 d free
  where
    by : ((owners : List ℕ) → Distinct (owners_by gs) → Free owners (owners_by gs) → EachOwned c now (replies (fates_in gs) ++ rest) owners (owners_by gs))
        → (v : Fate) → Fated (OwnsReply c now) (Waits c now) v g.1 → Distinct (cons_option (owner_in v g.1) (owners_by gs)) → Free owners (cons_option (owner_in v g.1) (owners_by gs))
        → EachOwned c now (cons_option (reply_in v) (replies (fates_in gs)) ++ rest) owners (cons_option (owner_in v g.1) (owners_by gs))
    by all (gets (send_reply client octets why)) k d free = (k owners, free.0, all (g.1 ∷ owners) d.1 (still_free g.1 owners (owners_by gs) d.0 free.1))
    by all (gets (ask_udp port server octets)) k d free = absurd k
    by all (gets (ask_tcp conn server octets)) k d free = absurd k
    by all (gets (close_udp port)) k d free = absurd k
    by all (gets (close_tcp conn)) k d free = absurd k
    by all (waits y) k d free = all owners d free

pub owned_closing : (c : Config) (now : List Step) (close : Option Ask) (more : List Action) (owners is : List ℕ) → EachOwned c now more owners is → EachOwned c now (closing close ++ more) owners is
owned_closing c now None more owners is h = h
owned_closing c now (Some a) more owners is h = by a.path
  where
    by : (p : Path) → EachOwned c now (closes p ∷ more) owners is
    by (Udp port) = h
    by (Tcp conn) = h

pub owned_asks : (c : Config) (now : List Step) (next : Option Ask) (owners : List ℕ) → EachOwned c now (map asks (ask_list next)) owners []
owned_asks c now None owners = refl
owned_asks c now (Some a) owners = by a.path
  where
    by : (p : Path) → EachOwned c now (asks_by p a ∷ []) owners []
    by (Udp port) = refl
    by (Tcp conn) = refl

-- ---- listed asks

pub shown_left : (p : Path) (listed : List Ask) → unlisted p (map shown listed) ≡ map shown (without_path p listed)
shown_left p [] = refl
shown_left p (a ∷ listed) = elim (not (same_path a.path p)) as (λ v. cond v (shown a ∷ unlisted p (map shown listed)) (unlisted p (map shown listed)) ≡ map shown (cond v (a ∷ without_path p listed) (without_path p listed))) [
  | true ↦ ap (λ ls. shown a ∷ ls) (shown_left p listed)
  | false ↦ shown_left p listed
]

-- the shown asks without the closed ask
abbrev pub shown_without : Option Ask → List ShownAsk → List ShownAsk
shown_without None ls = ls
shown_without (Some a) ls = unlisted a.path ls

without_shown : (close : Option Ask) (listed : List Ask) → shown_without close (map shown listed) ≡ map shown (without_ask close listed)
without_shown None listed = refl
without_shown (Some a) listed = shown_left a.path listed

closing_listed : (t : ℕ) (close : Option Ask) (more : List Action) (ls : List ShownAsk) → asks_after t (closing close ++ more) ls ≡ asks_after t more (shown_without close ls)
closing_listed t None more ls = refl
closing_listed t (Some a) more ls = by a.path
  where
    by : (p : Path) → asks_after t (closes p ∷ more) ls ≡ asks_after t more (unlisted p ls)
    by (Udp port) = refl
    by (Tcp conn) = refl

abbrev pub AskedAt : ℕ → Option Ask → Type 0
AskedAt t None = Unit {0}
AskedAt t (Some a) = a.asked ≡ t

pub next_listed : (t : ℕ) (next : Option Ask) (ls : List ShownAsk) → AskedAt t next → asks_after t (map asks (ask_list next)) ls ≡ ls ++ map shown (ask_list next)
next_listed t None ls e = sym (append-nil ls)
next_listed t (Some a) ls e = by a.path ∙ ap (λ (m : ℕ). ls ++ record { path = a.path; server = a.peer; octets = written (ask_message a.id a.question); moment = m } ∷ []) (sym e)
  where
    by : (p : Path) → asks_after t (asks_by p a ∷ []) ls ≡ ls ++ record { path = p; server = a.peer; octets = written (ask_message a.id a.question); moment = t } ∷ []
    by (Udp port) = refl
    by (Tcp conn) = refl

-- ---- asks by TCP

pub closing_tcp : (close : Option Ask) (more : List Action) → tcp_asks_in (closing close ++ more) ≡ tcp_asks_in more
closing_tcp None more = refl
closing_tcp (Some a) more = by a.path
  where
    by : (p : Path) → tcp_asks_in (closes p ∷ more) ≡ tcp_asks_in more
    by (Udp port) = omega arith
    by (Tcp conn) = omega arith

pub next_tcp : (next : Option Ask) → tcp_asks_in (map asks (ask_list next)) ≡ tcp_count next
next_tcp None = refl
next_tcp (Some a) = by a.path
  where
    by : (p : Path) → tcp_asks_in (asks_by p a ∷ []) ≡ cond (is_tcp p) 1 0
    by (Udp port) = refl
    by (Tcp conn) = refl

-- ---- closed paths

pub asks_close_none : (p : Path) (next : Option Ask) → closes_path p (map asks (ask_list next)) ≡ false
asks_close_none p None = refl
asks_close_none p (Some a) = by a.path
  where
    by : (q : Path) → closes_path p (asks_by q a ∷ []) ≡ false
    by (Udp port) = refl
    by (Tcp conn) = refl

-- asks answer nothing
pub asks_answer_none : (next : Option Ask) (octets : List ℕ) → Replies (map asks (ask_list next)) octets → ⊥
asks_answer_none None octets f = f
asks_answer_none (Some a) octets f = by a.path f
  where
    by : (p : Path) → Replies (asks_by p a ∷ []) octets → ⊥
    by (Udp port) (inl k) = k
    by (Udp port) (inr k) = k
    by (Tcp conn) (inl k) = k
    by (Tcp conn) (inr k) = k

-- whether p is the path given up
abbrev pub is_given_up : Path → Option Ask → Bool
is_given_up p None = false
is_given_up p (Some a) = same_path p a.path

closing_closes : (p : Path) (close : Option Ask) (more : List Action) → closes_path p more ≡ false → closes_path p (closing close ++ more) ≡ is_given_up p close
closing_closes p None more none = none
closing_closes p (Some a) more none = by a.path ∙ ap (λ b. same_path p a.path || b) none ∙ or_false (same_path p a.path)
  where
    by : (q : Path) → closes_path p (closes q ∷ more) ≡ (same_path p q || closes_path p more)
    by (Udp port) = refl
    by (Tcp conn) = refl

    or_false : (b : Bool) → (b || false) ≡ b
    or_false true = refl
    or_false false = refl

-- the listed asks after a settling step, and the step's closed paths
pub listed_settled : (t : ℕ) (close : Option Ask) (fates : List Fate) (next : Option Ask) (listed : List Ask) → AllByRecursion Speaks fates → AskedAt t next
    → asks_after t (closing close ++ (replies fates ++ map asks (ask_list next))) (map shown listed) ≡ map shown (without_ask close listed ++ ask_list next)
listed_settled t close fates next listed speak asked_at =
    closing_listed t close (replies fates ++ map asks (ask_list next)) (map shown listed)
    ∙ past_replies (λ as'. asks_after t as' (shown_without close (map shown listed))) (λ client octets why more. refl) fates speak (map asks (ask_list next))
    ∙ next_listed t next (shown_without close (map shown listed)) asked_at
    ∙ ap (λ ls. ls ++ map shown (ask_list next)) (without_shown close listed)
    ∙ sym (map-append shown (without_ask close listed) (ask_list next))

pub closes_settled : (p : Path) (close : Option Ask) (fates : List Fate) (next : Option Ask) → AllByRecursion Speaks fates → closes_path p (closing close ++ (replies fates ++ map asks (ask_list next))) ≡ is_given_up p close
closes_settled p close fates next speak =
    closing_closes p close (replies fates ++ map asks (ask_list next)) (past_replies (closes_path p) (λ client octets why more. refl) fates speak (map asks (ask_list next)) ∙ asks_close_none p next)

-- ---- right asks

pub right_closing : (c : Config) (now : Step) (past : List Step) (close : Option Ask) (more : List Action) → AreRightAsks c now past more → AreRightAsks c now past (closing close ++ more)
right_closing c now past None more h = h
right_closing c now past (Some a) more h = by a.path
  where
    by : (p : Path) → AreRightAsks c now past (closes p ∷ more)
    by (Udp port) = (tt, h)
    by (Tcp conn) = (tt, h)

-- the next ask is right as shown by its action
abbrev pub IsRightNext : Config → Step → List Step → Option Ask → Type 0
IsRightNext c now past None = Unit {0}
IsRightNext c now past (Some a) = AsksRight c now past (record { path = a.path; server = a.peer; octets = written (ask_message a.id a.question) })

pub right_next : (c : Config) (now : Step) (past : List Step) (next : Option Ask) → IsRightNext c now past next → AreRightAsks c now past (map asks (ask_list next))
right_next c now past None h = tt
right_next c now past (Some a) h = by a.path h
  where
    by : (p : Path) → AsksRight c now past (record { path = p; server = a.peer; octets = written (ask_message a.id a.question) }) → AreRightAsks c now past (asks_by p a ∷ [])
    by (Udp port) k = ((k, refl), tt)
    by (Tcp conn) k = ((k, refl), tt)

pub right_replies : (c : Config) (now : Step) (past hist : List Step) (rest : List Action) → AreRightAsks c now past rest → (gs : List (Fate × ℕ)) → AreFated c hist gs → AreRightAsks c now past (replies (fates_in gs) ++ rest)
right_replies c now past hist rest k [] h = k
right_replies c now past hist rest k (g ∷ gs) h = by g.0 h.0 (right_replies c now past hist rest k gs h.1)
  where
    by : (v : Fate) → Fated (OwnsReply c hist) (Waits c hist) v g.1 → AreRightAsks c now past (replies (fates_in gs) ++ rest) → AreRightAsks c now past (cons_option (reply_in v) (replies (fates_in gs)) ++ rest)
    by (gets (send_reply client octets why)) m r = (tt, r)
    by (gets (ask_udp port server octets)) m r = absurd m
    by (gets (ask_tcp conn server octets)) m r = absurd m
    by (gets (close_udp port)) m r = absurd m
    by (gets (close_tcp conn)) m r = absurd m
    by (waits y) m r = r
