-- Listed asks, and draws that avoid them.
use Rattle.std.proofs.Common.{◌≡◌, ℕ, ◌+◌, ◌-◌, ◌%◌, ◌^◌, ◌<◌, ◌≤◌, List, [], ◌∷◌, length, Bool, true, false, refl, sym, ap, ◌∙◌, subst, ⊎_elim, arith, Option, Some, None}
use Rattle.std.specs.Prelude.{get_or, not, ◌==◌, ◌||◌}
use Rattle.std.specs.List.{AllByRecursion}
use Rattle.std.proofs.lemmas.Bool.{cases_Bool, cond-true, cond-false, false≢true, eqb-true, ne_eqb, cond_both}
use Rattle.dns_message.specs.Values.{Question}
use Rattle.dns_message.specs.Questions.{same_question}
use Rattle.outstanding.specs.declared.ask.Path.{Path}
use Rattle.outstanding.specs.declared.ask.Path.TheVariants.{Udp, Tcp}
use Rattle.outstanding.proofs.CallerLemmas.{same_path_reflexive, same_path_equal, ended_path_is_unlisted as ended_unlisted, unlisted_path_stays_so as unlisted_stays}
use Rattle.outstanding.specs.Draws.{is_used, is_free, port_of, udp_draw, drawn_by_tcp}
use Rattle.outstanding.specs.Lists.{on_path as ask_on, of_question, same_path, without_path, Follows, AreInTurn}
use Rattle.outstanding.specs.Values.{Ask}
use Rattle.step_table.specs.Attempts.{freed_by}
use Rattle.step_table.specs.Progress.{IsBelow}

-- the ask on a path is on it, and has what all have
pub ask_on-is : (P : Ask → Type 0) (p : Path) (asks : List Ask) (a : Ask) → ask_on p asks ≡ Some a → AllByRecursion P asks → (a.path ≡ p) × P a
ask_on-is P p [] a e all = absurd (cc)
ask_on-is P p (b ∷ asks) a e all = ⊎_elim
    (λ (t : same_path b.path p ≡ true).
    let is : Some b ≡ Some a = sym (cond-true (same_path b.path p) _ _ t) ∙ e in
    let same : b ≡ a = cc in
    (sym (ap (λ (x : Ask). x.path) same) ∙ same_path_equal b.path p t, subst P same all.0))
    (λ (f : same_path b.path p ≡ false). ask_on-is P p asks a (sym (cond-false (same_path b.path p) _ _ f) ∙ e) all.1)
    (cases_Bool (same_path b.path p))

-- the ask of a question is on its own path, has what all have, and asks it
pub of_question-is : (P : Ask → Type 0) (q : Question) (asks : List Ask) (a : Ask) → of_question q asks ≡ Some a → AllByRecursion P asks → P a × (same_question a.question q ≡ true)
of_question-is P q [] a e all = absurd (cc)
of_question-is P q (b ∷ asks) a e all = ⊎_elim
    (λ (t : same_question b.question q ≡ true).
    let is : Some b ≡ Some a = sym (cond-true (same_question b.question q) _ _ t) ∙ e in
    let same : b ≡ a = cc in
    (subst P same all.0, subst (λ (x : Ask). same_question x.question q ≡ true) same t))
    (λ (f : same_question b.question q ≡ false). of_question-is P q asks a (sym (cond-false (same_question b.question q) _ _ f) ∙ e) all.1)
    (cases_Bool (same_question b.question q))

-- one ask fewer
pub without_shorter : (p : Path) (asks : List Ask) (a : Ask) → ask_on p asks ≡ Some a → length (without_path p asks) + 1 ≤ length asks
without_shorter p [] a e = absurd (cc)
without_shorter p (b ∷ asks) a e = ⊎_elim
    (λ (t : same_path b.path p ≡ true). subst (λ (xs : List Ask). length xs + 1 ≤ length (b ∷ asks)) (sym (cond-false (not (same_path b.path p)) (b ∷ without_path p asks) (without_path p asks) (ap not t))) (let all = no_longer asks in omega (arith, all)))
    (λ (f : same_path b.path p ≡ false). subst (λ (xs : List Ask). length xs + 1 ≤ length (b ∷ asks)) (sym (cond-true (not (same_path b.path p)) (b ∷ without_path p asks) (without_path p asks) (ap not f)))
    (let rest = without_shorter p asks a (sym (cond-false (same_path b.path p) _ _ f) ∙ e) in omega (arith, rest)))
    (cases_Bool (same_path b.path p))
  where
    no_longer : (xs : List Ask) → length (without_path p xs) ≤ length xs
    no_longer [] = omega arith
    no_longer (x ∷ xs) = cond_both (not (same_path x.path p)) (x ∷ without_path p xs) (without_path p xs) (λ (ys : List Ask). length ys ≤ length (x ∷ xs)) (λ _. let rest = no_longer xs in omega (arith, rest)) (λ _. let rest = no_longer xs in omega (arith, rest))

-- no ask of a question that is not listed
pub none_same : (q : Question) (asks : List Ask) → of_question q asks ≡ None → AllByRecursion (λ b. same_question b.question q ≡ false) asks
none_same q [] e = tt
none_same q (b ∷ asks) e = ⊎_elim
    (λ (t : same_question b.question q ≡ true). let bad : Some b ≡ None = sym (cond-true (same_question b.question q) _ _ t) ∙ e in absurd (cc))
    (λ (f : same_question b.question q ≡ false). (f, none_same q asks (sym (cond-false (same_question b.question q) _ _ f) ∙ e)))
    (cases_Bool (same_question b.question q))

-- a draw is an identifier of 16 bits, and a port that is free
pub record IsFresh (asks : List Ask) (freed : Option ℕ) (id port : ℕ) : Type 0 where
  pub small : id < 2 ^ 16
  pub free : is_free port asks freed ≡ true

sixteen_bits : (word : ℕ) → word % 65536 < 2 ^ 16
sixteen_bits word = omega arith

fresh_by : (word : ℕ) (words : List ℕ) (asks : List Ask) (freed : Option ℕ) (id port : ℕ) → (udp_draw words asks freed ≡ Some (id, port) → IsFresh asks freed id port)
    → (b : Bool) → is_free (port_of word) asks freed ≡ b → udp_draw (word ∷ words) asks freed ≡ Some (id, port) → IsFresh asks freed id port
fresh_by word words asks freed id port rest false used e = rest (sym (cond-false (is_free (port_of word) asks freed) _ _ used) ∙ e)
fresh_by word words asks freed id port rest true free e =
    let is : Some (word % 65536, port_of word) ≡ Some (id, port) = sym (cond-true (is_free (port_of word) asks freed) _ _ free) ∙ e in
    let same : (word % 65536, port_of word) ≡ (id, port) = cc in
    let first : word % 65536 ≡ id = ap (λ (d : ℕ × ℕ). d.0) same in
    record { small = subst (λ (k : ℕ). k < 2 ^ 16) first (sixteen_bits word); free = ap (λ (d : ℕ × ℕ). is_free d.1 asks freed) (sym same) ∙ free }

pub drawn_fresh : (words : List ℕ) (asks : List Ask) (freed : Option ℕ) (id port : ℕ) → udp_draw words asks freed ≡ Some (id, port) → IsFresh asks freed id port
drawn_fresh [] asks freed id port e = absurd (cc)
drawn_fresh (word ∷ words) asks freed id port e = fresh_by word words asks freed id port (drawn_fresh words asks freed id port) (is_free (port_of word) asks freed) refl e

none_by : (port : ℕ) (a : Ask) (asks : List Ask) → (is_used port asks ≡ false → ask_on (Udp port) asks ≡ None)
    → (b : Bool) → same_path a.path (Udp port) ≡ b → is_used port (a ∷ asks) ≡ false → ask_on (Udp port) (a ∷ asks) ≡ None
none_by port a asks rest true t e = absurd (false≢true (sym e ∙ ap (λ v. v || is_used port asks) t))
none_by port a asks rest false f e = cond-false (same_path a.path (Udp port)) _ _ f ∙ rest (ap (λ v. v || is_used port asks) (sym f) ∙ e)

-- no ask is on a port that is free
pub none_there : (port : ℕ) (asks : List Ask) → is_used port asks ≡ false → ask_on (Udp port) asks ≡ None
none_there port [] e = refl
none_there port (a ∷ asks) e = none_by port a asks (none_there port asks) (same_path a.path (Udp port)) refl e

not_true : (b : Bool) → not b ≡ true → b ≡ false
not_true false e = refl
not_true true e = absurd (false≢true e)

-- a port that is free has no ask, nor has one that is given up once it is
pub free_now : (port : ℕ) (asks : List Ask) → is_free port asks None ≡ true → ask_on (Udp port) asks ≡ None
free_now port asks e = none_there port asks (not_true (is_used port asks) e)

pub free_then : (p : Path) (port : ℕ) (asks : List Ask) → is_free port asks (freed_by p) ≡ true → ask_on (Udp port) (without_path p asks) ≡ None
free_then (Tcp conn) port asks e = unlisted_stays asks (Udp port) (Tcp conn) (free_now port asks e)
free_then (Udp given) port asks e = by (port == given) refl e
  where
    by : (b : Bool) → (port == given) ≡ b → (b || not (is_used port asks)) ≡ true → ask_on (Udp port) (without_path (Udp given) asks) ≡ None
    by true same e = subst (λ (k : ℕ). ask_on (Udp k) (without_path (Udp given) asks) ≡ None) (sym (eqb-true port given same)) (ended_unlisted asks (Udp given))
    by false other e = unlisted_stays asks (Udp port) (Udp given) (none_there port asks (not_true (is_used port asks) e))

-- no ask has the number of a connection that was not given yet
pub none_above : (conn count : ℕ) (asks : List Ask) → count ≤ conn → AllByRecursion (λ a. IsBelow count a.path) asks → ask_on (Tcp conn) asks ≡ None
none_above conn count [] le all = refl
none_above conn count (a ∷ asks) le all = cond-false (same_path a.path (Tcp conn)) _ _ (other a.path all.0) ∙ none_above conn count asks le all.1
  where
    other : (p : Path) → IsBelow count p → same_path p (Tcp conn) ≡ false
    other (Udp port) below = refl
    other (Tcp k) below = let lt : k < count = below in ne_eqb k conn (λ e. omega (arith, lt, e, le))

pub record IsNumbered (words : List ℕ) (count id conn : ℕ) : Type 0 where
  pub small : id < 2 ^ 16
  pub number : conn ≡ count

pub drawn_numbered : (words : List ℕ) (count id conn : ℕ) → drawn_by_tcp words count ≡ Some (id, conn) → IsNumbered words count id conn
drawn_numbered words count id conn e = ⊎_elim
    (λ (t : (count == 2 ^ 64 - 1) ≡ true). let bad : None ≡ Some (id, conn) = sym (cond-true (count == 2 ^ 64 - 1) _ _ t) ∙ e in absurd (cc))
    (λ (f : (count == 2 ^ 64 - 1) ≡ false).
    let is : Some (get_or words 0 0 % 65536, count) ≡ Some (id, conn) = sym (cond-false (count == 2 ^ 64 - 1) _ _ f) ∙ e in
    let same : (get_or words 0 0 % 65536, count) ≡ (id, conn) = cc in
    let first : get_or words 0 0 % 65536 ≡ id = ap (λ (d : ℕ × ℕ). d.0) same in
    record { small = omega (arith, first); number = sym (ap (λ (d : ℕ × ℕ). d.1) same) })
    (cases_Bool (count == 2 ^ 64 - 1))

pub drawn_last : (words : List ℕ) (count : ℕ) → drawn_by_tcp words count ≡ None → count ≡ 2 ^ 64 - 1
drawn_last words count e = ⊎_elim
    (λ (t : (count == 2 ^ 64 - 1) ≡ true). eqb-true count (2 ^ 64 - 1) t)
    (λ (f : (count == 2 ^ 64 - 1) ≡ false). let bad : Some (get_or words 0 0 % 65536, count) ≡ None = sym (cond-false (count == 2 ^ 64 - 1) _ _ f) ∙ e in absurd (cc))
    (cases_Bool (count == 2 ^ 64 - 1))

-- the ask of a question is the one on its own path
pub own_on : (q : Question) (asks : List Ask) (a : Ask) → AreInTurn asks → of_question q asks ≡ Some a → ask_on a.path asks ≡ Some a
own_on q [] a by_arrival e = absurd (cc)
own_on q (b ∷ asks) a by_arrival e = ⊎_elim
    (λ (t : same_question b.question q ≡ true).
    let is : Some b ≡ Some a = sym (cond-true (same_question b.question q) _ _ t) ∙ e in
    let same : b ≡ a = cc in
    subst (λ (z : Ask). ask_on z.path (b ∷ asks) ≡ Some z) same (cond-true (same_path b.path b.path) _ _ (same_path_reflexive b.path)))
    (λ (f : same_question b.question q ≡ false).
    let there : of_question q asks ≡ Some a = sym (cond-false (same_question b.question q) _ _ f) ∙ e in
    let follows = (of_question-is (Follows b) q asks a there by_arrival.0).0 in
    cond-false (same_path b.path a.path) _ _ follows.path ∙ own_on q asks a by_arrival.1 there)
    (cases_Bool (same_question b.question q))

pub still_earlier : (m n : ℕ) (asks : List Ask) → m ≤ n → AllByRecursion (λ a. a.asked ≤ m) asks → AllByRecursion (λ a. a.asked ≤ n) asks
still_earlier m n [] le all = tt
still_earlier m n (a ∷ asks) le all = let first : a.asked ≤ m = all.0 in (omega (arith, first, le), still_earlier m n asks le all.1)
