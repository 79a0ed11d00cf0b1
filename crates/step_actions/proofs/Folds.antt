-- Replies put one after another, only to questions with a reply.
use Rattle.std.proofs.Common.{◌≡◌, ℕ, zero, suc, ◌+◌, List, [], ◌∷◌, ◌++◌, drop, slice_get, Bool, true, false, cond, true≢false, Option, None, Some, refl, sym, ap, ◌∙◌, subst, inl, inr, arith}
use Rattle.std.specs.Prelude.{filter}
use Rattle.std.specs.List.{AllByRecursion}
use Rattle.step_texts.proofs.StepTable.CallerLemmas.{All-filter}
use Rattle.dns_message.specs.Values.{Question}
use Rattle.suffix_routes.specs.Values.{Config}
use Rattle.record_cache.specs.Values.{Held}
use Rattle.record_cache.specs.Laws.{Among}
use Rattle.step_values.specs.declared.action.Why.{Why}
use Rattle.step_values.specs.Values.{Action}
use Rattle.step_texts.specs.Spelling.{Source}
use Rattle.step_texts.specs.WaitingQuestions.Values.{Waiting, waits_for}
use Rattle.step_texts.specs.StepTable.Steps.{Fate, gets, waits, reply_in, fails, gives_up}
use Rattle.step_texts.specs.StepTable.Failures.{with_stale_ttl, found_stale, runs_out}
use Rattle.step_actions.specs.Decision.{with_reply, with_replies, gives_from, reply_from}

-- ---- questions without a reply may be left out

pub with_replies_filter : (fate : Waiting → Fate) (p : Waiting → Bool) → ((x : Waiting) → p x ≡ false → reply_in (fate x) ≡ None) → (actions : List Action) (xs : List Waiting) → with_replies fate actions (filter p xs) ≡ with_replies fate actions xs
with_replies_filter fate p none actions [] = refl
with_replies_filter fate p none actions (x ∷ xs) = by (p x) refl (with_replies_filter fate p none (with_reply actions (reply_in (fate x))) xs) (with_replies_filter fate p none actions xs)
  where
    by : (b : Bool) → p x ≡ b → with_replies fate (with_reply actions (reply_in (fate x))) (filter p xs) ≡ with_replies fate (with_reply actions (reply_in (fate x))) xs
        → with_replies fate actions (filter p xs) ≡ with_replies fate actions xs
        → with_replies fate actions (cond b (x ∷ filter p xs) (filter p xs)) ≡ with_replies fate (with_reply actions (reply_in (fate x))) xs
    by true e with_it without = with_it
    by false e with_it without = without ∙ sym (ap (λ r. with_replies fate (with_reply actions r) xs) (none x e))

waits_on : (b : Bool) (a : Action) (x : Waiting) → b ≡ false → reply_in (cond b (gets a) (waits x)) ≡ None
waits_on false a x e = refl
waits_on true a x e = absurd (true≢false e)

-- failures, and answers, for the questions waiting for q
pub failures_filter : (why : Why) (q : Question) (actions : List Action) (xs : List Waiting) → with_replies (fails why q) actions (filter (waits_for q) xs) ≡ with_replies (fails why q) actions xs
failures_filter why q = with_replies_filter (fails why q) (waits_for q) (λ x e. waits_on (waits_for q x) (gives_up why x) x e)

pub answers_filter : (d : Source) (q : Question) (actions : List Action) (xs : List Waiting) → with_replies (gives_from d q) actions (filter (waits_for q) xs) ≡ with_replies (gives_from d q) actions xs
answers_filter d q = with_replies_filter (gives_from d q) (waits_for q) (λ x e. waits_on (waits_for q x) (reply_from d x) x e)

pub lasts_filter : (c : Config) (n : ℕ) (entries : List Held) (q : Question) (actions : List Action) (xs : List Waiting) → with_replies (runs_out c n entries q) actions (filter (waits_for q) xs) ≡ with_replies (runs_out c n entries q) actions xs
lasts_filter c n entries q = with_replies_filter (runs_out c n entries q) (waits_for q) (λ x e. waits_on (waits_for q x) (with_stale_ttl n x (found_stale c n entries x)) x e)

-- ---- a single waiting question

all_at : (P : Waiting → Type 0) (xs : List Waiting) (i : ℕ) (x : Waiting) → AllByRecursion P xs → slice_get xs i ≡ Some x → P x
all_at P [] i x all there = absurd (cc)
all_at P (y ∷ xs) zero x all there = let same : y ≡ x = cc in subst P same all.0
all_at P (y ∷ xs) (suc i) x all there = all_at P xs i x all.1 there

-- a property of all holds of a question waiting for q
pub one_of_those : (P : Waiting → Type 0) (q : Question) (xs those : List Waiting) (i : ℕ) (x : Waiting) → AllByRecursion P xs → those ≡ filter (waits_for q) xs → slice_get those i ≡ Some x → P x
one_of_those P q xs those i x all are there = all_at P (filter (waits_for q) xs) i x (All-filter P (waits_for q) xs all) (ap (λ (ys : List Waiting). slice_get ys i) (sym are) ∙ there)

-- ---- one more reply

-- the question at a place, before the rest
drop_at : (xs : List Waiting) (i : ℕ) (x : Waiting) → slice_get xs i ≡ Some x → drop i xs ≡ x ∷ drop (suc i) xs
drop_at [] i x there = absurd (cc)
drop_at (y ∷ xs) zero x there = let same : y ≡ x = cc in ap (λ (z : Waiting). z ∷ xs) same
drop_at (y ∷ xs) (suc i) x there = drop_at xs i x there

-- a filtered question passes the filter's test
passes_at : (p : Waiting → Bool) (xs : List Waiting) (i : ℕ) (x : Waiting) → slice_get (filter p xs) i ≡ Some x → p x ≡ true
passes_at p [] i x there = absurd (cc)
passes_at p (y ∷ xs) i x there = by (p y) refl (λ j at. passes_at p xs j x at) i there
  where
    by : (b : Bool) → p y ≡ b → ((j : ℕ) → slice_get (filter p xs) j ≡ Some x → p x ≡ true) → (j : ℕ) → slice_get (cond b (y ∷ filter p xs) (filter p xs)) j ≡ Some x → p x ≡ true
    by false e rest j at = rest j at
    by true e rest zero at = let same : y ≡ x = cc in ap p (sym same) ∙ e
    by true e rest (suc j) at = rest j at

gets_on : (b : Bool) (a : Action) (x : Waiting) → b ≡ true → reply_in (cond b (gets a) (waits x)) ≡ Some a
gets_on true a x e = refl
gets_on false a x e = absurd (true≢false (sym e))

one_more : (fate : Waiting → Fate) (actions : List Action) (those : List Waiting) (i : ℕ) (x : Waiting) (a : Action) → slice_get those i ≡ Some x → reply_in (fate x) ≡ Some a → with_replies fate (actions ++ a ∷ []) (drop (i + 1) those) ≡ with_replies fate actions (drop i those)
one_more fate actions those i x a there gets_it =
    ap (λ (n : ℕ). with_replies fate (actions ++ a ∷ []) (drop n those)) (let next : i + 1 ≡ suc i = omega arith in next)
    ∙ sym (ap (λ (r : Option Action). with_replies fate (with_reply actions r) (drop (suc i) those)) gets_it)
    ∙ sym (ap (with_replies fate actions) (drop_at those i x there))

pub one_failed : (why : Why) (q : Question) (actions : List Action) (xs those : List Waiting) (i : ℕ) (x : Waiting) → those ≡ filter (waits_for q) xs → slice_get those i ≡ Some x
    → with_replies (fails why q) (actions ++ gives_up why x ∷ []) (drop (i + 1) those) ≡ with_replies (fails why q) actions (drop i those)
one_failed why q actions xs those i x are there =
    one_more (fails why q) actions those i x (gives_up why x) there (gets_on (waits_for q x) (gives_up why x) x (passes_at (waits_for q) xs i x (ap (λ (ys : List Waiting). slice_get ys i) (sym are) ∙ there)))

pub one_answered : (d : Source) (q : Question) (actions : List Action) (xs those : List Waiting) (i : ℕ) (x : Waiting) → those ≡ filter (waits_for q) xs → slice_get those i ≡ Some x
    → with_replies (gives_from d q) (actions ++ reply_from d x ∷ []) (drop (i + 1) those) ≡ with_replies (gives_from d q) actions (drop i those)
one_answered d q actions xs those i x are there =
    let a = reply_from d x in
    one_more (gives_from d q) actions those i x a there (gets_on (waits_for q x) a x (passes_at (waits_for q) xs i x (ap (λ (ys : List Waiting). slice_get ys i) (sym are) ∙ there)))

pub one_last : (c : Config) (n : ℕ) (entries : List Held) (q : Question) (actions : List Action) (xs those : List Waiting) (i : ℕ) (x : Waiting) → those ≡ filter (waits_for q) xs → slice_get those i ≡ Some x
    → with_replies (runs_out c n entries q) (actions ++ with_stale_ttl n x (found_stale c n entries x) ∷ []) (drop (i + 1) those) ≡ with_replies (runs_out c n entries q) actions (drop i those)
one_last c n entries q actions xs those i x are there =
    let a = with_stale_ttl n x (found_stale c n entries x) in
    one_more (runs_out c n entries q) actions those i x a there (gets_on (waits_for q x) a x (passes_at (waits_for q) xs i x (ap (λ (ys : List Waiting). slice_get ys i) (sym are) ∙ there)))

-- ---- pieces of the cache

one_among : (P : Held → Type 0) (h : Held) (entries : List Held) → AllByRecursion P entries → Among h entries → P h
one_among P h [] all among = absurd among
one_among P h (e ∷ entries) all (inl here) = subst P here all.0
one_among P h (e ∷ entries) all (inr later) = one_among P h entries all.1 later

-- a property of each entry holds of held entries in the cache
pub held_among : (P : Held → Type 0) (entries held : List Held) → AllByRecursion P entries → AllByRecursion (λ h. Among h entries) held → AllByRecursion P held
held_among P entries [] all among = tt
held_among P entries (h ∷ held) all among = (one_among P h entries all among.0, held_among P entries held all among.1)
