-- The fates of the questions waiting for a question, among all that wait.
use Rattle.std.proofs.Common.{◌≡◌, List, [], ◌∷◌, Bool, true, false, cond, Some, refl, sym, ap, ◌∙◌}
use Rattle.std.specs.Prelude.{filter, map}
use Rattle.std.specs.List.{cons_option}
use Rattle.std.proofs.lemmas.Simd.{map-map}
use Rattle.dns_message.specs.Values.{Question}
use Rattle.waiting_questions.specs.Onward.{redirected}
use Rattle.waiting_questions.specs.Values.{Waiting, waits_for}
use Rattle.waiting_questions.specs.Settling.{left_by, settled, settled_by}
use Rattle.waiting_questions.proofs.CallerLemmas.{settled_by_function}
use Rattle.step_table.specs.Steps.{Fate, gets, waits, reply_in, waiting_in, replies, still_waiting}
use Rattle.reply_decisions.specs.Fates.{onward_of, AreFates}

module _ (q : Question) (fate : Waiting → Fate) (others : (x : Waiting) → waits_for q x ≡ false → fate x ≡ waits x)
    (own : (x y : Waiting) → waits_for q x ≡ true → fate x ≡ waits y → y ≡ redirected (record { held = y.held; wanted = y.wanted }) x) where
  -- ---- the replies

  one_reply : (t : Bool) (x : Waiting) (xs those : List Waiting) → waits_for q x ≡ t → replies (map fate xs) ≡ replies (map fate those)
      → cons_option (reply_in (fate x)) (replies (map fate xs)) ≡ replies (map fate (cond t (x ∷ those) those))
  one_reply true x xs those e rest = ap (cons_option (reply_in (fate x))) rest
  one_reply false x xs those e rest = ap (λ (f : Fate). cons_option (reply_in f) (replies (map fate xs))) (others x e) ∙ rest

  replies_of : (xs : List Waiting) → replies (map fate xs) ≡ replies (map fate (filter (waits_for q) xs))
  replies_of [] = refl
  replies_of (x ∷ xs) = one_reply (waits_for q x) x xs (filter (waits_for q) xs) refl (replies_of xs)

  -- ---- questions that wait on

  one_left : (x : Waiting) → cond (waits_for q x) (left_by (onward_of (fate x)) x) (Some x) ≡ waiting_in (fate x)
  one_left x = by (waits_for q x) refl
    where
      left : waits_for q x ≡ true → (f : Fate) → fate x ≡ f → left_by (onward_of f) x ≡ waiting_in f
      left e (gets a) is = refl
      left e (waits y) is = ap Some (sym (own x y e is))

      by : (t : Bool) → waits_for q x ≡ t → cond t (left_by (onward_of (fate x)) x) (Some x) ≡ waiting_in (fate x)
      by true e = left e (fate x) refl
      by false e = ap (λ (f : Fate). waiting_in f) (sym (others x e))

  all_left : (xs : List Waiting) → settled_by q (λ x. onward_of (fate x)) xs ≡ still_waiting (map fate xs)
  all_left [] = refl
  all_left (x ∷ xs) = λ i. cons_option (one_left x i) (all_left xs i)

pub replies_are : (q : Question) (fate : Waiting → Fate) (xs : List Waiting) (each : List Fate) → AreFates q fate xs each
    → replies (map fate xs) ≡ replies each
replies_are q fate xs each b = replies_of q fate b.others b.own xs ∙ ap replies (sym b.are)

pub waiting_are : (q : Question) (fate : Waiting → Fate) (xs : List Waiting) (each : List Fate) → AreFates q fate xs each
    → settled q (map onward_of each) xs ≡ still_waiting (map fate xs)
waiting_are q fate xs each b =
    settled_by_function q (λ x. onward_of (fate x)) (map onward_of each) xs
    (ap (map onward_of) b.are ∙ map-map onward_of fate (filter (waits_for q) xs))
    ∙ all_left q fate b.others b.own xs

-- ---- fates equal for the questions waiting for a question

one_of_those : (p : Waiting → Bool) (f g : Waiting → Fate) (x : Waiting) (those : List Waiting) (t : Bool) → p x ≡ t → (p x ≡ true → f x ≡ g x) → map f those ≡ map g those → map f (cond t (x ∷ those) those) ≡ map g (cond t (x ∷ those) those)
one_of_those p f g x those true e same rest = λ i. same e i ∷ rest i
one_of_those p f g x those false e same rest = rest

pub same_fates : (p : Waiting → Bool) (f g : Waiting → Fate) → ((x : Waiting) → p x ≡ true → f x ≡ g x) → (xs : List Waiting) → map f (filter p xs) ≡ map g (filter p xs)
same_fates p f g same [] = refl
same_fates p f g same (x ∷ xs) = one_of_those p f g x (filter p xs) (p x) refl (same x) (same_fates p f g same xs)
