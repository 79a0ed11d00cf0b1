-- Repeated answers from cache, computed: at a single moment, answers to equal questions have to be
-- the same.
use Rattle.std.proofs.Common.{◌≡◌, ℕ, List, [], ◌∷◌, Bool, Some, None, true, false, refl, sym, ap, subst, inl, inr}
use Rattle.std.proofs.Common.{arith}
use Rattle.std.proofs.lemmas.Bool.{true≢false}
use Rattle.dns_message.specs.Names.{step as name_step, walk_in, name_within}
use Rattle.dns_message.specs.Records.{octets_end, question_at}
use Rattle.dns_message.specs.Messages.{first_question}
use Rattle.dns_message.specs.Values.{Question}
use Rattle.step_values.specs.declared.action.Why.{Why}
use Rattle.step_values.specs.declared.action.Why.TheVariants.{Answered, LocalDenied}
use Rattle.step_values.specs.Values.{from_client, restart, tick, send_reply, Step}
use Rattle.step_history.specs.Sound.{AsksIn, FromCache, Replies, SameSections, SameAsEarlierFromCache, Sound}
use Rattle.step_table.proofs.Played.{a, address, config}
use Rattle.worked_claims.proofs.Texts.{question_text, client, step_of}
use Rattle.worked_claims.proofs.Silent.{nothing_heard}
use Rattle.worked_claims.proofs.SameAnswers.{answer, other_identifiers_are_the_same, other_ttls_are_not_the_same}

-- an answer at 2000, and a later answer
abbrev hit : Step
hit = step_of 2000 [] (from_client client (question_text 7 1)) (send_reply client (answer 9 128 60 5 6) Answered ∷ [])

is_from_cache : FromCache hit (address a) (answer 9 128 60 5 6)
unfolding first_question question_at octets_end name_within walk_in name_step
is_from_cache = (refl, inl (refl, refl))

-- a reply for another reason is no answer from cache
abbrev denied : Step
denied = step_of 2000 [] (from_client client (question_text 7 1))
    (send_reply client (answer 9 128 60 5 6) LocalDenied ∷ [])

abbrev is_answered : Why → Bool
is_answered Answered = true
is_answered why = false

a_local_denial_is_not_from_cache : (q : Question) (octets : List ℕ) → FromCache denied q octets → ⊥
a_local_denial_is_not_from_cache q octets hit = by hit.1
  where
    by : Replies denied.outcome.actions octets → ⊥
    by (inl is) = true≢false (sym (ap is_answered is.0))
    by (inr more) = more

-- the step's only answer
the_answer : (octets : List ℕ) → Replies hit.outcome.actions octets → answer 9 128 60 5 6 ≡ octets
the_answer octets (inl is) = is.1
the_answer octets (inr more) = absurd more

-- with a different identifier the answer is the same
the_same_again : SameAsEarlierFromCache config 2000 (address a) (answer 7 128 60 5 6) (hit ∷ [])
the_same_again runs now quiet = (
  λ q octets from same. subst (SameSections (answer 7 128 60 5 6))
      (the_answer octets from.1) other_identifiers_are_the_same,
  tt,
)

-- with different TTLs the answers differ
with_another_ttl : SameAsEarlierFromCache config 2000 (address a) (answer 7 128 59 5 6) (hit ∷ []) → ⊥
unfolding first_question question_at octets_end name_within walk_in name_step
with_another_ttl h =
    other_ttls_are_not_the_same
    ((h refl refl (nothing_heard config hit [] refl)).0 (address a) (answer 9 128 60 5 6) is_from_cache refl)

-- a second later the answer may have different TTLs
a_second_later : SameAsEarlierFromCache config 3000 (address a) (answer 7 128 59 5 6) (hit ∷ [])
a_second_later runs now quiet = absurd (let moments : 2000 ≡ 3000 = now in omega (arith, moments))

-- and after a restart anything
abbrev restarted : Step
restarted = step_of 2000 [] restart []

after_a_restart : SameAsEarlierFromCache config 2000 (address a) (answer 7 128 59 5 6) (restarted ∷ hit ∷ [])
after_a_restart runs now quiet = absurd (true≢false runs)

-- an answer two steps back is repeated, too, if nothing was accepted since
abbrev passes : Step
passes = step_of 2000 [] tick []

the_same_two_steps_back : SameAsEarlierFromCache config 2000 (address a) (answer 7 128 60 5 6) (passes ∷ hit ∷ [])
the_same_two_steps_back runs now quiet = (λ q octets from. absurd (no_question q from.0), the_same_again)
  where
    no_question : (q : Question) → AsksIn None q → ⊥
    no_question q never = never

with_another_ttl_two_steps_back : SameAsEarlierFromCache config 2000 (address a) (answer 7 128 59 5 6)
    (passes ∷ hit ∷ []) → ⊥
with_another_ttl_two_steps_back h =
    with_another_ttl (h refl refl (nothing_heard config passes (hit ∷ []) refl)).1

-- ---- two answers from cache in a single era

-- a second answer at this moment, with these octets
abbrev hit_again : List ℕ → Step
hit_again octets = step_of 2000 [] (from_client client (question_text 7 1)) (send_reply client octets Answered ∷ [])

-- with TTLs different from the first the answers are not sound, for any owners
they_differ : (w : List (List ℕ)) → Sound config (hit_again (answer 7 128 59 5 6) ∷ hit ∷ []) w → ⊥
unfolding first_question question_at octets_end name_within walk_in name_step
they_differ [] s = s
they_differ (is ∷ w) s = with_another_ttl (s.2 (address a) (answer 7 128 59 5 6) (refl, inl (refl, refl)))

-- with another identifier they agree
they_agree : (q : Question) (octets : List ℕ) → FromCache (hit_again (answer 7 128 60 5 6)) q octets
    → SameAsEarlierFromCache config 2000 q octets (hit ∷ [])
unfolding first_question question_at octets_end name_within walk_in name_step
they_agree q octets from = subst (λ (z : Question × List ℕ). SameAsEarlierFromCache config 2000 z.0 z.1 (hit ∷ []))
    (λ k. (question_is k, octets_are from.1 k)) the_same_again
  where
    question_is : address a ≡ q
    question_is = let reads : Some (address a) ≡ Some q = from.0 in cc

    octets_are : Replies (hit_again (answer 7 128 60 5 6)).outcome.actions octets → answer 7 128 60 5 6 ≡ octets
    octets_are (inl is) = is.1
    octets_are (inr more) = absurd more
