-- Aliases, and a chain after them.
use Rattle.std.proofs.Common.{◌≡◌, ℕ, ◌+◌, ◌<◌, List, [], ◌∷◌, ◌++◌, length, take, get_or, sym, ap, ◌∙◌, Bor}
use Rattle.std.specs.Prelude.{Result, Ok, Err}
use Rattle.std.proofs.lemmas.List.{take_more, map-append}
use Rattle.record_cache.specs.Values.{Held}
use Rattle.plain_values.specs.Borrowed.{lent}
use Rattle.answer_builder.specs.Transports.{answer_of, stale_answer_of, local_answer_of}
use Rattle.answer_builder.specs.declared.fault.Fault.{Fault}
use Rattle.step_values.specs.declared.event.Client.{Client}
use Rattle.step_values.specs.declared.action.Why.{Why}
use Rattle.step_values.specs.declared.action.Why.TheVariants.{Answered, Stale, LocalDenied, TooLarge}
use Rattle.step_values.specs.Values.{send_reply}
use Rattle.step_table.specs.WaitingQuestions.Values.{Waiting}
use Rattle.step_table.specs.Steps.{failed, sends, transport_of}

-- one more item is borrowed
pub lent_one_more : {X : Type 0} (refs more : List (Bor X)) (r : Bor X) (xs : List X) (i : ℕ) → i < length xs → r.now ≡ get_or xs i r.now → lent refs ≡ take i xs → more ≡ refs ++ r ∷ []
    → lent more ≡ take (i + 1) xs
lent_one_more {X = X} refs more r xs i lt is so_far pushed =
    ap lent pushed ∙ map-append (λ (x : Bor X). x.now) refs (r ∷ []) ∙ (λ j. so_far j ++ is j ∷ []) ∙ sym (take_more xs i r.now lt)

-- and further items
pub lent_then : {X : Type 0} (refs others more : List (Bor X)) (xs : List X) → lent refs ≡ xs → more ≡ refs ++ others → lent more ≡ xs ++ lent others
lent_then {X = X} refs others more xs so_far put = ap lent put ∙ map-append (λ (x : Bor X). x.now) refs others ∙ ap (λ (ys : List X). ys ++ lent others) so_far

-- ---- the reply to a client

pub sends_alike : (why : Why) (x y : Waiting) (answer : Result (List ℕ) Fault) → x.client ≡ y.client → x.asked ≡ y.asked → sends why x answer ≡ sends why y answer
sends_alike why x y (Ok text) client asked = ap (λ (c : Client). send_reply c text why) client
sends_alike why x y (Err fault) client asked = λ i. failed (client i) (asked i) TooLarge

-- from a single chain, two equal questions of a client get equal replies
pub sent_alike : (x y : Waiting) (chain other : List Held) (n : ℕ) → x.client ≡ y.client → x.asked ≡ y.asked → chain ≡ other
    → sends Answered x (answer_of x.asked chain n (transport_of x.client)) ≡ sends Answered y (answer_of y.asked other n (transport_of y.client))
sent_alike x y chain other n client asked same =
    sends_alike Answered x y (answer_of x.asked chain n (transport_of x.client)) client asked ∙ (λ i. sends Answered y (answer_of (asked i) (same i) n (transport_of (client i))))

-- so do they from stale entries, and after aliases to a denied name
pub stale_alike : (x y : Waiting) (chain other : List Held) (stale_from n : ℕ) → x.client ≡ y.client → x.asked ≡ y.asked → chain ≡ other
    → sends Stale x (stale_answer_of x.asked chain stale_from n (transport_of x.client)) ≡ sends Stale y (stale_answer_of y.asked other stale_from n (transport_of y.client))
stale_alike x y chain other stale_from n client asked same =
    sends_alike Stale x y (stale_answer_of x.asked chain stale_from n (transport_of x.client)) client asked ∙ (λ i. sends Stale y (stale_answer_of (asked i) (same i) stale_from n (transport_of (client i))))

pub local_alike : (x y : Waiting) (chain other : List Held) (n : ℕ) → x.client ≡ y.client → x.asked ≡ y.asked → chain ≡ other
    → sends LocalDenied x (local_answer_of x.asked chain n (transport_of x.client)) ≡ sends LocalDenied y (local_answer_of y.asked other n (transport_of y.client))
local_alike x y chain other n client asked same =
    sends_alike LocalDenied x y (local_answer_of x.asked chain n (transport_of x.client)) client asked ∙ (λ i. sends LocalDenied y (local_answer_of (asked i) (same i) n (transport_of (client i))))
