-- Another fate among the fates of questions.
use Rattle.std.proofs.Common.{◌≡◌, ℕ, zero, suc, ◌+◌, ◌<◌, List, [], ◌∷◌, ◌++◌, length, take, drop, get_or, Option, Some, None, slice_get, sym, ap, ◌∙◌, subst, arith}
use Rattle.std.specs.Prelude.{map, option_map}
use Rattle.std.specs.List.{cons_option, flat_map, AllByRecursion}
use Rattle.std.proofs.lemmas.List.{append_assoc, append-nil, drop_more, map-append}
use Rattle.std.proofs.lemmas.Grind.{flat_map-append}
use Rattle.dns_message.specs.Values.{Question}
use Rattle.trust_rank.specs.declared.slot.Slot.{Slot}
use Rattle.step_values.specs.Values.{Action}
use Rattle.waiting_questions.specs.Values.{Waiting}
use Rattle.step_table.specs.Steps.{Fate, reply_in, waiting_in, replies, still_waiting}
use Rattle.reply_decisions.specs.declared.fate.WaitingFate.{WaitingFate}
use Rattle.reply_decisions.specs.Fates.{fate_now, first_wanted}

-- ---- the fate's parts, with the fates left

-- one more reply
pub next_reply : (acts more : List Action) (b : Fate) (rest left : List Fate) (a : Action) → rest ≡ b ∷ left → more ≡ acts ++ a ∷ [] → reply_in b ≡ Some a → more ++ replies left ≡ acts ++ replies rest
next_reply acts more b rest left a rest_is put is =
    ap (λ (zs : List Action). zs ++ replies left) put ∙ append_assoc acts (a ∷ []) (replies left)
    ∙ ap (λ (r : Option Action). acts ++ cons_option r (replies left)) (sym is) ∙ ap (λ (bs : List Fate). acts ++ replies bs) (sym rest_is)

-- a fate without a reply
pub no_reply : (acts : List Action) (b : Fate) (rest left : List Fate) → rest ≡ b ∷ left → reply_in b ≡ None → acts ++ replies left ≡ acts ++ replies rest
no_reply acts b rest left rest_is is = ap (λ (r : Option Action). acts ++ cons_option r (replies left)) (sym is) ∙ ap (λ (bs : List Fate). acts ++ replies bs) (sym rest_is)

-- the mapped value of another element
pub next_mapped : {X Y : Type 0} (f : X → Y) (done more : List Y) (b : X) (o : Y) (rest left : List X) → rest ≡ b ∷ left → more ≡ done ++ o ∷ [] → o ≡ f b → more ++ map f left ≡ done ++ map f rest
next_mapped {X} {Y} f done more b o rest left rest_is put is =
    ap (λ (zs : List Y). zs ++ map f left) put ∙ append_assoc done (o ∷ []) (map f left)
    ∙ ap (λ (r : Y). done ++ r ∷ map f left) is ∙ ap (λ (bs : List X). done ++ map f bs) (sym rest_is)

-- ---- the first wanted question

dropped : {A : Type 0} (items : List (WaitingFate A)) (i : ℕ) (f : WaitingFate A) → i < length items → f ≡ get_or items i f
    → still_waiting (map fate_now (drop i items)) ≡ cons_option (waiting_in (fate_now f)) (still_waiting (map fate_now (drop (i + 1) items)))
dropped {A} items i f lt is =
    ap (λ (fs : List (WaitingFate A)). still_waiting (map fate_now fs)) (drop_more items i f lt)
    ∙ ap (λ (g : WaitingFate A). cons_option (waiting_in (fate_now g)) (still_waiting (map fate_now (drop (i + 1) items)))) (sym is)

pub passed_over : {A : Type 0} (items : List (WaitingFate A)) (i : ℕ) (f : WaitingFate A) → i < length items → f ≡ get_or items i f → waiting_in (fate_now f) ≡ None
    → first_wanted (still_waiting (map fate_now (drop (i + 1) items))) ≡ first_wanted (still_waiting (map fate_now (drop i items)))
passed_over {A} items i f lt is none =
    sym (ap first_wanted (dropped items i f lt is ∙ ap (λ (o : Option Waiting). cons_option o (still_waiting (map fate_now (drop (i + 1) items)))) none))

wanted_first : (o : Option Waiting) (rest : List Waiting) (wanted : Question) → option_map (λ y. y.wanted) o ≡ Some wanted
    → first_wanted (cons_option o rest) ≡ Some wanted
wanted_first None rest wanted is = absurd (cc)
wanted_first (Some y) rest wanted is = is

pub wanted_here : {A : Type 0} (items : List (WaitingFate A)) (i : ℕ) (f : WaitingFate A) (wanted : Question) → i < length items → f ≡ get_or items i f
    → option_map (λ y. y.wanted) (waiting_in (fate_now f)) ≡ Some wanted → first_wanted (still_waiting (map fate_now (drop i items))) ≡ Some wanted
wanted_here {A} items i f wanted lt is wants =
    ap first_wanted (dropped items i f lt is) ∙ wanted_first (waiting_in (fate_now f)) (still_waiting (map fate_now (drop (i + 1) items))) wanted wants

-- ---- the fates so far

-- the question at a place, after the questions before
take_at : (xs : List Waiting) (i : ℕ) (x : Waiting) → slice_get xs i ≡ Some x → take (suc i) xs ≡ take i xs ++ x ∷ []
take_at [] i x there = absurd (cc)
take_at (y ∷ xs) zero x there = let same : y ≡ x = cc in ap (λ (z : Waiting). z ∷ []) same
take_at (y ∷ xs) (suc i) x there = ap (λ (zs : List Waiting). y ∷ zs) (take_at xs i x there)

pub one_more : (fate : Waiting → Fate) (xs : List Waiting) (i : ℕ) (each more : List Fate) (x : Waiting) → each ≡ map fate (take i xs) → slice_get xs i ≡ Some x → more ≡ each ++ fate x ∷ [] → more ≡ map fate (take (i + 1) xs)
one_more fate xs i each more x so_far there put =
    put ∙ ap (λ (fs : List Fate). fs ++ fate x ∷ []) so_far ∙ sym (map-append fate (take i xs) (x ∷ []))
    ∙ ap (map fate) (sym (take_at xs i x there)) ∙ ap (λ (k : ℕ). map fate (take k xs)) (let next : suc i ≡ i + 1 = omega arith in next)

-- the slots used by each question, one after another
pub used_more : (used : Waiting → List Slot) (xs : List Waiting) (i : ℕ) (slots more : List Slot) (x : Waiting) → slots ≡ flat_map used (take i xs) → slice_get xs i ≡ Some x → more ≡ slots ++ used x → more ≡ flat_map used (take (i + 1) xs)
used_more used xs i slots more x so_far there put =
    put ∙ ap (λ (ss : List Slot). ss ++ used x) so_far ∙ ap (λ (ss : List Slot). flat_map used (take i xs) ++ ss) (sym (append-nil (used x))) ∙ sym (flat_map-append used (take i xs) (x ∷ []))
    ∙ ap (flat_map used) (sym (take_at xs i x there)) ∙ ap (λ (k : ℕ). flat_map used (take k xs)) (let next : suc i ≡ i + 1 = omega arith in next)

-- ---- a single waiting question

pub all_at : (P : Waiting → Type 0) (xs : List Waiting) (i : ℕ) (x : Waiting) → AllByRecursion P xs → slice_get xs i ≡ Some x → P x
all_at P [] i x all there = absurd (cc)
all_at P (y ∷ xs) zero x all there = let same : y ≡ x = cc in subst P same all.0
all_at P (y ∷ xs) (suc i) x all there = all_at P xs i x all.1 there
