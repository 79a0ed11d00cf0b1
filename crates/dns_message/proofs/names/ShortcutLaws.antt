-- Runs beginning with a pointer.
use Rattle.std.proofs.Common.{◌≡◌, ℕ, ◌+◌, ◌-◌, ◌<◌, ◌≤◌, List, [], length, get_or, set, replicate, Some, refl, sym, subst, ◌∙◌, arith, ⊎_elim}
use Rattle.std.proofs.lemmas.List.{get_or-set_other, get_or-replicate, length-replicate}
use Rattle.std.proofs.Math.ListN.{get_or-eq_default}
use Rattle.std.proofs.lemmas.Grind.{get_or-set_at}
use Rattle.std.proofs.lemmas.Bool.{cases_eq, cases_lt}
use Rattle.dns_message.specs.declared.names.walk.NameOctet.TheVariants as steps
use Rattle.dns_message.specs.Names.{target, step, whole, resume}
use Rattle.dns_message.specs.Shortcuts.{SameRun, IsShortcut, AreShortcuts}
use Rattle.dns_message.proofs.names.NameLaws.{did, resume_pointer}

pub same_run : (bytes : List ℕ) (o : ℕ) → SameRun bytes o o
same_run bytes o used end le = refl

pub same_run_onward : (bytes : List ℕ) (o p e : ℕ) → SameRun bytes o p → SameRun bytes p e → SameRun bytes o e
same_run_onward bytes o p e a b used end le = a used end le ∙ b used end le

-- two places that read like a third read alike
pub same_run_from : (bytes : List ℕ) (o p e : ℕ) → SameRun bytes o p → SameRun bytes o e → SameRun bytes p e
same_run_from bytes o p e a b used end le = sym (a used end le) ∙ b used end le

pointer_step : (bytes : List ℕ) (o used : ℕ) → o + 2 ≤ length bytes → 192 ≤ get_or bytes o 0 → target bytes o < o → step bytes (whole bytes) o o used ≡ did (steps.Pointer (target bytes o))
unfolding step
pointer_step bytes o used there form back = grind (arith, there, form, back)

pub same_run_behind : (bytes : List ℕ) (o : ℕ) → o + 2 ≤ length bytes → 192 ≤ get_or bytes o 0 → target bytes o < o → SameRun bytes o (target bytes o)
unfolding resume
same_run_behind bytes o there form back used end le =
    resume_pointer bytes (record { offset = o; run = o; used = used; bound = whole bytes; end = Some end }) (target bytes o) le (pointer_step bytes o used there form back)

pub shortcut_behind : (bytes : List ℕ) (o : ℕ) → o + 2 ≤ length bytes → 192 ≤ get_or bytes o 0 → target bytes o < o → IsShortcut bytes o (target bytes o)
shortcut_behind bytes o there form back = record { back = back; same = same_run_behind bytes o there form back }

pub shortcut_onward : (bytes : List ℕ) (start place next : ℕ) → SameRun bytes start place → IsShortcut bytes place next → SameRun bytes start next
shortcut_onward bytes start place next way shortcut = same_run_onward bytes start place next way shortcut.same

-- one more place is known, or one is forgotten
pub remembered : (bytes ends : List ℕ) (place end value : ℕ) → place < length ends → AreShortcuts bytes ends → SameRun bytes place end → end < place → (0 < value → value ≡ end + 1) → AreShortcuts bytes (set ends place value)
remembered bytes ends place end value inside known same back is o some = ⊎_elim here elsewhere (cases_eq o place)
  where
    here : o ≡ place → IsShortcut bytes o (get_or (set ends place value) o 0 - 1)
    here at =
        let kept : get_or (set ends place value) o 0 ≡ value = get_or-set_at ends place o value 0 at inside in
        let end_is : get_or (set ends place value) o 0 - 1 ≡ end = omega (arith, kept, is (subst (λ (n : ℕ). 0 < n) kept some)) in
        rw (end_is, at) (record { back = back; same = same })

    elsewhere : (o ≡ place → ⊥) → IsShortcut bytes o (get_or (set ends place value) o 0 - 1)
    elsewhere other =
        let kept : get_or (set ends place value) o 0 ≡ get_or ends o 0 = get_or-set_other ends place o value 0 other in
        rw kept (known o (subst (λ (n : ℕ). 0 < n) kept some))

-- a walk goes on at a shortcut's end as at its start
pub resume_shortcut : (bytes : List ℕ) (o e used end : ℕ) → SameRun bytes o e → used ≤ 254
    → resume bytes (record { offset = o; run = o; used = used; bound = whole bytes; end = Some end }) ≡ resume bytes (record { offset = e; run = e; used = used; bound = whole bytes; end = Some end })
unfolding resume
resume_shortcut bytes o e used end same le = same used end le

abbrev pub zeros : ℕ → List ℕ
zeros n = replicate n 0

pub get_or-zeros : (n o : ℕ) → get_or (zeros n) o 0 ≡ 0
get_or-zeros n o = ⊎_elim (λ inside. get_or-replicate n o 0 0 inside) (λ outside. get_or-eq_default (zeros n) 0 (omega (arith, length-replicate {A = ℕ} n 0, outside))) (cases_lt o n)

-- no place is known yet
pub none_known : (bytes : List ℕ) (n : ℕ) → AreShortcuts bytes (zeros n)
none_known bytes n o some = absurd (omega (arith, get_or-zeros n o, some))

pub none_kept : (bytes : List ℕ) → AreShortcuts bytes []
none_kept bytes o some = absurd (omega (arith, some))
