-- Draws after a path is closed.
use Rattle.std.proofs.Common.{◌≡◌, ℕ, ◌-◌, List, [], ◌∷◌, Bool, true, false, cond, refl, sym, ap, ◌∙◌, Some, None}
use Rattle.std.specs.Prelude.{◌==◌, ◌%◌, ◌&&◌, ◌||◌, not}
use Rattle.std.specs.List.{list_any}
use Rattle.std.proofs.lemmas.Bool.{eqb-true, eqb-false, eq-eqb, ne_eqb, true≢false, false≢true}
use Rattle.outstanding.specs.declared.ask.Path.{Path}
use Rattle.outstanding.specs.declared.ask.Path.TheVariants.{Udp, Tcp}
use Rattle.outstanding.specs.Draws.{port_of, is_used, is_freed, is_free, udp_draw}
use Rattle.outstanding.specs.Lists.{same_path, without_path}
use Rattle.outstanding.specs.Values.{Ask}
use Rattle.outstanding.proofs.CallerLemmas.{same_path_equal}
use Rattle.step_table.specs.Attempts.{freed_by}

kept_or : (f u s : Bool) → (s ≡ true → f ≡ false) → (f || (u && not s)) ≡ ((f || u) && not s)
kept_or true u true h = absurd (true≢false (h refl))
kept_or true u false h = refl
kept_or false u s h = refl

gone_or : (f u s : Bool) → f ≡ s → (u && not s) ≡ ((f || u) && not s)
gone_or true true true e = refl
gone_or true false true e = refl
gone_or true u false e = absurd (true≢false e)
gone_or false u true e = absurd (false≢true e)
gone_or false u false e = refl

any_left : (F : Ask → Bool) (x : Ask) (ys : List Ask) (u s b : Bool) → list_any F ys ≡ (u && not s) → (b ≡ true → F x ≡ s) → (s ≡ true → F x ≡ b) → list_any F (cond (not b) (x ∷ ys) ys) ≡ ((F x || u) && not s)
any_left F x ys u s true rest same other = rest ∙ gone_or (F x) u s (same refl)
any_left F x ys u s false rest same other = ap (λ v. F x || v) rest ∙ kept_or (F x) u s other

used_left : (port : ℕ) (p : Path) (asks : List Ask) → is_used port (without_path p asks) ≡ (is_used port asks && not (same_path p (Udp port)))
used_left port p [] = refl
used_left port p (x ∷ asks) =
    any_left (λ a. same_path a.path (Udp port)) x (without_path p asks) (is_used port asks) (same_path p (Udp port)) (same_path x.path p) (used_left port p asks)
    (λ t. ap (λ (q : Path). same_path q (Udp port)) (same_path_equal x.path p t)) (λ t. ap (same_path x.path) (sym (same_path_equal p (Udp port) t)))

turned : (a b : ℕ) → (a == b) ≡ (b == a)
turned a b = by (a == b) refl
  where
    by : (v : Bool) → (a == b) ≡ v → v ≡ (b == a)
    by true e = sym (eq-eqb b a (sym (eqb-true a b e)))
    by false e = sym (ne_eqb b a (λ same. eqb-false a b e (sym same)))

free_by : (s u : Bool) → not (u && not s) ≡ (s || not u)
free_by true true = refl
free_by true false = refl
free_by false true = refl
free_by false false = refl

freed_is : (p : Path) (port : ℕ) → same_path p (Udp port) ≡ is_freed port (freed_by p)
freed_is (Udp given) port = turned given port
freed_is (Tcp conn) port = refl

free_left : (port : ℕ) (p : Path) (asks : List Ask) → is_free port (without_path p asks) None ≡ is_free port asks (freed_by p)
free_left port p asks = ap not (used_left port p asks) ∙ free_by (same_path p (Udp port)) (is_used port asks) ∙ ap (λ v. v || not (is_used port asks)) (freed_is p port)

-- the port of the path counts as free
pub draws_left : (words : List ℕ) (p : Path) (asks : List Ask) → udp_draw words (without_path p asks) None ≡ udp_draw words asks (freed_by p)
draws_left [] p asks = refl
draws_left (word ∷ words) p asks = λ i. cond (free_left (port_of word) p asks i) (Some (word % 65536, port_of word)) (draws_left words p asks i)
