-- Listed asks, as the state has them and as their actions showed them.
use Rattle.std.proofs.Common.{◌≡◌, ℕ, ◌%◌, List, [], ◌∷◌, Bool, true, false, cond, refl, ap, ◌∙◌, Option, Some, None}
use Rattle.std.specs.Prelude.{map, option_map, not, ◌&&◌, ◌||◌}
use Rattle.std.specs.List.{list_any}
use Rattle.outstanding.specs.declared.ask.Path.{Path}
use Rattle.outstanding.specs.declared.ask.Path.TheVariants.{Udp}
use Rattle.step_values.specs.Values.{Action}
use Rattle.step_history.specs.History.{ShownAsk, on_path, closes_path}
use Rattle.outstanding.specs.Draws.{is_used, is_freed, port_of, udp_draw}
use Rattle.outstanding.specs.Lists.{on_path as ask_on, same_path}
use Rattle.outstanding.specs.Values.{Ask}
use Rattle.step_history.specs.Draws.{drawn}
use Rattle.theorem_sound.specs.Explains.{shown}

pub on_path-shown : (p : Path) (asks : List Ask) → on_path p (map shown asks) ≡ option_map shown (ask_on p asks)
on_path-shown p [] = refl
on_path-shown p (a ∷ asks) = elim (same_path a.path p) as (λ v. cond v (Some (shown a)) (on_path p (map shown asks)) ≡ option_map shown (cond v (Some a) (ask_on p asks))) [
  | true ↦ refl
  | false ↦ on_path-shown p asks
]

pub shown_from : (r : Option Ask) (q : ShownAsk) → option_map shown r ≡ Some q → (a : Ask) × (r ≡ Some a) × (shown a ≡ q)
shown_from None q e = absurd (cc)
shown_from (Some a) q e = let is : shown a ≡ q = cc in (a, refl, is)

-- ---- draws

used_shown : (port : ℕ) (asks : List Ask) → list_any (λ (a : ShownAsk). same_path a.path (Udp port)) (map shown asks) ≡ is_used port asks
used_shown port [] = refl
used_shown port (a ∷ asks) = ap (λ b. same_path a.path (Udp port) || b) (used_shown port asks)

turned : (u f : Bool) {X : Type 0} (x y : X) → cond (u && not f) x y ≡ cond (f || not u) y x
turned true true x y = refl
turned true false x y = refl
turned false true x y = refl
turned false false x y = refl

-- both draws are equal, if exactly the freed port is closed
pub drawn-shown : (words : List ℕ) (asks : List Ask) (actions : List Action) (freed : Option ℕ) → ((port : ℕ) → closes_path (Udp port) actions ≡ is_freed port freed) → drawn words (map shown asks) actions ≡ udp_draw words asks freed
drawn-shown [] asks actions freed closed = refl
drawn-shown (word ∷ words) asks actions freed closed =
    let port = port_of word in
    (λ i. cond (used_shown port asks i && not (closed port i)) (drawn-shown words asks actions freed closed i) (Some (word % 65536, port)))
    ∙ turned (is_used port asks) (is_freed port freed) (udp_draw words asks freed) (Some (word % 65536, port))
