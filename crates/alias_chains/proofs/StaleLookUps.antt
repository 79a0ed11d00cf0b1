-- A look-up of stale entries on the way.
use Rattle.std.proofs.Common.{◌≡◌, ℕ, zero, suc, ◌+◌, ◌-◌, ◌≤◌, List, [], ◌∷◌, ◌++◌, length, length-append, Option, Some, None, refl, sym, ap, ◌∙◌, inl, inr, subst, ◌⊎◌, arith}
use Rattle.std.specs.Prelude.{option_map}
use Rattle.std.specs.List.{AllByRecursion}
use Rattle.std.proofs.lemmas.List.{append_assoc}
use denote.Ref.{Bor}
use Rattle.dns_message.specs.Values.{Question}
use Rattle.trust_rank.specs.Walks.{target_of}
use Rattle.negative_cache.specs.RecordCache.Values.{Held}
use Rattle.negative_cache.specs.RecordCache.Laws.{Among}
use Rattle.negative_cache.specs.Values.{Found, local, rows, alias, no_data, denied, miss}
use Rattle.negative_cache.specs.Stale.{stale}
use Rattle.negative_cache.specs.Laws.{FitsWithin}
use Rattle.negative_cache.proofs.CallerLemmas.{stale_fits}
use Rattle.plain_values.specs.Borrowed.{lent}
use Rattle.alias_chains.specs.StaleLookUps.{stale_led, stale_followed, look_up_stale}

lent_put : (used : List (Bor Held)) (e : Bor Held) → lent (used ++ e ∷ []) ≡ lent used ++ e.now ∷ []
lent_put [] e = refl
lent_put (u ∷ used) e = ap (λ (es : List Held). u.now ∷ es) (lent_put used e)

-- all aliases are in the cache
abbrev AreAmong : List Held → List Held → Type 0
AreAmong entries held = AllByRecursion (λ h. Among h entries) held

put_among : (entries held : List Held) (e : Held) → AreAmong entries held → Among e entries → AreAmong entries (held ++ e ∷ [])
put_among entries [] e all one = (one, tt)
put_among entries (h ∷ held) e all one = (all.0, put_among entries held e all.1 one)

-- after these entries
abbrev pub behind : List Held → Option (List Held) → Option (List Held)
behind used rest = option_map (λ chain. used ++ chain) rest

behind_one : (used : List Held) (e : Held) (rest : Option (List Held)) → behind (used ++ e ∷ []) rest ≡ behind used (option_map (λ chain. e ∷ chain) rest)
behind_one used e None = refl
behind_one used e (Some chain) = ap Some (append_assoc used (e ∷ []) chain)

module _ (window n : ℕ) (entries : List Held) (class kind most : ℕ) where
  abbrev pub at : List (List ℕ) → Question
  at name = record { name = name; kind = kind; class = class }

  -- with these aliases used, the look-up from this name on is the whole look-up
  pub record IsOnStale (used : List (Bor Held)) (name : List (List ℕ)) (all : Option (List Held)) : Type 0 where
    pub few : length used ≤ most
    pub left : (more : ℕ) → length used + more ≡ most → behind (lent used) (look_up_stale window n entries more (at name)) ≡ all
    pub among : AreAmong entries (lent used)

  behind_none : (rest : Option (List Held)) → behind [] rest ≡ rest
  behind_none None = refl
  behind_none (Some chain) = refl

  pub at_first : (name : List (List ℕ)) → IsOnStale [] name (look_up_stale window n entries most (at name))
  at_first name = record {
    few = omega arith;
    left = λ more sum. let whole : more ≡ most = omega (arith, sum) in behind_none (look_up_stale window n entries more (at name)) ∙ ap (λ (m : ℕ). look_up_stale window n entries m (at name)) whole;
    among = tt;
  }

  -- the look-up at a name with this finding
  found_at : (more : ℕ) (name : List (List ℕ)) (f : Found) (r : Option (List Held)) → f ≡ stale window n entries (at name) → ((onward : List (List ℕ) → Option (List Held)) → stale_followed onward f ≡ r)
      → look_up_stale window n entries more (at name) ≡ r
  found_at zero name f r is so = ap (stale_followed (λ target. None)) (sym is) ∙ so (λ target. None)
  found_at (suc more) name f r is so =
      ap (stale_followed (λ target. look_up_stale window n entries more (at target))) (sym is) ∙ so (λ target. look_up_stale window n entries more (at target))

  left_of : (used : List (Bor Held)) (name : List (List ℕ)) (all : Option (List Held)) (f : Found) (r : Option (List Held)) → IsOnStale used name all → f ≡ stale window n entries (at name)
      → ((onward : List (List ℕ) → Option (List Held)) → stale_followed onward f ≡ r) → behind (lent used) r ≡ all
  left_of used name all f r way is so =
      ap (behind (lent used)) (sym (found_at (most - length used) name f r is so)) ∙ way.left (most - length used) (let few = way.few in omega (arith, few))

  -- no usable finding
  pub at_local : (used : List (Bor Held)) (name : List (List ℕ)) (all : Option (List Held)) → IsOnStale used name all → local ≡ stale window n entries (at name) → None ≡ all
  at_local used name all way is = left_of used name all local None way is (λ onward. refl)

  pub at_no_data : (used : List (Bor Held)) (name : List (List ℕ)) (all : Option (List Held)) (e : Held) → IsOnStale used name all → no_data e ≡ stale window n entries (at name) → None ≡ all
  at_no_data used name all e way is = left_of used name all (no_data e) None way is (λ onward. refl)

  pub at_denied : (used : List (Bor Held)) (name : List (List ℕ)) (all : Option (List Held)) (e : Held) → IsOnStale used name all → denied e ≡ stale window n entries (at name) → None ≡ all
  at_denied used name all e way is = left_of used name all (denied e) None way is (λ onward. refl)

  pub at_miss : (used : List (Bor Held)) (name : List (List ℕ)) (all : Option (List Held)) → IsOnStale used name all → miss ≡ stale window n entries (at name) → None ≡ all
  at_miss used name all way is = left_of used name all miss None way is (λ onward. refl)

  -- a set
  pub at_rows : (used after : List (Bor Held)) (name : List (List ℕ)) (all : Option (List Held)) (e : Bor Held) → IsOnStale used name all → rows e.now ≡ stale window n entries (at name) → after ≡ used ++ e ∷ []
      → Some (lent after) ≡ all
  at_rows used after name all e way is put =
      ap Some (ap lent put ∙ lent_put used e) ∙ left_of used name all (rows e.now) (Some (e.now ∷ [])) way is (λ onward. refl)

  -- an alias without a target
  pub at_no_target : (used : List (Bor Held)) (name : List (List ℕ)) (all : Option (List Held)) (e : Held) → IsOnStale used name all → alias e ≡ stale window n entries (at name) → target_of e.piece.body ≡ None → None ≡ all
  at_no_target used name all e way is none = left_of used name all (alias e) None way is (λ onward. ap (stale_led onward e) none)

  led_nowhere : (e : Held) (t : Option (List (List ℕ))) → stale_led (λ target. None) e t ≡ None
  led_nowhere e None = refl
  led_nowhere e (Some target) = refl

  -- one alias more than allowed
  pub at_full : (used : List (Bor Held)) (name : List (List ℕ)) (all : Option (List Held)) (e : Held) → IsOnStale used name all → alias e ≡ stale window n entries (at name) → length used ≡ most → None ≡ all
  at_full used name all e way is full =
      ap (behind (lent used)) (sym (ap (stale_followed (λ target. None)) (sym is) ∙ led_nowhere e (target_of e.piece.body))) ∙ way.left 0 (omega (arith, full))

  among_of : (name : List (List ℕ)) (f : Found) → FitsWithin window n entries (at name) f → (e : Held) → (f ≡ rows e) ⊎ (f ≡ alias e) → Among e entries
  among_of name local fits e is = absurd fits
  among_of name (rows h) fits e (inl is) = let same : h ≡ e = cc in subst (λ (x : Held). Among x entries) same fits.among
  among_of name (rows h) fits e (inr is) = absurd (cc)
  among_of name (alias h) fits e (inl is) = absurd (cc)
  among_of name (alias h) fits e (inr is) = let same : h ≡ e = cc in subst (λ (x : Held). Among x entries) same fits.0.among
  among_of name (no_data h) fits e is = absurd fits
  among_of name (denied h) fits e is = absurd fits
  among_of name miss fits e (inl is) = absurd (cc)
  among_of name miss fits e (inr is) = absurd (cc)

  -- an alias with a target
  pub on_alias : (used after : List (Bor Held)) (name target : List (List ℕ)) (all : Option (List Held)) (e : Bor Held) → IsOnStale used name all → alias e.now ≡ stale window n entries (at name)
      → (length used ≡ most → ⊥) → target_of e.now.piece.body ≡ Some target → after ≡ used ++ e ∷ [] → IsOnStale after target all
  on_alias used after name target all e way is room leads put =
      let count : length after ≡ length used + 1 = ap length put ∙ length-append used (e ∷ []) in
      let few = way.few in
      record {
        few = omega (arith, few, count, room);
        left = λ more sum.
            ap (λ (us : List (Bor Held)). behind (lent us) (look_up_stale window n entries more (at target))) put
            ∙ ap (λ (hs : List Held). behind hs (look_up_stale window n entries more (at target))) (lent_put used e)
            ∙ behind_one (lent used) e.now (look_up_stale window n entries more (at target))
            ∙ ap (behind (lent used)) (sym (ap (stale_followed (λ name'. look_up_stale window n entries more (at name'))) (sym is) ∙ ap (stale_led (λ name'. look_up_stale window n entries more (at name')) e.now) leads))
            ∙ way.left (suc more) (omega (arith, sum, count));
        among = subst (AreAmong entries) (sym (ap lent put ∙ lent_put used e)) (put_among entries (lent used) e.now way.among (among_of name (alias e.now) (subst (FitsWithin window n entries (at name)) (sym is) (stale_fits window n entries (at name))) e.now (inr refl)));
      }

  -- and with a set all are among the entries
  pub all_among : (used after : List (Bor Held)) (name : List (List ℕ)) (all : Option (List Held)) (e : Bor Held) → IsOnStale used name all → rows e.now ≡ stale window n entries (at name) → after ≡ used ++ e ∷ []
      → AreAmong entries (lent after)
  all_among used after name all e way is put =
      subst (AreAmong entries) (sym (ap lent put ∙ lent_put used e)) (put_among entries (lent used) e.now way.among (among_of name (rows e.now) (subst (FitsWithin window n entries (at name)) (sym is) (stale_fits window n entries (at name))) e.now (inl refl)))
