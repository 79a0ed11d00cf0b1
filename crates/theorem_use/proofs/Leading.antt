-- A look-up leads along living pieces, and uses their slots.
use Rattle.std.proofs.Common.{◌≡◌, ◌≢◌, ◌∙◌, ℕ, zero, suc, ◌≤◌, List, [], ◌∷◌, ◌++◌, length, map, refl, sym, ap, inl, inr, ◌⊎◌, arith, Option, Some, None, append_assoc}
use Rattle.std.specs.Prelude.{◌==◌, ◌&&◌}
use Rattle.std.proofs.lemmas.Bool.{and_parts, eqb-true, ltb-true}
use Rattle.dns_name.specs.Labels.{is_under}
use Rattle.dns_name.proofs.CallerLemmas.{is_under_decides}
use Rattle.dns_message.specs.Values.{Question}
use Rattle.dns_message.specs.Questions.{asked_at}
use Rattle.suffix_routes.specs.Values.{Route}
use Rattle.trust_rank.specs.declared.slot.Slot.{Slot}
use Rattle.trust_rank.specs.Walks.{target_of}
use Rattle.trust_rank.specs.Replacing.{is_name_error}
use Rattle.trust_rank.specs.Formed.{IsPiece}
use Rattle.record_cache.specs.Values.{Held}
use Rattle.record_cache.specs.Ageing.{end_of}
use Rattle.record_cache.specs.Entries.{AreHeld}
use Rattle.record_cache.specs.Laws.{Among}
use Rattle.negative_cache.specs.Values.{Found}
use Rattle.negative_cache.specs.Values as result
use Rattle.negative_cache.specs.Finding.{found}
use Rattle.negative_cache.specs.Laws.{Fits, IsLiving as IsLivingEntry, IsTyped, IsDenial}
use Rattle.negative_cache.proofs.CallerLemmas.{found_fits}
use Rattle.step_history.proofs.CacheLaws.CallerLemmas.{one_slot}
use Rattle.step_history.specs.Carried.{NotReplaced}
use Rattle.step_history.specs.Answers.{IsOf, EndsChain}
use Rattle.step_history.proofs.CallerLemmas.{alias_to}
use Rattle.alias_chains.specs.LookingUp.{ends, missed, LookUp, ended, missing, look_up_on, look_up_after, one_too_many, through, look_up}
use Rattle.theorem_sound.proofs.TheoremCache.CallerLemmas.{all_among, set_ends, no_data_ends, denial_ends}
use Rattle.theorem_use.specs.Touched.{Touched, carried_in, IsLiving, LeadsAlong}
use Rattle.theorem_use.proofs.Ending.{Ends}

-- ---- how few

-- a look-up uses at most one slot more than the allowed aliases
few_behind : (k : ℕ) (held : List Held) (q : Question) (onward : Held → List (List ℕ) → LookUp)
    → ((e : Held) (name : List (List ℕ)) → length (onward e name).used ≤ suc k) → (e : Held) (target : Option (List (List ℕ)))
    → length (look_up_on held q onward e target).used ≤ suc k
few_behind k held q onward few e None = omega arith
few_behind k held q onward few e (Some name) = few e name

few_after : (k : ℕ) (held : List Held) (q : Question) (onward : Held → List (List ℕ) → LookUp)
    → ((e : Held) (name : List (List ℕ)) → length (onward e name).used ≤ suc k) → (f : Found)
    → length (look_up_after held q onward f).used ≤ suc k
few_after k held q onward few result.local = omega arith
few_after k held q onward few (result.rows e) = omega arith
few_after k held q onward few (result.alias e) = few_behind k held q onward few e (target_of e.piece.body)
few_after k held q onward few (result.no_data e) = omega arith
few_after k held q onward few (result.denied e) = omega arith
few_after k held q onward few result.miss = omega arith

pub uses_few : (routes : List Route) (n : ℕ) (entries : List Held) (more : ℕ) (held : List Held) (q : Question)
    → length (look_up routes n entries more held q).used ≤ suc more
uses_few routes n entries zero held q = few_after 0 held q (one_too_many held q) (λ e name. omega arith) (found routes n entries q)
uses_few routes n entries (suc more) held q =
    few_after (suc more) held q (λ e target. through e (look_up routes n entries more (held ++ e ∷ []) (asked_at q target)))
    (λ e name. let rest = uses_few routes n entries more (held ++ e ∷ []) (asked_at q name) in omega (arith, rest)) (found routes n entries q)

-- ---- the pieces of a look-up

-- a missed look-up has no end
no_end_missing : (held : List Held) (q : Question) → Ends (record { held = held; wanted = q; met = missed; used = [] }) → ⊥
no_end_missing held q (e, is) = absurd (cc)

module _ (Misses : Type 0) (routes : List Route) (n capacity : ℕ) (ts : List Touched) (es : List Held)
    (held : AreHeld (record { capacity = capacity; entries = es })) (stay : (h : Held) → Among h es → NotReplaced h (carried_in ts)) where
  living : (h : Held) → IsLivingEntry n es h → IsLiving n ts h
  living h is = (stay h is.among, ltb-true n (end_of h) is.alive)

  of_type : (q : Question) (kind : ℕ) (h : Held) → IsTyped n es q kind h → IsOf h.piece q.name q.class (Some kind)
  of_type q kind h typed =
      let one = one_slot (record { key = q.name; class = q.class; kind = Some kind }) h.piece.slot typed.slot in
      record { name = sym one.name; class = sym one.class; kind = sym one.kind }

  -- a look-up leads along the pieces and uses their slots; at an end, all its pieces are `taken`
  -- and then these
  pub record LeadsSo (taken : List Held) (q : Question) (l : LookUp) : Type 0 where
    pub pieces : List Held
    pub leads : LeadsAlong Misses n ts q pieces
    pub used : l.used ≡ map (λ h. h.piece.slot) pieces
    pub whole : (e : Held) → l.met ≡ ends e → taken ++ pieces ≡ l.held ++ e ∷ []

  stops : (taken : List Held) (q : Question) (e : Held) → IsLivingEntry n es e → EndsChain q e.piece e.piece.body → LeadsSo taken q (ended taken q e)
  stops taken q e lives end = record {
    pieces = e ∷ [];
    leads = (living e lives, inl (end, refl));
    used = refl;
    whole = λ other is. (let same : e ≡ other = cc in ap (λ (h : Held). taken ++ h ∷ []) same);
  }

  error_ends : (q : Question) (e : Held) → IsDenial routes n es q e → EndsChain q e.piece e.piece.body
  error_ends q e denial =
      let outer = and_parts (is_name_error e.piece && (q.class == e.piece.slot.class)) (is_under q.name e.piece.slot.key) denial.denies in
      let inner = and_parts (is_name_error e.piece) (q.class == e.piece.slot.class) outer.0 in
      let formed = all_among (λ x. IsPiece x.piece) e es held.formed denial.living.among in
      denial_ends q e.piece e.piece.slot.kind e.piece.body refl formed.body inner.0 ((is_under_decides q.name e.piece.slot.key).0 outer.1) (sym (eqb-true q.class e.piece.slot.class inner.1))

  -- a look-up ends, or misses
  abbrev Leads : List Held → Question → LookUp → Type 0
  Leads taken q l = Ends l ⊎ Misses → LeadsSo taken q l

  misses : (taken : List Held) (q : Question) → Misses → LeadsSo taken q (missing taken q)
  misses taken q none = record { pieces = []; leads = none; used = refl; whole = λ e is. absurd (no_end_missing taken q (e, is)) }

  -- the look-up goes on so from an alias
  abbrev GoesOn : List Held → Question → (Held → List (List ℕ) → LookUp) → Type 0
  GoesOn taken q onward = (e : Held) (name : List (List ℕ)) → IsTyped n es q 5 e → q.kind ≢ 5 → target_of e.piece.body ≡ Some name → Leads taken q (onward e name)

  behind_leads : (taken : List Held) (q : Question) (onward : Held → List (List ℕ) → LookUp) → GoesOn taken q onward → (e : Held) → IsTyped n es q 5 e → q.kind ≢ 5
      → (target : Option (List (List ℕ))) → target_of e.piece.body ≡ target → Leads taken q (look_up_on taken q onward e target)
  behind_leads taken q onward goes e typed other None is (inl end) = absurd (no_end_missing taken q end)
  behind_leads taken q onward goes e typed other None is (inr none) = misses taken q none
  behind_leads taken q onward goes e typed other (Some name) is stop = goes e name typed other is stop

  after_leads : (taken : List Held) (q : Question) (onward : Held → List (List ℕ) → LookUp) → GoesOn taken q onward → (f : Found) → Fits routes n es q f → Leads taken q (look_up_after taken q onward f)
  after_leads taken q onward goes result.local fits stop = absurd fits
  after_leads taken q onward goes (result.rows e) fits stop = stops taken q e fits.0.living (set_ends q e.piece e.piece.body fits.1 (of_type q q.kind e fits.0))
  after_leads taken q onward goes (result.alias e) fits stop = behind_leads taken q onward goes e fits.0 fits.2 (target_of e.piece.body) refl stop
  after_leads taken q onward goes (result.no_data e) fits stop = stops taken q e fits.0.living (no_data_ends q e.piece e.piece.body fits.1 (of_type q q.kind e fits.0))
  after_leads taken q onward goes (result.denied e) fits stop = stops taken q e fits.living (error_ends q e fits)
  after_leads taken q onward goes result.miss fits (inl end) = absurd (no_end_missing taken q end)
  after_leads taken q onward goes result.miss fits (inr none) = misses taken q none

  -- from an alias along the following pieces
  along : (q : Question) (e : Held) (name : List (List ℕ)) (pieces : List Held) → IsTyped n es q 5 e → q.kind ≢ 5 → target_of e.piece.body ≡ Some name
      → LeadsAlong Misses n ts (asked_at q name) pieces → LeadsAlong Misses n ts q (e ∷ pieces)
  along q e name pieces typed other is rest = (living e typed.living, inr (other, of_type q 5 e typed, name, alias_to e.piece name is, rest))

  through_leads : (taken : List Held) (q : Question) (e : Held) (name : List (List ℕ)) (more : ℕ) → IsTyped n es q 5 e → q.kind ≢ 5 → target_of e.piece.body ≡ Some name
      → LeadsSo (taken ++ e ∷ []) (asked_at q name) (look_up routes n es more (taken ++ e ∷ []) (asked_at q name))
      → LeadsSo taken q (through e (look_up routes n es more (taken ++ e ∷ []) (asked_at q name)))
  through_leads taken q e name more typed other is rest = record {
    pieces = e ∷ rest.pieces;
    leads = along q e name rest.pieces typed other is rest.leads;
    used = ap (λ (slots : List Slot). e.piece.slot ∷ slots) rest.used;
    whole = λ h end. sym (append_assoc taken (e ∷ []) rest.pieces) ∙ rest.whole h end;
  }

  pub look_up_leads : (more : ℕ) (taken : List Held) (q : Question) → Leads taken q (look_up routes n es more taken q)
  look_up_leads zero taken q = after_leads taken q (one_too_many taken q) long (found routes n es q) (found_fits routes n es q)
    where
      long : GoesOn taken q (one_too_many taken q)
      long e name typed other is (inl (h, end)) = absurd (cc)
      long e name typed other is (inr none) = record { pieces = e ∷ []; leads = along q e name [] typed other is none; used = refl; whole = λ h end. absurd (cc) }
  look_up_leads (suc more) taken q =
      after_leads taken q (λ e target. through e (look_up routes n es more (taken ++ e ∷ []) (asked_at q target)))
      (λ e name typed other is stop. through_leads taken q e name more typed other is (look_up_leads more (taken ++ e ∷ []) (asked_at q name) stop))
      (found routes n es q) (found_fits routes n es q)
