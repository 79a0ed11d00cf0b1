-- If the living entries are the standing pieces, look-ups among both find the same.
use Rattle.std.proofs.Common.{◌≡◌, ◌∙◌, ℕ, ◌≤◌, List, [], ◌∷◌, length, filter, Bool, true, false, cond, refl, sym, ap, subst, inl, inr, arith, Option, Some, None}
use Rattle.std.specs.Prelude.{◌==◌, ◌&&◌, nat_lt, is_none}
use Rattle.std.specs.List.{find}
use Rattle.std.proofs.lemmas.Bool.{and_parts, eqb-true, ltb-true, ltb-false, true≢false}
use Rattle.dns_name.specs.Labels.{lowered, is_under}
use Rattle.dns_name.proofs.CallerLemmas.{is_under_decides, lowered_again, suffixes_same}
use Rattle.dns_message.specs.Values.{Question}
use Rattle.suffix_routes.specs.Values.{Route}
use Rattle.trust_rank.specs.declared.slot.Slot.{Slot}
use Rattle.trust_rank.specs.Replacing.{same_slot, is_name_error}
use Rattle.trust_rank.specs.Formed.{IsPiece}
use Rattle.record_cache.specs.Values.{Held}
use Rattle.record_cache.specs.Ageing.{is_alive}
use Rattle.record_cache.specs.Entries.{of_slot, AreHeld}
use Rattle.record_cache.specs.Laws.{Among}
use Rattle.record_cache.proofs.CallerLemmas.{among_filter, slots_are_the_same, slots_decide}
use Rattle.negative_cache.specs.Values.{rows, alias, no_data, denied, miss}
use Rattle.negative_cache.specs.Entries.{is_set, is_no_data, denies}
use Rattle.negative_cache.specs.Finding.{is_of_type, is_on_route, is_denial_for, nearer, nearest, denial_for, found_or, found}
use Rattle.theorem_sound.proofs.TheoremCache.CallerLemmas.{all_among, among_filtered, entry_among}
use Rattle.step_history.proofs.CacheLaws.CallerLemmas.{one_slot, slot_test}

-- ---- the first member passing a test

-- a found member is in the list and passes
pub found_is : (test : Held → Bool) (es : List Held) (h : Held) → find test es ≡ Some h → Among h es × (test h ≡ true)
found_is test [] h is = absurd (cc)
found_is test (e ∷ es) h is = by (found_is test es h) (test e) refl is
  where
    by : (find test es ≡ Some h → Among h es × (test h ≡ true)) → (b : Bool) → test e ≡ b → cond b (Some e) (find test es) ≡ Some h → Among h (e ∷ es) × (test h ≡ true)
    by behind true t same = let one : e ≡ h = cc in (inl one, sym (ap test one) ∙ t)
    by behind false f rest = let more = behind rest in (inr more.0, more.1)

-- if nothing is found, no member passes
pub none_passes : (test : Held → Bool) (es : List Held) → find test es ≡ None → (h : Held) → Among h es → test h ≡ true → ⊥
none_passes test [] none h among t = among
none_passes test (e ∷ es) none h among t = by (λ rest later. none_passes test es rest h later t) (test e) refl none among
  where
    by : (find test es ≡ None → Among h es → ⊥) → (b : Bool) → test e ≡ b → cond b (Some e) (find test es) ≡ None → Among h (e ∷ es) → ⊥
    by behind true p bad place = absurd (cc)
    by behind false f rest (inl here) = true≢false (sym t ∙ sym (ap test here) ∙ f)
    by behind false f rest (inr later) = behind rest later

-- a search finds the same in two lists with the same passing members, at most one
find_alike : (test : Held → Bool) (es st : List Held) → ((h : Held) → Among h es → test h ≡ true → Among h st) → ((h : Held) → Among h st → test h ≡ true → Among h es)
    → ((h k : Held) → Among h es → Among k es → test h ≡ true → test k ≡ true → h ≡ k) → find test es ≡ find test st
find_alike test es st over back one = by (find test es) refl (find test st) refl
  where
    by : (a : Option Held) → find test es ≡ a → (b : Option Held) → find test st ≡ b → find test es ≡ find test st
    by (Some h) is (Some k) was =
        let mine = found_is test es h is in
        let other = found_is test st k was in
        is ∙ ap Some (one h k mine.0 (back k other.0 other.1) mine.1 other.1) ∙ sym was
    by (Some h) is None none = let mine = found_is test es h is in absurd (none_passes test st none h (over h mine.0 mine.1) mine.1)
    by None none (Some k) was = let other = found_is test st k was in absurd (none_passes test es none k (back k other.0 other.1) other.1)
    by None none None no_other = none ∙ sym no_other

-- ---- the nearest

pub none_near : (es : List Held) → nearest es ≡ None → (h : Held) → Among h es → ⊥
none_near [] none h among = among
none_near (e ∷ es) none h among = absurd (cc)

-- no member has more labels
abbrev IsNearest : Held → List Held → Type 0
IsNearest h es = Among h es × ((k : Held) → Among k es → length k.piece.slot.key ≤ length h.piece.slot.key)

nearest_is : (es : List Held) (h : Held) → nearest es ≡ Some h → IsNearest h es
nearest_is [] h is = absurd (cc)
nearest_is (e ∷ es) h is = by (nearest_is es) (nearest es) refl is
  where
    by : ((o : Held) → nearest es ≡ Some o → IsNearest o es) → (o : Option Held) → nearest es ≡ o → Some (nearer e o) ≡ Some h → IsNearest h (e ∷ es)
    by behind None none same = let one : e ≡ h = cc in (inl one, alone one)
      where
        alone : e ≡ h → (k : Held) → Among k (e ∷ es) → length k.piece.slot.key ≤ length h.piece.slot.key
        alone one k (inl here) = let a = ap (λ (x : Held). length x.piece.slot.key) here in let b = ap (λ (x : Held). length x.piece.slot.key) one in omega (arith, a, b)
        alone one k (inr later) = absurd (none_near es none k later)
    by behind (Some o) some same = at (nat_lt (length e.piece.slot.key) (length o.piece.slot.key)) refl same
      where
        rest : IsNearest o es
        rest = behind o some

        at : (b : Bool) → nat_lt (length e.piece.slot.key) (length o.piece.slot.key) ≡ b → Some (cond b o e) ≡ Some h → IsNearest h (e ∷ es)
        at true t same' = let one : o ≡ h = cc in subst (λ (x : Held). IsNearest x (e ∷ es)) one (inr rest.0, far)
          where
            far : (k : Held) → Among k (e ∷ es) → length k.piece.slot.key ≤ length o.piece.slot.key
            far k (inl here) = let less = ltb-true (length e.piece.slot.key) (length o.piece.slot.key) t in let a = ap (λ (x : Held). length x.piece.slot.key) here in omega (arith, less, a)
            far k (inr later) = rest.1 k later
        at false f same' = let one : e ≡ h = cc in subst (λ (x : Held). IsNearest x (e ∷ es)) one (inl refl, far)
          where
            far : (k : Held) → Among k (e ∷ es) → length k.piece.slot.key ≤ length e.piece.slot.key
            far k (inl here) = let a = ap (λ (x : Held). length x.piece.slot.key) here in omega (arith, a)
            far k (inr later) = let le = ltb-false (length e.piece.slot.key) (length o.piece.slot.key) f in let more = rest.1 k later in omega (arith, le, more)

-- ---- entries of a slot

-- a slot has a single entry
pub entry_alone : (capacity : ℕ) (es : List Held) → AreHeld (record { capacity = capacity; entries = es }) → (h k : Held) → Among h es → Among k es → same_slot h.piece.slot k.piece.slot ≡ true → h ≡ k
entry_alone capacity es held h k mine other same =
    let exact : of_slot h.piece.slot k ≡ true = slots_are_the_same h.piece.slot k.piece.slot (own_key h mine) (own_key k other) ∙ same in
    let own : of_slot h.piece.slot h ≡ true = (slots_decide h.piece.slot h.piece.slot).1 refl in
    let both : Some h ≡ Some k = sym (entry_among h.piece.slot h es held.apart mine own) ∙ entry_among h.piece.slot k es held.apart other exact in
    let is : h ≡ k = cc in
    is
  where
    own_key : (e : Held) → Among e es → lowered e.piece.slot.key ≡ e.piece.slot.key
    own_key e among =
        let formed = all_among (λ x. IsPiece x.piece) e es held.formed among in
        ap lowered formed.key ∙ lowered_again e.piece.owner ∙ sym formed.key

-- two pieces of a type are in one slot
pub one_type : (q : Question) (kind : ℕ) (h k : Held) → is_of_type q kind h ≡ true → is_of_type q kind k ≡ true → same_slot h.piece.slot k.piece.slot ≡ true
one_type q kind h k a b =
    let asked : Slot = record { key = q.name; class = q.class; kind = Some kind } in
    let one = one_slot asked h.piece.slot a in
    let two = one_slot asked k.piece.slot b in
    slot_test h.piece.slot k.piece.slot (record { name = sym one.name ∙ two.name; class = sym one.class ∙ two.class; kind = sym one.kind ∙ two.kind })

-- ---- look-ups at a name

module _ (routes : List Route) (m capacity : ℕ) (es st : List Held) (held : AreHeld (record { capacity = capacity; entries = es }))
    (over : (h : Held) → Among h es → is_alive m h ≡ true → Among h st) (back : (h : Held) → Among h st → Among h es) (q : Question) where
  abbrev one_entry : (h k : Held) → Among h es → Among k es → same_slot h.piece.slot k.piece.slot ≡ true → h ≡ k
  one_entry = entry_alone capacity es held

  typed_alike : (kind : ℕ) (what : Held → Bool) → find (λ h. is_of_type q kind h && (is_alive m h && what h)) es ≡ find (λ h. is_of_type q kind h && (is_alive m h && what h)) st
  typed_alike kind what = find_alike test es st
      (λ h among t. over h among (and_parts (is_alive m h) (what h) (and_parts (is_of_type q kind h) (is_alive m h && what h) t).1).0)
      (λ h among t. back h among)
      (λ h k mine other t u. one_entry h k mine other (one_type q kind h k (and_parts (is_of_type q kind h) (is_alive m h && what h) t).0 (and_parts (is_of_type q kind k) (is_alive m k && what k) u).0))
    where
      test : Held → Bool
      test h = is_of_type q kind h && (is_alive m h && what h)

  -- ---- name errors

  abbrev denial : Held → Bool
  denial h = is_denial_for routes m q h

  pub record IsDenial (h : Held) : Type 0 where
    pub alive : is_alive m h ≡ true
    pub error : is_name_error h.piece ≡ true
    pub class : q.class ≡ h.piece.slot.class
    pub under : is_under q.name h.piece.slot.key ≡ true

  denial_is : (h : Held) → denial h ≡ true → IsDenial h
  denial_is h t =
      let outer = and_parts (is_alive m h && is_on_route routes q h) (denies q.name q.class h) t in
      let first = and_parts (is_alive m h) (is_on_route routes q h) outer.0 in
      let second = and_parts (is_name_error h.piece && (q.class == h.piece.slot.class)) (is_under q.name h.piece.slot.key) outer.1 in
      let third = and_parts (is_name_error h.piece) (q.class == h.piece.slot.class) second.0 in
      record { alive = first.0; error = third.0; class = eqb-true q.class h.piece.slot.class third.1; under = second.1 }

  no_kind : (k : Option ℕ) → is_none k ≡ true → k ≡ None
  no_kind None t = refl
  no_kind (Some kind) t = absurd (true≢false (sym t))

  -- two denials with equally many labels are equal
  one_denial : (h k : Held) → Among h es → Among k es → denial h ≡ true → denial k ≡ true → length h.piece.slot.key ≡ length k.piece.slot.key → h ≡ k
  one_denial h k mine other t u as_many =
      let a = denial_is h t in
      let b = denial_is k u in
      one_entry h k mine other (slot_test h.piece.slot k.piece.slot (record {
        name = suffixes_same q.name h.piece.slot.key k.piece.slot.key ((is_under_decides q.name h.piece.slot.key).0 a.under) ((is_under_decides q.name k.piece.slot.key).0 b.under) as_many;
        class = sym a.class ∙ b.class;
        kind = no_kind h.piece.slot.kind a.error ∙ sym (no_kind k.piece.slot.kind b.error);
      }))

  -- a denial among the entries is among the standing pieces, and conversely
  denied_over : (h : Held) → Among h (filter denial es) → Among h (filter denial st)
  denied_over h among =
      let part = among_filtered denial h es among in
      among_filter denial st h (over h part.0 (denial_is h part.1).alive) part.1

  denied_back : (h : Held) → Among h (filter denial st) → Among h (filter denial es)
  denied_back h among =
      let part = among_filtered denial h st among in
      among_filter denial es h (back h part.0) part.1

  denials_alike : denial_for routes m es q ≡ denial_for routes m st q
  denials_alike = by (nearest (filter denial es)) refl (nearest (filter denial st)) refl
    where
      by : (a : Option Held) → nearest (filter denial es) ≡ a → (b : Option Held) → nearest (filter denial st) ≡ b → nearest (filter denial es) ≡ nearest (filter denial st)
      by (Some h) is (Some k) was =
          let mine = nearest_is (filter denial es) h is in
          let other = nearest_is (filter denial st) k was in
          let own = among_filtered denial h es mine.0 in
          let its = among_filtered denial k es (denied_back k other.0) in
          let above = mine.1 k (denied_back k other.0) in
          let below = other.1 h (denied_over h mine.0) in
          is ∙ ap Some (one_denial h k own.0 its.0 own.1 its.1 (omega (arith, above, below))) ∙ sym was
      by (Some h) is None none = absurd (none_near (filter denial st) none h (denied_over h (nearest_is (filter denial es) h is).0))
      by None none (Some k) was = absurd (none_near (filter denial es) none k (denied_back k (nearest_is (filter denial st) k was).0))
      by None none None no_other = none ∙ sym no_other

  pub finds_the_same : found routes m es q ≡ found routes m st q
  finds_the_same = λ i.
      found_or rows (typed_alike q.kind is_set i)
      (found_or alias (cond (q.kind == 5) None (typed_alike 5 is_set i))
      (found_or no_data (typed_alike q.kind is_no_data i)
      (found_or denied (denials_alike i) miss)))
