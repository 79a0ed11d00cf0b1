-- A row keeps recent pieces, and uses slots of living pieces.
use Rattle.std.proofs.Common.{◌≡◌, ◌∙◌, ℕ, suc, ◌-◌, ◌^◌, ◌≤◌, List, [], ◌∷◌, ◌++◌, length, map, filter, Bool, true, false, refl, sym, ap, subst, inl, inr, ◌⊎◌, arith, Option, Some, None}
use Rattle.std.specs.Prelude.{◌==◌, ◌&&◌, flat_map, nat_le, nat_lt, min, max, Result, Ok, Err}
use Rattle.std.specs.List.{AllByRecursion}
use Rattle.std.proofs.lemmas.List.{length-map}
use Rattle.std.proofs.lemmas.Bool.{cond_both, and_parts, eqb-true, lt-ltb, ltb-true, true≢false, false≢true}
use Rattle.dns_message.specs.declared.names.fault.Fault.{Fault}
use Rattle.dns_message.specs.Values.{Question, Message}
use Rattle.dns_message.specs.Messages.{message_of}
use Rattle.dns_message.specs.Questions.{asked_at}
use Rattle.dns_name.specs.Labels.{same}
use Rattle.plain_values.specs.Octets.{AreOctets}
use Rattle.suffix_routes.specs.declared.peer.Peer.{Peer}
use Rattle.suffix_routes.specs.Values.{Config}
use Rattle.outstanding.specs.declared.ask.Path.{Path}
use Rattle.outstanding.specs.Lists.{on_path as ask_on}
use Rattle.outstanding.specs.Values.{Ask}
use Rattle.reply_match.specs.declared.verdict.Verdict.{Verdict}
use Rattle.reply_match.specs.declared.verdict.Verdict.TheVariants.{Stranger, Truncated, Failed, Malformed, Whole}
use Rattle.reply_match.specs.Verdicts.{judge}
use Rattle.trust_rank.specs.declared.slot.Slot.{Slot}
use Rattle.trust_rank.specs.Values.{Piece, End, found, ends_no_data, ends_denied, elsewhere, lame, Walk}
use Rattle.trust_rank.specs.Walks.{most_aliases, walk_of, is_lame}
use Rattle.record_cache.specs.Values.{Held, Cache}
use Rattle.record_cache.specs.Ageing.{is_alive, end_of}
use Rattle.record_cache.specs.Entries.{AreHeld}
use Rattle.record_cache.specs.Laws.{Among}
use Rattle.step_values.specs.Values.{Event, delivery, Action, Step}
use Rattle.step_history.specs.History.{is_restart, moment_at, Carries}
use Rattle.step_history.specs.Carried.{then_carried, NotReplaced}
use Rattle.step_table.specs.State.{State, start}
use Rattle.step_table.specs.WaitingQuestions.Values.{Waiting, waits_for}
use Rattle.alias_chains.specs.LookingUp.{LookUp, promoted_all, goes_on}
use Rattle.alias_chains.specs.Offering.{put_all, unkept_of, held_at}
use Rattle.step_table.specs.Steps.{Done, with_preferred_server}
use Rattle.step_table.specs.Row.{effective}
use Rattle.step_table.specs.Replies.{fate_by, looked_by, used_by, timeout_of, row_of_end, row_of_acceptance, row_of_delivery}
use Rattle.theorem_sound.specs.TheoremCache.Kept.{IsKept, CanBeKept}
use Rattle.theorem_sound.proofs.TheoremCache.CallerLemmas.{all_among, kept_later, promotions_keep_cached, promotions_leave}
use Rattle.theorem_sound.specs.Explains.{Explains}
use Rattle.theorem_sound.proofs.CallerLemmas.{IsHeard, heard, heard_carried, carries, carries_asked, carries_end, offered}
use Rattle.theorem_use.specs.Use.{IsOneOf}
use Rattle.theorem_use.specs.Touched.{Touched, carried_in, TouchedInEra, LeadsAlong, LooksAlong, AnswersNothing, LooksOn, Uses}
use Rattle.theorem_use.specs.Recent.{StaysBelieved, IsRecent}
use Rattle.theorem_use.specs.Mirrors.{ComesAfter, KeepsRecent, HasRecent}
use Rattle.theorem_use.proofs.Order.{behind_among, promotions_behind, used_behind}
use Rattle.theorem_use.proofs.Bringing.{offers_kept, offers_behind}
use Rattle.theorem_use.proofs.Leading.{uses_few, LeadsSo, look_up_leads}
use Rattle.theorem_use.proofs.Rows.{IsQuiet, UsesNone, UsesAtEnd, unheard_is, heard_is, end_is}

-- ---- facts on lists

-- P holds of a slot in a list if P holds of each
slot_among : (P : Slot → Type 0) (x : Slot) (slots : List Slot) → IsOneOf x slots → AllByRecursion P slots → P x
slot_among P x [] one each = absurd one
slot_among P x (y ∷ slots) (inl same) each = subst P same each.0
slot_among P x (y ∷ slots) (inr later) each = slot_among P x slots later each.1

-- a believed piece is among the newer pieces
believed_among : (o : Held) (newer older : List Held) → StaysBelieved o newer older → Among o newer
believed_among o [] older stays = absurd stays
believed_among o (x ∷ newer) older (inl (same, believed)) = inl same
believed_among o (x ∷ newer) older (inr (keeps, stays)) = inr (believed_among o newer older stays)

-- the slot of a recent piece was touched
touched_itself : (room : ℕ) (ts : List Touched) (o : Held) (slots : List Slot) → IsRecent room ts o slots → IsOneOf o.piece.slot slots
touched_itself room [] o slots never = absurd never
touched_itself room (t ∷ ts) o slots (few, touches, inl brings) = all_among (λ (x : Held). IsOneOf x.piece.slot slots) o t.carried touches.carried (believed_among o t.carried (carried_in ts) brings.believed)
touched_itself room (t ∷ ts) o slots (few, touches, inr (keeps, inl (used, before, was))) = slot_among (λ x. IsOneOf x slots) o.piece.slot t.used used touches.used
touched_itself room (t ∷ ts) o slots (few, touches, inr (keeps, inr was)) = touched_itself room ts o slots was

-- a property of the slots of carried pieces is a property of each piece's slot
slots_before : (P : Slot → Type 0) (n : ℕ) (ps : List Piece) (os : List Held) → AllByRecursion (λ (o : Held). P o.piece.slot) (then_carried n ps os) → AllByRecursion (λ (o : Held). P o.piece.slot) os
slots_before P n [] os each = each
slots_before P n (p ∷ ps) os each = (slots_before P n ps (record { piece = p; accepted = n } ∷ os) each).1

slots_of : (P : Slot → Type 0) (n : ℕ) (ps : List Piece) (os : List Held) → AllByRecursion (λ (o : Held). P o.piece.slot) (then_carried n ps os) → AllByRecursion (λ (p : Piece). P p.slot) ps
slots_of P n [] os each = tt
slots_of P n (p ∷ ps) os each = ((slots_before P n ps (record { piece = p; accepted = n } ∷ os) each).0, slots_of P n ps (record { piece = p; accepted = n } ∷ os) each)

both_hold : (P Q : Piece → Type 0) (ps : List Piece) → AllByRecursion P ps → AllByRecursion Q ps → AllByRecursion (λ p. P p × Q p) ps
both_hold P Q [] all each = tt
both_hold P Q (p ∷ ps) all each = ((all.0, each.0), both_hold P Q ps all.1 each.1)

flat_is : {X Y : Type 0} (f : X → List Y) (xs : List X) → flat_map f xs ≡ flat_map (λ ys. ys) (map f xs)
flat_is f [] = refl
flat_is f (x ∷ xs) = ap (λ ys. f x ++ ys) (flat_is f xs)

-- if P holds of each passing element's value, P holds of the list of these values
all_of_passing : {X Y : Type 0} (P : Y → Type 0) (test : X → Bool) (f : X → Y) (xs : List X) → ((x : X) → test x ≡ true → P (f x)) → AllByRecursion P (map f (filter test xs))
all_of_passing P test f [] each = tt
all_of_passing P test f (x ∷ xs) each = cond_both (test x) _ _ (λ ys. AllByRecursion P (map f ys)) (λ t. (each x t, all_of_passing P test f xs each)) (λ _. all_of_passing P test f xs each)

-- ---- kept pieces, later

alive_before : (m n : ℕ) (o : Held) → m ≤ n → is_alive n o ≡ true → is_alive m o ≡ true
alive_before m n o le alive = let ends = ltb-true n (end_of o) alive in lt-ltb m (end_of o) (omega (arith, le, ends))

pub keeps_later : (c : Config) (m n : ℕ) (ts : List Touched) (es : List Held) → m ≤ n → KeepsRecent c m ts es → KeepsRecent c n ts es
keeps_later c m n ts es le was = record {
  kept = kept_later c (carried_in ts) m n es le was.kept;
  order = λ o slots recent alive. was.order o slots recent (alive_before m n o le alive);
}

-- ---- a step among entries

module _ (c : Config) (n : ℕ) (ts : List Touched) (es : List Held) (was : KeepsRecent c n ts es) (used : List Slot) (unkept : ℕ) where
  -- a step carrying nothing
  pub quiet_keeps : KeepsRecent c n (record { carried = []; used = used; unkept = unkept } ∷ ts) (promoted_all used es)
  quiet_keeps = record { kept = promotions_leave (IsKept c (carried_in ts) n) used es was.kept; order = order }
    where
      order : (o : Held) (slots : List Slot) → IsRecent c.limits.cache (record { carried = []; used = used; unkept = unkept } ∷ ts) o slots → is_alive n o ≡ true → ComesAfter slots o (promoted_all used es)
      order o slots (few, touches, inl brings) alive = absurd brings.believed
      order o slots (few, touches, inr (keeps, inl (own, before, recent))) alive = used_behind used slots o es touches.used (behind_among before o es (was.order o before recent alive)) own
      order o slots (few, touches, inr (keeps, inr recent)) alive = promotions_behind used slots o es touches.used (was.order o slots recent alive)

  -- a step carrying these pieces
  module _ (capacity : ℕ) (capacity_is : capacity ≡ c.limits.cache) (rooms : List Bool) (ps : List Piece) (can : AllByRecursion (CanBeKept c) ps)
      (held : AreHeld (record { capacity = capacity; entries = promoted_all used es })) (unkept_is : unkept_of capacity n rooms ps (promoted_all used es) ≡ unkept) where
    abbrev entries : List Held
    entries = promoted_all used es

    abbrev now : Touched
    now = record { carried = then_carried n ps []; used = used; unkept = unkept }

    kept : AllByRecursion (IsKept c (carried_in ts) n) entries
    kept = promotions_leave (IsKept c (carried_in ts) n) used es was.kept

    pub heard_keeps : KeepsRecent c n (now ∷ ts) (put_all capacity n rooms ps entries)
    heard_keeps = record { kept = offers_kept c capacity n (carried_in ts) entries rooms ps can held kept; order = order }
      where
        order : (o : Held) (slots : List Slot) → IsRecent c.limits.cache (now ∷ ts) o slots → is_alive n o ≡ true → ComesAfter slots o (put_all capacity n rooms ps entries)
        order o slots recent alive = by recent
          where
            fits : AllByRecursion (λ (p : Piece). CanBeKept c p × IsOneOf p.slot slots) ps
            fits = both_hold (CanBeKept c) (λ p. IsOneOf p.slot slots) ps can (slots_of (λ x. IsOneOf x slots) n ps [] recent.1.carried)

            few : length slots ≤ capacity
            few = let le = recent.0 in omega (arith, le, capacity_is)

            own : IsOneOf o.piece.slot slots
            own = touched_itself c.limits.cache (now ∷ ts) o slots recent

            by : IsRecent c.limits.cache (now ∷ ts) o slots → ComesAfter slots o (put_all capacity n rooms ps entries)
            by (few', touches, inl brings) = offers_behind c capacity n (carried_in ts) entries slots few o own alive rooms ps fits held kept
                (inl (unkept_is ∙ brings.memory, brings.believed))
            by (few', touches, inr (keeps, inl (mine, before, at))) = offers_behind c capacity n (carried_in ts) entries slots few o own alive rooms ps fits held kept
                (inr (used_behind used slots o es touches.used (behind_among before o es (was.order o before at alive)) mine, keeps))
            by (few', touches, inr (keeps, inr at)) = offers_behind c capacity n (carried_in ts) entries slots few o own alive rooms ps fits held kept
                (inr (promotions_behind used slots o es touches.used (was.order o slots at alive), keeps))

-- ---- a delivery

module _ (c : Config) (past : List Step) (w : List (List ℕ)) (s : State) (x : Explains c past w s) (was : HasRecent c past w s)
    (now : ℕ) (words : List ℕ) (unkept : ℕ) (more : Bool) where
  abbrev n : ℕ
  n = effective now s

  abbrev pub told : Event → List Action → Step
  told e actions = record { input = record { now = now; words = words; event = e }; outcome = record { actions = actions; unkept = unkept; more = more } }

  later : s.moment ≤ n
  later = omega arith

  -- the entries before the step, at the step's moment
  pub keeps_before : (ts : List Touched) → TouchedInEra c past was.used ts → KeepsRecent c n ts s.cache.entries
  keeps_before ts is = keeps_later c s.moment n ts s.cache.entries later (was.keeps ts is)

  -- the recent pieces kept after a step, with the step's used slots
  abbrev pub KeepsAfter : Step → Done → List Slot → Type 0
  KeepsAfter t d slots = (ts : List Touched) → TouchedInEra c (t ∷ past) (slots ∷ was.used) ts → KeepsRecent c d.state.moment ts d.state.cache.entries

  -- the slots used by a step
  abbrev pub UsesThese : Step → List Slot → Type 0
  UsesThese t slots = (ts : List Touched) → TouchedInEra c past was.used ts → Uses c t past ts slots

  -- a step accepting nothing
  pub quiet_after : (Fits : List Slot → Type 0) (e : Event) (d : Done) → is_restart (told e d.actions) ≡ false → (quiet : IsQuiet Fits n s.cache d)
      → ((ps : List Piece) → Carries c (told e d.actions) past ps → ⊥) → KeepsAfter (told e d.actions) d quiet.used
  quiet_after Fits e d runs quiet none ts (inl (restarts, is)) = absurd (true≢false (sym restarts ∙ runs))
  quiet_after Fits e d runs quiet none ts (inr (goes, carried, before, inl (silent, nothing), era, is)) =
      let after = quiet_keeps c n before s.cache.entries (keeps_before before era) quiet.used unkept in
      let here : ts ≡ record { carried = []; used = quiet.used; unkept = unkept } ∷ before = is ∙ ap (λ (os : List Held). record { carried = os; used = quiet.used; unkept = unkept } ∷ before) nothing in
      subst (λ (z : ℕ × List Touched × Cache). KeepsRecent c z.0 z.1 z.2.entries) (λ i. (sym quiet.moment_is i, sym here i, sym quiet.cache_is i)) after
  quiet_after Fits e d runs quiet none ts (inr (goes, carried, before, inr (ps, k, these), era, is)) = absurd (none ps k)

  module _ (path : Path) (from : Peer) (octets : List ℕ) (rooms : List Bool) (are : AreOctets octets) where
    abbrev event : Event
    event = delivery path from octets

    abbrev Heard : Type 0
    Heard = IsHeard c past w s x now words unkept more path from octets rooms are

    -- whether the delivery is accepted
    abbrev Decided : Type 0
    Decided = Heard ⊎ (Heard → ⊥)

    module _ (a : Ask) (on : ask_on path s.asks ≡ Some a) where
      same_ask : (h : Heard) → h.ask ≡ a
      same_ask h = let one : Some h.ask ≡ Some a = sym h.on ∙ on in let same : h.ask ≡ a = cc in same

      decide_fine : nat_lt n (timeout_of c a) ≡ true → judge a from octets ≡ Whole → (m : Message) → message_of octets ≡ Ok m → (b : Bool) → is_lame (walk_of c m a.question a.route).end ≡ b → Decided
      decide_fine live whole m read false fine = inl (record { ask = a; on = on; live = live; whole = whole; message = m; read = read; fine = fine; carried = _; carried_are = refl; asked = _; asked_is = refl; end = _; end_is = refl })
      decide_fine live whole m read true lame_is = inr none
        where
          none : Heard → ⊥
          none h =
              let one : Ok h.message ≡ Ok m = sym h.read ∙ read in
              let same_message : h.message ≡ m = cc in
              false≢true (sym h.fine ∙ (λ i. is_lame (walk_of c (same_message i) (same_ask h i).question (same_ask h i).route).end) ∙ lame_is)

      decide_read : nat_lt n (timeout_of c a) ≡ true → judge a from octets ≡ Whole → (r : Result Message Fault) → message_of octets ≡ r → Decided
      decide_read live whole (Ok m) read = decide_fine live whole m read (is_lame (walk_of c m a.question a.route).end) refl
      decide_read live whole (Err fault) failed = inr (λ h. absurd (let one : ◌≡◌ {A = Result Message Fault} (Ok h.message) (Err fault) = sym h.read ∙ failed in cc))

      other_verdict : (v : Verdict) → judge a from octets ≡ v → (v ≡ Whole → ⊥) → Decided
      other_verdict v is other = inr (λ h. other (sym is ∙ ap (λ (z : Ask). judge z from octets) (sym (same_ask h)) ∙ h.whole))

      decide_verdict : nat_lt n (timeout_of c a) ≡ true → (v : Verdict) → judge a from octets ≡ v → Decided
      decide_verdict live Stranger is = other_verdict Stranger is (λ whole. absurd (cc))
      decide_verdict live Truncated is = other_verdict Truncated is (λ whole. absurd (cc))
      decide_verdict live (Failed rcode) is = other_verdict (Failed rcode) is (λ whole. absurd (cc))
      decide_verdict live Malformed is = other_verdict Malformed is (λ whole. absurd (cc))
      decide_verdict live Whole is = decide_read live is (message_of octets) refl

      decide_live : (b : Bool) → nat_lt n (timeout_of c a) ≡ b → Decided
      decide_live true live = decide_verdict live (judge a from octets) refl
      decide_live false over = inr (λ h. false≢true (sym over ∙ ap (λ (z : Ask). nat_lt n (timeout_of c z)) (sym (same_ask h)) ∙ h.live))

    decide : (r : Option Ask) → ask_on path s.asks ≡ r → Decided
    decide None none = inr (λ h. absurd (let one : Some h.ask ≡ None = sym h.on ∙ none in cc))
    decide (Some a) on = decide_live a on (nat_lt n (timeout_of c a)) refl

    -- the slots used by the delivery, and the recent pieces kept after
    pub record IsDelivered (d : Done) : Type 0 where
      pub slots : List Slot
      pub uses : UsesThese (told event d.actions) slots
      pub keeps : KeepsAfter (told event d.actions) d slots

    module _ (d : Done) (is_row : d ≡ row_of_delivery (start c n words s) rooms from octets (ask_on path s.asks)) (same_unkept : d.unkept ≡ unkept) where
      abbrev t : Step
      t = told event d.actions

      no_answer : AnswersNothing t
      no_answer q text (asks, reply) = absurd asks

      moment_now : n ≡ moment_at (t ∷ past)
      moment_now = ap (max (min now (2 ^ 62))) x.moment

      unheard : (Heard → ⊥) → IsDelivered d
      unheard none = record {
        slots = quiet.used;
        uses = λ ts era. inr (inr (record { none = quiet.fits; silent = no_answer }));
        keeps = quiet_after UsesNone event d refl quiet (λ ps k. none (heard c past w s x now words unkept more path from octets rooms are d.actions ps k));
      }
        where
          quiet : IsQuiet UsesNone n s.cache d
          quiet = subst (IsQuiet UsesNone n s.cache) (sym is_row) (unheard_is c n words s rooms path from octets
              (λ a on m live whole read fine. none (record { ask = a; on = on; live = live; whole = whole; message = m; read = read; fine = fine; carried = _; carried_are = refl; asked = _; asked_is = refl; end = _; end_is = refl })))

      module _ (h : Heard) where
        abbrev walk : Walk
        walk = walk_of c h.message h.ask.question h.ask.route

        abbrev pieces : List Piece
        pieces = walk.pieces ++ walk.authority

        accepted : d ≡ row_of_acceptance (start c n words s) rooms h.ask walk
        accepted = is_row ∙ heard_is c n words s rooms path from octets h.ask h.message h.on h.live h.whole h.read h.fine

        ended : IsQuiet (UsesAtEnd c n words s h.ask walk walk.end) n s.cache
            (row_of_end (start c n words (with_preferred_server h.ask s)) h.ask walk (fate_by c n s.cache.entries h.ask walk) walk.end)
        ended = end_is c n words s h.ask walk (fate_by c n s.cache.entries h.ask walk) walk.end

        abbrev promoted : List Held
        promoted = promoted_all ended.used s.cache.entries

        abbrev carries_it : Carries c t past pieces
        carries_it = carries c past w s x now words unkept more path from octets rooms are h.ask h.on h.message h.live h.whole h.read h.fine d.actions

        can : AllByRecursion (CanBeKept c) pieces
        can = offered c past w s x now words unkept more path from octets rooms are h.ask h.on h.message h.live h.whole h.read h.fine

        none_more : unkept_of s.cache.capacity n rooms pieces promoted ≡ unkept
        none_more =
            ap (λ (y : Cache). unkept_of y.capacity n rooms pieces y.entries) (sym ended.cache_is)
            ∙ ap (λ (y : Done). y.unkept) (sym accepted) ∙ same_unkept

        entries_are : d.state.cache.entries ≡ put_all s.cache.capacity n rooms pieces promoted
        entries_are =
            ap (λ (y : Done). y.state.cache.entries) accepted
            ∙ ap (λ (y : Cache). put_all y.capacity n rooms pieces y.entries) ended.cache_is

        moment_is : d.state.moment ≡ n
        moment_is = ap (λ (y : Done). y.state.moment) accepted ∙ ended.moment_is

        -- the pieces carried by the step are the content of this reply
        carried_are : (ps : List Piece) → Carries c t past ps → ps ≡ pieces
        carried_are ps k =
            let other : Heard = heard c past w s x now words unkept more path from octets rooms are d.actions ps k in
            let two : Ok other.message ≡ Ok h.message = sym other.read ∙ h.read in
            let same_message : other.message ≡ h.message = cc in
            let ask_is : other.ask ≡ h.ask = same_ask h.ask h.on other in
            sym (heard_carried c past w s x now words unkept more path from octets rooms are d.actions ps k) ∙ other.carried_are
            ∙ (λ i. (walk_of c (same_message i) (ask_is i).question (ask_is i).route).pieces ++ (walk_of c (same_message i) (ask_is i).question (ask_is i).route).authority)

        keeps : KeepsAfter t d ended.used
        keeps ts (inl (restarts, is)) = absurd (true≢false (sym restarts))
        keeps ts (inr (goes, carried, before, inl (silent, nothing), era, is)) = absurd (silent pieces carries_it)
        keeps ts (inr (goes, carried, before, inr (ps, k, these), era, is)) =
            let after = heard_keeps c n before s.cache.entries (keeps_before before era) ended.used unkept s.cache.capacity x.cache.capacity rooms pieces can
            (promotions_keep_cached c past s.moment s.cache ended.used x.cache).held none_more in
            let carried_is : carried ≡ then_carried n pieces [] = these ∙ (λ i. then_carried (sym moment_now i) (carried_are ps k i) []) in
            let here : ts ≡ record { carried = then_carried n pieces []; used = ended.used; unkept = unkept } ∷ before =
            is ∙ ap (λ (os : List Held). record { carried = os; used = ended.used; unkept = unkept } ∷ before) carried_is in
            subst (λ (z : ℕ × List Touched × List Held). KeepsRecent c z.0 z.1 z.2) (λ i. (sym moment_is i, sym here i, sym entries_are i)) after

        -- ---- the look-ups of the delivery

        accepted_asked : carries_it.accepts.asked ≡ h.ask.question
        accepted_asked = carries_asked c past w s x now words unkept more path from octets rooms are h.ask h.on h.message h.live h.whole h.read h.fine d.actions

        accepted_end : carries_it.accepts.end ≡ walk.end
        accepted_end = carries_end c past w s x now words unkept more path from octets rooms are h.ask h.on h.message h.live h.whole h.read h.fine d.actions

        module _ (ts : List Touched) (era : TouchedInEra c past was.used ts) (name : List (List ℕ)) (ends : walk.end ≡ elsewhere name) where
          abbrev q : Question
          q = asked_at h.ask.question name

          stay : (e : Held) → Among e s.cache.entries → NotReplaced e (carried_in ts)
          stay e among = (all_among (IsKept c (carried_in ts) n) e s.cache.entries (keeps_before ts era).kept among).not_replaced

          -- a question waiting for the reply wants the reply's question at the name
          wants : (y : Waiting) → waits_for h.ask.question y ≡ true → asked_at y.wanted name ≡ q
          wants y waits =
              let outer = and_parts (same y.wanted.name h.ask.question.name && (y.wanted.kind == h.ask.question.kind)) (y.wanted.class == h.ask.question.class) waits in
              let inner = and_parts (same y.wanted.name h.ask.question.name) (y.wanted.kind == h.ask.question.kind) outer.0 in
              let kinds = eqb-true y.wanted.kind h.ask.question.kind inner.1 in
              let classes = eqb-true y.wanted.class h.ask.question.class outer.1 in
              λ i. record { name = name; kind = kinds i; class = classes i }

          abbrev Along : List Slot → Type 0
          Along used = LooksAlong (Unit {0}) n ts q used

          goes_along : (held : List Held) (wanted : Question) → wanted ≡ q → Along (goes_on c.routes n s.cache.entries held wanted).used
          goes_along held wanted is = cond_both (nat_le (length held) most_aliases) _ _ (λ (l : LookUp). Along l.used)
              (λ t. looked (look_up_leads (Unit {0}) c.routes n s.cache.capacity ts s.cache.entries x.cache.held stay (most_aliases - length held) held wanted (inr tt))
              (uses_few c.routes n s.cache.entries (most_aliases - length held) held wanted))
              (λ f. record { pieces = []; leads = tt; few = omega arith; are = refl })
            where
              looked : {l : LookUp} → LeadsSo (Unit {0}) c.routes n s.cache.capacity ts s.cache.entries x.cache.held stay held wanted l → length l.used ≤ suc (most_aliases - length held) → Along l.used
              looked led few = record {
                pieces = led.pieces;
                leads = subst (λ (z : Question). LeadsAlong (Unit {0}) n ts z led.pieces) is led.leads;
                few = (let slots = ap length led.used in let as_many = length-map led.pieces (λ (h : Held). h.piece.slot) in omega (arith, few, slots, as_many));
                are = led.used;
              }

          each_along : (y : Waiting) → waits_for h.ask.question y ≡ true → Along (looked_by c n s.cache.entries walk y walk.end).used
          each_along y waits = subst (λ (e : End). Along (looked_by c n s.cache.entries walk y e).used) (sym ends)
              (goes_along (y.held ++ map (held_at n) walk.pieces) (asked_at y.wanted name) (wants y waits))

          abbrev Used : Waiting → List Slot
          Used y = (looked_by c n s.cache.entries walk y walk.end).used

          looks_on : (slots : List Slot) → slots ≡ used_by c n s.cache.entries h.ask walk s.waiting → LooksOn c t past ts slots
          looks_on slots is = record {
            pieces = carries_it.pieces;
            servers = carries_it.servers;
            accepts = carries_it.accepts;
            name = name;
            end = accepted_end ∙ ends;
            each = map Used (filter (waits_for h.ask.question) s.waiting);
            are = is ∙ flat_is Used (filter (waits_for h.ask.question) s.waiting);
            along = subst (λ (z : ℕ × Question). AllByRecursion (LooksAlong (Unit {0}) z.0 ts (asked_at z.1 name)) (map Used (filter (waits_for h.ask.question) s.waiting)))
                (λ i. (moment_now i, sym accepted_asked i))
                (all_of_passing (LooksAlong (Unit {0}) n ts q) (waits_for h.ask.question) Used s.waiting each_along);
          }

        uses : UsesThese t ended.used
        uses ts era = by walk.end refl ended.fits
          where
            nowhere : ended.used ≡ [] → Uses c t past ts ended.used
            nowhere none = inr (inr (record { none = none; silent = no_answer }))

            by : (e : End) → walk.end ≡ e → UsesAtEnd c n words s h.ask walk e ended.used → Uses c t past ts ended.used
            by (elsewhere name) ends is = inr (inl (looks_on ts era name ends ended.used is))
            by found ends none = nowhere none
            by ends_no_data ends none = nowhere none
            by ends_denied ends none = nowhere none
            by lame ends none = nowhere none

        accepted_keeps : IsDelivered d
        accepted_keeps = record { slots = ended.used; uses = uses; keeps = keeps }

      pub delivered : IsDelivered d
      delivered = by (decide (ask_on path s.asks) refl)
        where
          by : Decided → IsDelivered d
          by (inl h) = accepted_keeps h
          by (inr none) = unheard none
