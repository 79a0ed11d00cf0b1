-- Histories explaining the cache and the lists, computed: entries mirroring the standing pieces,
-- recent pieces still among the entries, and asks and waiting questions serving each other. In each
-- neighbour a single part fails.
use Rattle.std.proofs.Common.{◌≡◌, ◌∙◌, ℕ, ◌+◌, ◌*◌, ◌<◌, ◌≤◌, List, [], ◌∷◌, Bool, true, false, Some, refl, sym, ap, subst, ◌⊎◌}
use Rattle.std.proofs.Common.{inl, inr, arith}
use Rattle.std.specs.Prelude.{◌&&◌}
use Rattle.std.proofs.lemmas.Bool.{true≢false}
use Rattle.dns_name.specs.Labels.{IsLabel, IsName}
use Rattle.dns_message.specs.Header.{header_in}
use Rattle.dns_message.specs.Values.{Question}
use Rattle.suffix_routes.specs.Routes.{route_of}
use Rattle.trust_rank.specs.declared.slot.Slot.{Slot}
use Rattle.trust_rank.specs.Values.{rows}
use Rattle.trust_rank.specs.Writable.{IsWritable}
use Rattle.record_cache.specs.Values.{Held}
use Rattle.record_cache.specs.Ageing.{is_alive}
use Rattle.record_cache.specs.Laws.{Among}
use Rattle.outstanding.specs.declared.ask.Path.TheVariants.{Udp}
use Rattle.outstanding.specs.Values.{Ask}
use Rattle.answer_builder.specs.Values.{asked_in}
use Rattle.waiting_questions.specs.Values.{Waiting}
use Rattle.cache_laws.specs.Replacing.{AreOfOneSlot}
use Rattle.cache_laws.proofs.CallerLemmas.{keeps_place}
use Rattle.step_values.specs.Values.{tick, Step}
use Rattle.step_history.specs.Carried.{NotReplaced}
use Rattle.step_history.specs.History.{NothingAccepted}
use Rattle.step_table.specs.State.{State}
use Rattle.step_table.specs.Steps.{initial}
use Rattle.step_table.proofs.Played.{a, b, address, server, config}
use Rattle.theorem_use.specs.Asking.{AreServed}
use Rattle.theorem_use.specs.Mirrors.{Mirrors, IsMirrored, ComesAfter, KeepsRecent, HasRecent, FullyExplains}
use Rattle.theorem_use.specs.Recent.{IsRecent}
use Rattle.theorem_use.specs.Standing.{standing, with_this}
use Rattle.theorem_use.specs.Touched.{Touched, CarriesNow}
use Rattle.worked_claims.proofs.Texts.{question_text, client}
use Rattle.worked_claims.proofs.Touches.{the_one_brought}

-- ---- addresses of a.e and b.e, and their entries

abbrev of : List (List ℕ) → ℕ → ℕ → Held
of name moment lifetime = record {
  piece = record {
    owner = name;
    slot = record { key = name; class = 1; kind = Some 1 };
    body = rows ((198 ∷ 51 ∷ 100 ∷ 5 ∷ []) ∷ []);
    lifetime = lifetime;
    rank = 3;
    route = 0;
  };
  accepted = moment;
}

abbrev of_a : Held
of_a = of a 1020 60

abbrev of_b : Held
of_b = of b 1030 60

-- the first letter of a name
abbrev letter_of : List (List ℕ) → ℕ
letter_of [] = 0
letter_of ([] ∷ labels) = 0
letter_of ((letter ∷ label) ∷ labels) = letter

b_is_not_a : of_b ≡ of_a → ⊥
b_is_not_a same = let letters : 98 ≡ 97 = ap (λ (h : Held). letter_of h.piece.owner) same in omega (arith, letters)

label : (letter : ℕ) → IsLabel (letter ∷ [])
label letter = record { some = omega arith; short = omega arith }

name_below : (letter : ℕ) → IsName ((letter ∷ []) ∷ (101 ∷ []) ∷ [])
name_below letter = record { each = (label letter, (label 101, tt)); short = omega arith }

writable : (letter moment lifetime : ℕ) → IsWritable (of ((letter ∷ []) ∷ (101 ∷ []) ∷ []) moment lifetime).piece
writable letter moment lifetime =
    record { owner = name_below letter; class = omega arith; kind = omega arith; body = tt }

-- ---- entries mirroring the standing pieces, from a moment on

one_entry : Mirrors 2000 (of_a ∷ []) (of_a ∷ [])
one_entry = record {
  was_carried = λ h among. among;
  stands = λ m later h among alive. stands m h among alive;
  held = λ m later h among. by (is_alive m of_a) h among;
}
  where
    stands : (m : ℕ) (h : Held) → Among h (of_a ∷ []) → is_alive m h ≡ true → Among h (standing m (of_a ∷ []))
    stands m h (inl same) alive =
        subst (λ (v : Bool). Among h (with_this (v && true) of_a []))
        (sym (ap (is_alive m) same ∙ alive)) (inl same)
    stands m h (inr never) alive = absurd never

    by : (v : Bool) (h : Held) → Among h (with_this (v && true) of_a []) → Among h (of_a ∷ [])
    by true h among = among
    by false h among = absurd among

-- an expired entry, never carried
never_carried : Mirrors 70000 (of_a ∷ []) (of_a ∷ of_b ∷ []) → ⊥
never_carried h = by (h.was_carried of_b (inr (inl refl)))
  where
    by : Among of_b (of_a ∷ []) → ⊥
    by (inl same) = b_is_not_a (sym same)
    by (inr never) = never

-- an entry replaced by a newer entry
abbrev again : Held
again = of a 1500 60

replaced : Mirrors 2000 (again ∷ of_a ∷ []) (again ∷ of_a ∷ []) → ⊥
replaced h = by (h.stands 2000 (omega arith) of_a (inr (inl refl)) refl)
  where
    by : Among of_a (again ∷ []) → ⊥
    by (inl same) = let moments : 1500 ≡ 1020 = ap (λ (x : Held). x.accepted) same in omega (arith, moments)
    by (inr never) = never

-- a standing piece without an entry
lost_one : Mirrors 2000 (of_a ∷ []) [] → ⊥
lost_one h = h.held 2000 (omega arith) of_a (inl refl)

-- ---- recent pieces still among the entries, after entries of the slots touched since

after_another : ComesAfter (of_b.piece.slot ∷ []) of_a (of_b ∷ of_a ∷ [])
after_another = inr (inl refl, inl refl)

after_an_untouched_one : ComesAfter (of_a.piece.slot ∷ []) of_a (of_b ∷ of_a ∷ []) → ⊥
after_an_untouched_one (inl same) = b_is_not_a same
after_an_untouched_one (inr (inl same, more)) =
    let letters : 97 ≡ 98 = ap (λ (slot : Slot). letter_of slot.key) same in omega (arith, letters)
after_an_untouched_one (inr (inr never, more)) = never

abbrev carrying : Held → Touched
carrying o = record { carried = o ∷ []; used = []; unkept = 0 }

-- a reply carried the address of a.e, a later reply the address of b.e
abbrev two_came : List Touched
two_came = carrying of_b ∷ carrying of_a ∷ []

-- among the entries, with or without more at the end
in_order : (more : List Held) (o : Held) (slots : List Slot) → IsRecent 4096 two_came o slots
    → ComesAfter slots o (of_b ∷ of_a ∷ more)
in_order more o slots (few, touches, inl brings) = inl (the_one_brought brings).0
in_order more o slots (few, touches, inr (keeps, inl (never, before, was))) = absurd never
in_order more o slots (few, touches, inr (keeps, inr (few', touches', inl brings))) =
    inr (touches.carried.0, inl (the_one_brought brings).0)
in_order more o slots (few, touches, inr (keeps, inr (few', touches', inr (keeps', inl (never, before, was))))) =
    absurd never
in_order more o slots (few, touches, inr (keeps, inr (few', touches', inr (keeps', inr never)))) = absurd never

both_kept : KeepsRecent config 2000 two_came (of_b ∷ of_a ∷ [])
unfolding route_of
both_kept = record {
  kept = (
    record {
      on_route = refl;
      earlier = omega arith;
      has_lifetime = omega arith;
      not_replaced = inl refl;
      writable = writable 98 1030 60;
    },
    (
      record {
        on_route = refl;
        earlier = omega arith;
        has_lifetime = omega arith;
        not_replaced = inr (keeps_place of_b.piece of_a.piece refl, inl refl);
        writable = writable 97 1020 60;
      },
      tt,
    ),
  );
  order = λ o slots recent alive. in_order [] o slots recent;
}

-- an entry carried by no reply, at the end
abbrev of_nobody : Held
of_nobody = of ((120 ∷ []) ∷ (101 ∷ []) ∷ []) 1040 60

but_for_who_carried_it : NotReplaced of_nobody (of_b ∷ of_a ∷ [])
    → KeepsRecent config 2000 two_came (of_b ∷ of_a ∷ of_nobody ∷ [])
unfolding route_of
but_for_who_carried_it carried = record {
  kept = (
    both_kept.kept.0,
    (
      both_kept.kept.1.0,
      (
        record {
          on_route = refl;
          earlier = omega arith;
          has_lifetime = omega arith;
          not_replaced = carried;
          writable = writable 120 1040 60;
        },
        tt,
      ),
    ),
  );
  order = λ o slots recent alive. in_order (of_nobody ∷ []) o slots recent;
}

carried_by_nobody : KeepsRecent config 2000 two_came (of_b ∷ of_a ∷ of_nobody ∷ []) → ⊥
carried_by_nobody h = by h.kept.1.1.0.not_replaced
  where
    other : (x : Held) (letter : ℕ) → letter_of x.piece.owner ≡ letter → (letter ≡ 120 → ⊥) → x ≡ of_nobody → ⊥
    other x letter is differs same = differs (sym is ∙ ap (λ (h : Held). letter_of h.piece.owner) same)

    by : NotReplaced of_nobody (of_b ∷ of_a ∷ []) → ⊥
    by (inl same) = other of_b 98 refl (λ letters. omega (arith, letters)) same
    by (inr (keeps, inl same)) = other of_a 97 refl (λ letters. omega (arith, letters)) same
    by (inr (keeps, inr never)) = never.1

-- the address of a.e came last: each entry was carried, but b.e's is in front of a.e's
abbrev turned_round : List Touched
turned_round = carrying of_a ∷ carrying of_b ∷ []

abbrev IsInOrder : Type 0
IsInOrder = (o : Held) (slots : List Slot) → IsRecent 4096 turned_round o slots → is_alive 2000 o ≡ true
    → ComesAfter slots o (of_b ∷ of_a ∷ [])

but_for_their_order : IsInOrder → KeepsRecent config 2000 turned_round (of_b ∷ of_a ∷ [])
unfolding route_of
but_for_their_order order = record {
  kept = (
    record {
      on_route = refl;
      earlier = omega arith;
      has_lifetime = omega arith;
      not_replaced = inr (keeps_place of_a.piece of_b.piece refl, inl refl);
      writable = writable 98 1030 60;
    },
    (
      record {
        on_route = refl;
        earlier = omega arith;
        has_lifetime = omega arith;
        not_replaced = inl refl;
        writable = writable 97 1020 60;
      },
      tt,
    ),
  );
  order = order;
}

just_came : IsRecent 4096 turned_round of_a (of_a.piece.slot ∷ [])
just_came = (
  omega arith,
  record { carried = (inl refl, tt); used = tt },
  inl (record { believed = inl (refl, inr each); memory = refl }),
)
  where
    each : (h : Held) → NotReplaced h (of_b ∷ []) → AreOfOneSlot h.piece.slot of_a.piece.slot
        → 1020 < h.accepted + 1000 * h.piece.lifetime → h.piece.rank ≤ 3
    each h (inl is) slot alive = subst (λ (x : Held). x.piece.rank ≤ 3) is (omega arith)
    each h (inr never) slot alive = absurd never.1

not_in_order : IsInOrder → ⊥
not_in_order order = after_an_untouched_one (order of_a (of_a.piece.slot ∷ []) just_came refl)

-- ---- a history without steps: nothing was carried, so nothing may be an entry

abbrev with_entry : Held → State
with_entry h = record (initial config) { cache = record { capacity = 4096; entries = h ∷ [] } }

nothing_carried : IsMirrored config [] [] (initial config)
nothing_carried = record {
  mirrors = λ carried is room. subst (λ (hs : List Held). Mirrors 0 hs []) (sym is)
      (record { was_carried = λ h among. among; stands = λ m later h among alive. among; held = λ m later h among. among });
  uses = tt;
}

an_entry_from_nowhere : IsMirrored config [] [] (with_entry of_a) → ⊥
an_entry_from_nowhere h =
    (h.mirrors [] refl (record { slots = record { slots = []; few = omega arith; each = tt }; memory = tt })).was_carried of_a (inl refl)

nothing_touched : HasRecent config [] [] (initial config)
nothing_touched = record {
  used = [];
  keeps = λ ts is. subst (λ (touched : List Touched). KeepsRecent config 0 touched []) (sym is)
      (record { kept = tt; order = λ o slots never alive. absurd never });
  uses = tt;
}

a_recent_entry_from_nowhere : HasRecent config [] [] (with_entry of_a) → ⊥
a_recent_entry_from_nowhere h = (h.keeps [] refl).kept.0.not_replaced

-- so no history explains the entry
an_unexplained_entry : FullyExplains config [] [] (with_entry of_a) → ⊥
an_unexplained_entry h = an_entry_from_nowhere h.mirrored

-- ---- the pieces carried by a step

abbrev quiet_step : Step
quiet_step = record { input = record { now = 0; words = []; event = tick }; outcome = record { actions = []; unkept = 0; more = false } }

-- a tick delivers nothing
quiet : NothingAccepted config quiet_step []
quiet ps carries = let delivered = carries.accepts.matches.delivered in absurd cc

nothing_now : CarriesNow config quiet_step [] []
nothing_now = inl (quiet, refl)

a_piece_of_no_reply : CarriesNow config quiet_step [] (of_a ∷ []) → ⊥
a_piece_of_no_reply (inl (silent, none)) = absurd cc
a_piece_of_no_reply (inr (ps, carries, these)) = quiet ps carries

-- ---- asks and waiting questions

abbrev ask_for : Question → Ask
ask_for q = record {
  question = q;
  route = 0;
  server = 0;
  peer = server;
  used = 1;
  path = Udp 1032;
  id = 8;
  asked = 1000;
}

abbrev waiting_for : Question → Waiting
waiting_for q = record {
  client = client;
  asked = asked_in (header_in (question_text 7 1)) (Some q);
  taken = 1000;
  held = [];
  wanted = q;
}

one_for_two : AreServed (ask_for (address a) ∷ []) (waiting_for (address a) ∷ waiting_for (address a) ∷ [])
one_for_two = record { asked = (inl refl, (inl refl, tt)); wanting = (inl refl, tt) }

for_nobody : AreServed (ask_for (address a) ∷ []) [] → ⊥
for_nobody h = h.wanting.0

for_one_of_two : AreServed (ask_for (address a) ∷ []) (waiting_for (address a) ∷ waiting_for (address b) ∷ []) → ⊥
for_one_of_two h = by h.asked.1.0
  where
    by : (false ≡ true) ⊎ ⊥ → ⊥
    by (inl is) = true≢false (sym is)
    by (inr never) = never
