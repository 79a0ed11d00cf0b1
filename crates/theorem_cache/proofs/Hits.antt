-- Look-ups of a client's question, and of a waiting question.
use Rattle.std.proofs.Common.{ℕ, ◌<◌, ◌≤◌, List, [], ◌∷◌, subst, inl, inr, refl, arith}
use Rattle.std.specs.List.{AllByRecursion}
use Rattle.trust_rank.specs.Formed.{IsPiece}
use Rattle.record_cache.specs.Values.{Held}
use Rattle.record_cache.specs.Ageing.{end_of}
use Rattle.step_history.specs.History.{moment_at, Look}
use Rattle.step_history.proofs.CallerLemmas.{moment_later}
use Rattle.alias_chains.specs.LookingUp.{look_up}
use Rattle.theorem_cache.specs.Kept.{IsKept}
use Rattle.theorem_cache.specs.Chains.{look_from}
use Rattle.theorem_cache.specs.Laws.{LookUpsAreRight, LookUpsThatGoOnAreRight}
use Rattle.theorem_cache.proofs.Justifying.{justified_later, kept_is_justified}
use Rattle.theorem_cache.proofs.LookingUp.{IsUsable, look_up_right, look_up_sized}

pub look_ups_are_right : LookUpsAreRight
look_ups_are_right c past m n cache s q was is (run, quiet) now = record { can_write = led.can_write; follows = led.follows; right_end = led.right_end; sized = look_up_sized c.routes n cache.entries 8 [] q refl }
  where
    -- each entry may serve the question now
    usable : (es : List Held) → AllByRecursion (λ h. IsPiece h.piece) es → AllByRecursion (IsKept c was.carried m) es → AllByRecursion (IsUsable (look_from c s past (s ∷ past)) n) es
    usable [] formed kept = tt
    usable (h ∷ es) formed kept = (
      record {
        can_write = record { formed = formed.0; writable = kept.0.writable; earlier = let before : h.accepted ≤ m = kept.0.earlier in let le = moment_later s past run in omega (arith, before, le, is, now) };
        formed = formed.0;
        on_route = kept.0.on_route;
        serves = λ name alive route. kept_is_justified c s past (s ∷ past) name was.carried h (inl refl) (inr (inl (run, quiet, was.carried_is))) kept.0.not_replaced (subst (λ (t : ℕ). t < end_of h) now alive) route;
      },
      usable es formed.1 kept.1,
    )

    all_usable : AllByRecursion (IsUsable (look_from c s past (s ∷ past)) n) cache.entries
    all_usable = usable cache.entries was.held.formed was.kept

    led : Rattle.theorem_cache.proofs.LookingUp.IsLed (look_from c s past (s ∷ past)) n cache.entries all_usable q (Rattle.theorem_cache.specs.Kept.looked c n cache.entries q)
    led = look_up_right (look_from c s past (s ∷ past)) n cache.entries all_usable q 8 [] q tt refl

pub look_ups_that_go_on_are_right : LookUpsThatGoOnAreRight
look_ups_that_go_on_are_right c asked s before past m n cache q wanted held more was is era on now can_write follows sized =
    record { can_write = led.can_write; follows = led.follows; right_end = led.right_end; sized = look_up_sized c.routes n cache.entries more held wanted sized }
  where
    look : Look
    look = look_from c asked before (s ∷ past)

    later : moment_at past ≤ moment_at (s ∷ past)
    later = moment_later s past on.0

    -- each entry was there before the step, and may serve the question still
    usable : (es : List Held) → AllByRecursion (λ h. IsPiece h.piece) es → AllByRecursion (IsKept c was.carried m) es → AllByRecursion (IsUsable look n) es
    usable [] formed kept = tt
    usable (h ∷ es) formed kept = (
      record {
        can_write = record { formed = formed.0; writable = kept.0.writable; earlier = let before : h.accepted ≤ m = kept.0.earlier in let le = later in omega (arith, before, le, is, now) };
        formed = formed.0;
        on_route = kept.0.on_route;
        serves = λ name alive route. justified_later c asked s before past name h on (kept_is_justified c asked before past name was.carried h era was.carried_is kept.0.not_replaced (let le = later in omega (arith, alive, le, now)) route);
      },
      usable es formed.1 kept.1,
    )

    all_usable : AllByRecursion (IsUsable look n) cache.entries
    all_usable = usable cache.entries was.held.formed was.kept

    led : Rattle.theorem_cache.proofs.LookingUp.IsLed look n cache.entries all_usable q (look_up c.routes n cache.entries more held wanted)
    led = look_up_right look n cache.entries all_usable q more held wanted can_write follows
