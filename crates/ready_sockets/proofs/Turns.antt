-- The turns of sockets that may be ready.
use Rattle.std.proofs.Common.{◌≡◌, ℕ, zero, suc, ◌+◌, ◌-◌, ◌%◌, ◌<◌, List, [], ◌∷◌, length, inl}
use Rattle.std.proofs.Common.{inr, subst, sym, refl, true, false, is_some, Option, Some, None}
use Rattle.std.proofs.Common.{arith}
use Rattle.std.specs.BTreeSet.{btree_set_len}
use Rattle.ready_sockets.specs.declared.origin.Origin.{Origin}
use Rattle.ready_sockets.specs.declared.origin.Origin.TheVariants.{Datagrams}
use Rattle.ready_sockets.specs.declared.readiness.Tokens.{Tokens}
use Rattle.ready_sockets.specs.declared.readiness.Ready.{Ready}
use Rattle.ready_sockets.specs.Trying.{Finds, FindsNow, Gives, GivesOnTurn, HasDatagramsAlone}

-- The turns that are left of four find what all four find.
pub record FindsAll {A : Type 0} (tried first turn : ℕ) (begun ready : Ready A) : Type 0 where
  pub finds : (given : Option Origin) (turn' : ℕ) (after : Ready A)
      → Finds (4 - tried) given turn turn' ready after → Finds 4 given first turn' begun after

pub left_now : {A : Type 0} (tried : ℕ) (given : Option Origin) (turn turn' : ℕ)
    (before after : Ready A) → tried < 4 → FindsNow given turn turn' before after
    → Finds (4 - tried) given turn turn' before after
left_now {A} tried given turn turn' before after h f =
    let one : suc (3 - tried) ≡ 4 - tried = omega arith in
    let now : Finds (suc (3 - tried)) given turn turn' before after = inl f in
    subst (λ n. Finds n given turn turn' before after) one now

pub left_later : {A : Type 0} (tried : ℕ) (given : Option Origin) (turn turn' : ℕ)
    (before between after : Ready A) → tried < 4 → GivesOnTurn (turn % 4 + 1) None before between
    → Finds (4 - (tried + 1)) given (turn % 4 + 1) turn' between after
    → Finds (4 - tried) given turn turn' before after
left_later {A} tried given turn turn' before between after h g f =
    let one : suc (4 - (tried + 1)) ≡ 4 - tried = omega arith in
    let later : Finds (suc (4 - (tried + 1))) given turn turn' before after = inr (between, (g, f))
    in
    subst (λ n. Finds n given turn turn' before after) one later

pub found_now : {A : Type 0} (tried first turn turn' : ℕ) (given : Option Origin)
    (begun before after : Ready A) → tried < 4 → FindsAll tried first turn begun before
    → turn' ≡ turn % 4 + 1 → GivesOnTurn turn' given before after → is_some given ≡ true
    → Finds 4 given first turn' begun after
found_now tried first turn turn' given begun before after h all turns gives some =
    all.finds given turn' after
    (left_now tried given turn turn' before after h
    (record { turns = turns; gives = gives; some = some }))

pub found_later : {A : Type 0} (tried first turn turn' : ℕ) (given : Option Origin)
    (begun before between : Ready A) → tried < 4 → FindsAll tried first turn begun before
    → turn' ≡ turn % 4 + 1 → GivesOnTurn turn' given before between → is_some given ≡ false
    → FindsAll (tried + 1) first turn' begun between
found_later tried first turn turn' (Some origin) begun before between h all turns gives none = cc
found_later {A} tried first turn turn' None begun before between h all turns gives none =
    let gives : GivesOnTurn (turn % 4 + 1) None before between = subst
    (λ t. GivesOnTurn t None before between) turns gives in
    let all : FindsAll (tried + 1) first (turn % 4 + 1) begun between = record {
      finds = λ given turn' after f. all.finds given turn' after
          (left_later tried given turn turn' before between after h gives f);
    } in
    subst (λ t. FindsAll (tried + 1) first t begun between) (sym turns) all

-- ---- where only datagrams may be ready, each turn but theirs gives none

no_tokens : (tokens : List ℕ) → length tokens ≡ 0 → tokens ≡ []
no_tokens [] is = refl
no_tokens (t ∷ ts) is = absurd (omega (arith, is))

gives_none : {A : Type 0} (tokens_before : Tokens A) → btree_set_len tokens_before.tokens ≡ 0
    → Gives None tokens_before tokens_before
gives_none tokens_before is =
    let none : tokens_before.tokens.keys ≡ [] = no_tokens tokens_before.tokens.keys is in
    record {
      tried = rw none refl;
      next = λ origin has token. let there : None ≡ Some _ = rw none at token in absurd cc;
      none = λ token. refl;
    }

module _ {A : Type 0} (ready : Ready A) (alone : HasDatagramsAlone ready) where
  other_turn : (turn : ℕ) → (turn ≡ 1 → ⊥) → GivesOnTurn turn None ready ready
  other_turn turn other = record {
    datagrams = λ one. absurd (other one);
    streams = λ three. (gives_none ready.streams alone.1, refl, refl);
    servers = λ even. (gives_none ready.servers alone.2, refl, refl);
  }

  own_turn : GivesOnTurn 1 (Some Datagrams) ready ready
  own_turn = record {
    datagrams = λ one. (rw alone.0 refl, refl);
    streams = λ three. absurd (omega (arith, three));
    servers = λ even. absurd (omega (arith, even));
  }

  -- `before` turns before theirs
  found_after : (tries turn before : ℕ) → (turn + before) % 4 ≡ 0 → before < 4 → before < tries
      → Finds tries (Some Datagrams) turn 1 ready ready
  found_after zero turn before is few lt = absurd (omega (arith, lt))
  found_after (suc tries) turn zero is few lt = inl
      (record { turns = omega (arith, is); gives = own_turn; some = refl })
  found_after (suc tries) turn (suc before) is few lt =
      let other : turn % 4 + 1 ≡ 1 → ⊥ = λ one. omega (arith, one, is, few) in
      inr (
        ready,
        (
          other_turn (turn % 4 + 1) other,
          found_after tries (turn % 4 + 1) before
              (omega (arith, is)) (omega (arith, few)) (omega (arith, lt)),
        ),
      )

  pub datagrams_are_found : (turn : ℕ) → Finds 4 (Some Datagrams) turn 1 ready ready
  datagrams_are_found turn = found_after 4 turn ((4 - turn % 4) % 4) (omega arith) (omega arith)
      (omega arith)
