-- A `&Refusing<B>` as the two walks see it: a `&` to the allocator within and a `&` to the counts.
-- Assumes `Logic`.
use Rattle.std.proofs.Common.{ℕ, ◌+◌, [], ◌∷◌, Bor}
use seplogic.Ra.Ura.{Ura}
use mir.Syntax.{Args, a_type, dnil, dcons}
use base.Logic.{ent, sep, id⊢}
use base.Fml.{Lft}
use prog.Memory.{size, align, up}
use types.Logic.{Logic, sem}
use types.Kit.{‵, ◌$◌, ◌∵◌, !, qed, move, keep, use1, join, fsplit, done}
use denote.RattleType.{RattleType}
use denote.Memory.{hidden_shr}
use denote.Opens.{unhide}
use denote.Param.{bounded, param}
use denote.Builtin.{RefOf}
use denote.Signature.{Slot, plain}
use Rattle.std.proofs.alloc.Calls.{Al, α, seen}
use Rattle.refusing_allocator.specs.contracts.Growths as Growths
use Rattle.refusing_allocator.specs.contracts.Refusing as Refusing

abbrev pub Count : RattleType
Count = Growths.the_row

module _ (Z : Al) where
  abbrev pub Whole : RattleType
  Whole = Refusing.the_row (param 0 Z.row)

  abbrev pub type_arguments : Args
  type_arguments = bounded (a_type ∷ []) (Z.row, tt) (dcons Z.d (dcons Z.drops dnil))

  abbrev pub receiver : Slot 2
  receiver = RefOf (0 ∷ []) tt (plain (λ _. Whole)) (λ _. tt)

  -- the places of the two fields
  abbrev pub inner_place : ℕ × ℕ → ℕ × ℕ
  inner_place at = (at.0, at.1 + up (align (α Z)) 0)

  abbrev pub count_place : ℕ × ℕ → ℕ × ℕ
  count_place at = (at.0, at.1 + up 8 (up (align (α Z)) 0 + size (α Z)))

module _ (Z : Al) {M : Type 1} {𝓤 : Ura M} (𝓛 : Logic 𝓤) (κ : Lft) (r : Bor (Refusing.the_row Z.row).Denot) where
  pub parts : ent 𝓤 (sem 𝓛 (hidden_shr (Whole Z) κ r.now r.ref_ptr.0 r.ref_ptr.1))
      (sep 𝓤 (sem 𝓛 (seen Z κ (inner_place Z r.ref_ptr) r.now.inner))
      (sem 𝓛 (hidden_shr Count κ r.now.growths (count_place Z r.ref_ptr).0 (count_place Z r.ref_ptr).1)))
  parts =
      qed 𝓛 (‵ (hidden_shr (Whole Z) κ r.now r.ref_ptr.0 r.ref_ptr.1) ∷ []) ∵ unhide ! $ fsplit ! $ fsplit ! $
      use1 𝓛 (‵ (seen Z κ (inner_place Z r.ref_ptr) r.now.inner)) (id⊢ 𝓤 _) $ move ! (1 ∷ []) $ fsplit ! $
      use1 𝓛 (‵ (hidden_shr Count κ r.now.growths (count_place Z r.ref_ptr).0 (count_place Z r.ref_ptr).1)) (id⊢ 𝓤 _) $
      keep ! (2 ∷ 0 ∷ []) $ join ! $ done !
