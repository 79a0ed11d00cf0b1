-- The call of `is_refused` in `allocate`: its arguments, and that it returns a truth value. Assumes
-- `Logic`.
use Rattle.std.proofs.Common.{◌≡◌, ℕ, ◌^◌, ◌<◌, Bool, List, [], ◌∷◌, refl, ap, w64}
use seplogic.Ra.Ura.{Ura}
use mir.Val.{Val, vbool, vint, vptr}
use base.Logic.{SProp, ent, sep, ex, guard, id⊢}
use base.Fml.{Lft, Share, ftrue, fsep, flft}
use prog.Memory.{Memory}
use prog.Routine.{Routine}
use types.Logic.{Logic, sem}
use contract.Monad.{Fun}
use types.Kit.{‵, raw, ◌⊛◌, some, later, ◌$◌, ◌∵◌, !, qed, move, keep, use1, split, join, pick, fjoin, feq_i, feq_l, flt_i, check, show, await, updating, now as at_once, done}
use denote.Memory.{hidden_shr}
use denote.Builtin.{bool}
use denote.Steps.{nothing, only}
use denote.Triple.Statement.{Contract}
use denote.Triple.Spec.{triple_of}
use Rattle.refusing_allocator.specs.contracts.is_refused as is_refused
use Rattle.refusing_allocator.proofs.Handle.{Count}

module _ {M : Type 1} {𝓤 : Ura M} (𝓛 : Logic 𝓤) (at_mem : Memory → SProp 𝓤) (run : Routine → Fun 𝓤) where
  abbrev pub Counts : Contract 𝓤
  Counts = triple_of 𝓛 is_refused.signature (is_refused.spec 𝓛 at_mem run)

  abbrev pub at_counts : Lft → Share → ℕ × ℕ → Count.Denot → ℕ → Counts.Ghost
  at_counts κ q c n s = (((κ, tt), (q, tt), tt, (record { ref_ptr = c; now = n }, (s, tt)), (vptr c.0 c.1 ∷ [], (vint w64 s ∷ [], tt))), tt)

  module _ (κ : Lft) (q : Share) (c : ℕ × ℕ) (n : Count.Denot) (s : ℕ) where
    open 𝓛 use {H, A}

    pub counts_goes : s < 2 ^ 64 → ent 𝓤 (sep 𝓤 (sem 𝓛 (hidden_shr Count κ n c.0 c.1)) (A.lft κ q)) (Counts.pre (at_counts κ q c n s))
    counts_goes fits =
        qed 𝓛 (‵ (hidden_shr Count κ n c.0 c.1) ∷ ‵ (flft κ q) ∷ []) ∵
        nothing ! $ flt_i ! s (2 ^ 64) fits $ feq_i ! (List Val) (vint w64 s ∷ []) (vint w64 s ∷ []) refl $ fjoin ! $ fjoin ! $
        move ! (1 ∷ []) $ feq_i ! (List Val) (vptr c.0 c.1 ∷ []) (vptr c.0 c.1 ∷ []) refl $ fjoin ! $ fjoin ! $
        nothing ! $ move ! (2 ∷ []) $ join ! $ join ! $ nothing ! $ move ! (1 ∷ []) $ join ! $ done !

    -- what it answers, with the token back
    abbrev pub Said : Val → SProp 𝓤
    Said v = ex 𝓤 (λ (spent : Bool). guard 𝓤 (v ≡ vbool spent) (A.lft κ q))

    pub counts_says : (v : Val) → ent 𝓤 (Counts.post (at_counts κ q c n s) v) (H.⇛ (Said v))
    counts_says v =
        qed 𝓛 (raw (Counts.post (at_counts κ q c n s) v) ∷ []) ∵ updating ! $
        use1 𝓛 (later (some (λ (spent : Bool). ((‵ (flft κ q) ⊛ ‵ ftrue) ⊛ ‵ (bool.own_val spent (v ∷ []))) ⊛
        some (λ (ws : Unit {0} × (Unit {0} × Unit {0})). ‵ (fsep ftrue (fsep ftrue ftrue)) ⊛ ‵ ftrue)))) (id⊢ 𝓤 _) $ await ! tt $ pick ! (λ spent.
        split ! $ split ! $ move ! (1 ∷ []) $ feq_l ! (λ e. split ! $ at_once ! $
        show ! (λ (t : Bool). guard 𝓤 (v ≡ vbool t) (A.lft κ q)) spent $ check ! (ap only e) $ keep ! (0 ∷ []) $ done !))
