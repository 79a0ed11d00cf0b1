-- The block goes back to the allocator within, with the right to free it. Assumes `Logic`.
use Rattle.std.proofs.Common.{◌≡◌, ℕ, ◌^◌, ◌<◌, List, [], ◌∷◌, refl, w64, Bor}
use seplogic.Ra.Ura.{Ura}
use mir.Syntax.{Ty, Fn}
use mir.Val.{Val, vunit, vint, vptr}
use mir.MapTy.{inst_fn}
use base.Logic.{SProp, ent, never_e}
use base.Fml.{Lft, Share, ffalse, ftrue, fsep, froom, flft}
use prog.Memory.{Memory, size, align, capped}
use prog.Routine.{Routine}
use prog.Wp.{WpFn, Tables}
use types.Logic.{Logic}
use types.Kit.{Item, ‵, raw, ◌⊛◌, later, given, ◌$◌, ◌∵◌, !, qed, by, move, keep, use1, split, split3, learn, fsplit, fjoin, feq_i, group, suffices, await, done}
use types.Run.{stop, fld, addr, no_more, and_then, of_opd, unit_lit, returns, enter}
use types.ByLocal.{alloc_all, pass_all, free_all, look_at, get, through, sets, lands_as}
use contract.BorrowLft.{◌⊑◌, ⊑_trans}
use contract.Monad.{Fun, fact}
use contract.Running.{tables, tables_of}
use sound.WpLaws.{fm_of, WpFn-mono}
use denote.Exit.{yes}
use denote.RattleType.{owns}
use denote.Ref.{shr_vals}
use denote.Memory.{hidden_shr}
use denote.RawPtr.{Ptr, block_ptr, null_ptr, ptr_val, rawptr_vals, rawptr_Tells}
use denote.Plain.{uint_vals, uint_Tells}
use denote.Builtin.{usize, RawPtr}
use denote.Signature.{plain, types_at}
use denote.Steps.{heard, nothing}
use denote.Triple.Call.{calls_at}
use denote.Triple.Clauses.{Ended, Clauses}
use denote.Triple.Spec.{triple_of}
use denote.Triple.Statement.{Triple}
use denote.Triple.Table.{entered}
use denote.Triple.Walked.{Stays, stay_dropped, walk_of, ends_at, walked, Goes-dropped, walk_Meets}
use Rattle.std.proofs.alloc.Calls.{Al, seen, token, gives_key, Gives, at_gives, Gives-goes, Gives-Gives}
use Rattle.refusing_allocator.proofs.Handle.{Count, type_arguments, receiver, inner_place, count_place, parts}
use Rattle.refusing_allocator.specs.contracts.Refusing as Refusing
use Rattle.refusing_allocator.specs.contracts.RefusingAllocator.deallocate as f
use Rattle.refusing_allocator.specs.contracts.RefusingAllocator.deallocate.Key as key
use Rattle.refusing_allocator.proofs.RefusingAllocator.deallocate.Statement as stated
use Rattle.refusing_allocator.proofs.RefusingAllocator.deallocate.Code as code

module _ (Z : Al) where
  abbrev here : Fn
  here = inst_fn (type_arguments Z) code.function

  abbrev ended : Ended
  ended = f.ended Z.row Z.g Z.d Z.drops

  abbrev stayed : Stays ended.signature.params ended.kept
  stayed = (stay_dropped (receiver Z) yes, (stay_dropped (plain (λ _. RawPtr)) yes, (stay_dropped (plain (λ _. usize)) yes, (stay_dropped (plain (λ _. usize)) yes, tt))))

module _ (Z : Al) {M : Type 1} {𝓤 : Ura M} (𝓛 : Logic 𝓤) (at_mem : Memory → SProp 𝓤) (run : Routine → Fun 𝓤) (𝓣 : Tables 𝓤 𝓛.H)
    (gives : Triple 𝓤 (𝓣.C (gives_key Z)) (Gives Z 𝓛 at_mem run)) where
  open 𝓛 use {H}

  abbrev clauses : Clauses 𝓤 (ended Z)
  clauses = f.clauses Z.row Z.g Z.d Z.drops 𝓛 at_mem run

  module _ (κ₁ κ₂ : Lft) (q₁ q₂ : Share) (shorter : κ₁ ⊑ κ₂) (r : Bor (Refusing.the_row Z.row).Denot) (n a : ℕ) (τ : Ty) where
    abbrev bound : Ptr → (walk_of 𝓛 (ended Z) (stayed Z) clauses).Ghost
    bound block = (((κ₁, (κ₂, tt)), (q₁, (q₂, tt)), (shorter, tt), (r, (block, (n, (a, tt)))), (shr_vals r, (rawptr_vals block, (vint w64 n ∷ [], (vint w64 a ∷ [], tt))))), τ)

    abbrev passed : Ptr → List Val
    passed block = vptr r.ref_ptr.0 r.ref_ptr.1 ∷ ptr_val block ∷ vint w64 n ∷ vint w64 a ∷ []

    abbrev Fits : Type 0
    Fits = (capped (size τ) ≡ n) × (capped (align τ) ≡ a)

    abbrev before : Ptr → Item 𝓤
    before block = (‵ (flft κ₁ q₁) ⊛ ‵ (flft κ₂ q₂) ⊛ ‵ ftrue) ⊛ ‵ (owns (types_at (ended Z).signature.params (bound block).0.0) (bound block).0.3 (bound block).0.4)

    walk : n < 2 ^ 64 → a < 2 ^ 64 → (block : Ptr)
        → ent 𝓤 ((walk_of 𝓛 (ended Z) (stayed Z) clauses).pre (bound block)) (WpFn 𝓤 H 𝓣.C 𝓣.Λ (here Z) (passed block) ((walk_of 𝓛 (ended Z) (stayed Z) clauses).post (bound block)))
    -- nothing lies at null, so no block goes back there
    walk small_n small_a null_ptr =
        qed 𝓛 (before null_ptr ∷ (raw (fact 𝓤 (κ₂ ⊑ Z.row.lives)) ⊛ raw (fact 𝓤 Fits) ⊛ ‵ (fsep ffalse (token Z r.now.inner τ null_ptr))) ∷ []) ∵
        move ! (1 ∷ []) $ split3 ! $ move ! (2 ∷ []) $ fsplit ! $ keep ! (0 ∷ []) $ by ! (never_e 𝓤 _)
    walk small_n small_a (block_ptr b o) =
        let block : Ptr = block_ptr b o in
        let inner : Z.row.Denot = r.now.inner in
        let p : ℕ × ℕ = inner_place Z r.ref_ptr in
        let c : ℕ × ℕ = count_place Z r.ref_ptr in
        let y : (Gives Z 𝓛 at_mem run).Ghost = at_gives Z 𝓛 at_mem run κ₁ q₁ p inner b o n a τ in
        qed 𝓛 (before block ∷ (raw (fact 𝓤 (κ₂ ⊑ Z.row.lives)) ⊛ raw (fact 𝓤 Fits) ⊛ ‵ (fsep (froom τ b o) (token Z inner τ block))) ∷ []) ∵
        move ! (1 ∷ []) $ split3 ! $ heard ! (κ₂ ⊑ Z.row.lives) (λ lives. heard ! Fits (λ fits. fsplit ! $ move ! (2 ∷ []) $ split ! $ split3 ! $
        -- [two tokens; nothing; the parameters; the block; the right to free it]
        move ! (3 ∷ []) $ fsplit ! $ fsplit ! $ move ! (1 ∷ []) $
        use1 𝓛 (‵ (seen Z κ₁ p inner) ⊛ ‵ (hidden_shr Count κ₁ r.now.growths c.0 c.1)) (parts Z 𝓛 κ₁ r) $ split ! $
        -- [the allocator within; the count; ..; the tokens at 4 and 5; the block at 7; the right to
        -- free it at 8]
        keep ! (7 ∷ 8 ∷ 0 ∷ 4 ∷ 5 ∷ []) $ group ! 4 $
        use1 𝓛 (raw ((Gives Z 𝓛 at_mem run).pre y)) (Gives-goes Z 𝓛 at_mem run κ₁ q₁ p inner (⊑_trans κ₁ κ₂ Z.row.lives shorter lives) b o n a τ fits.0 fits.1 small_n small_a) $
        enter ! 𝓣.C 𝓣.Λ (here Z) (passed block) _ $ alloc_all ! (λ l.
        pass_all ! refl ((tt, tt), ((tt, tt), ((tt, record { fits = small_n }), ((tt, record { fits = small_a }), tt)))) $
        sets ! (addr ! (through ! refl (fld ! refl (stop !)))) refl (tt, tt) $
        calls_at ! (fm_of 𝓤 H 𝓛.laws 𝓣) (Gives Z 𝓛 at_mem run) gives y
        (and_then ! (get ! refl) (and_then ! (get ! refl) (and_then ! (get ! refl) (and_then ! (get ! refl) (no_more !))))) (λ v.
        use1 𝓛 (later (given (v ≡ vunit) (‵ (flft κ₁ q₁)))) (Gives-Gives Z 𝓛 at_mem run κ₁ q₁ p inner b o n a τ v) $ await ! tt $ learn ! (λ e.
        lands_as ! e refl (tt, tt) $ sets ! (of_opd ! (unit_lit !)) refl (tt, tt) $ returns ! (look_at ! 0 refl) $ free_all ! refl $
        -- [the two tokens]
        suffices ! _ (ends_at 𝓛 (ended Z) (stayed Z) clauses (bound block) vunit tt (tt, (tt, (tt, (tt, tt)))) (tt, (tt, (tt, (tt, tt))))) $
        nothing ! $ feq_i ! (List Val) (vunit ∷ []) (vunit ∷ []) refl $
        nothing ! $ nothing ! $ fjoin ! $ nothing ! $ fjoin ! $ nothing ! $ fjoin ! $ nothing ! $ fjoin ! $
        nothing ! $ move ! (4 ∷ 5 ∷ 0 ∷ []) $ group ! 3 $ group ! 3 $ done !)))))

pub deallocate_spec : {M : Type 1} → stated.statement M
unfolding tables_of
deallocate_spec 𝓤 𝓛 𝓜 𝓡 wired Y laws g d d' met _ =
    let Z : Al = record { row = Y; laws = laws; g = g; d = d; drops = d' } in
    let 𝓣 : Tables 𝓤 𝓛.H = tables_of 𝓤 𝓛.H 𝓜 (tables 𝓤 𝓛.H 𝓜 𝓡 𝓡.env) in
    let c = f.clauses Y g d d' 𝓛 𝓜.mem 𝓡.returns in
    let number = Goes-dropped 𝓛 2 (plain (λ _. usize)) yes (λ κs x w. refl) in
    let pointer = Goes-dropped 𝓛 2 (plain (λ _. RawPtr)) yes (λ κs x w. refl) in
    let body = WpFn 𝓤 𝓛.H 𝓣.C 𝓣.Λ (here Z) in
    entered 𝓤 𝓛.H (triple_of 𝓛 (f.signature Y) (f.spec Y g d d' 𝓛 𝓜.mem 𝓡.returns)) 𝓣.C 𝓣.Λ (key.name (type_arguments Z)) (here Z)
    (code.unfolded 𝓤 𝓛.H 𝓜 𝓡 wired (Y, tt) d d')
    (walk_Meets 𝓛 (ended Z) (stayed Z) (Goes-dropped 𝓛 2 (receiver Z) yes (λ κs x w. refl), (pointer, (number, (number, tt)))) c body (WpFn-mono 𝓤 𝓛.H 𝓛.laws 𝓣 (here Z))
    (walked 𝓛 (ended Z) (stayed Z) c body (λ κs. (shr_vals, (rawptr_vals, (uint_vals w64, (uint_vals w64, tt)))))
    (λ κs. ((λ r vs s. s.0), (rawptr_Tells, (uint_Tells w64, (uint_Tells w64, tt)))))
    (λ κs qs bounds a τ are. walk Z 𝓛 𝓜.mem 𝓡.returns 𝓣 (met.deallocate d') κs.0 κs.1.0 qs.0 qs.1.0 bounds.0 a.0 a.1.1.0 a.1.1.1.0 τ are.1.1.0.1 are.1.1.1.0.1 a.1.0)))
