-- Unless the allocation is refused it returns the result of the allocator within, otherwise `Err`.
-- Assumes `Logic`.
use Rattle.std.proofs.Common.{◌≡◌, ℕ, ◌^◌, ◌<◌, Bool, true, false, List, [], ◌∷◌, Ok, Err, refl, w64, Bor}
use seplogic.Ra.Ura.{Ura}
use mir.Syntax.{Ty, Fn}
use mir.Val.{Val, vbool, vint, vptr}
use mir.MapTy.{inst_fn}
use base.Logic.{SProp, ent}
use base.Fml.{Lft, Share, ftrue, froom, flft}
use prog.Memory.{Memory, size, align, capped}
use prog.Routine.{Routine}
use prog.Wp.{WpFn, Tables}
use types.Logic.{Logic}
use types.Kit.{‵, raw, ◌⊛◌, some, later, given, prop, at_ret, Sq, ◌$◌, ◌∵◌, !, qed, move, keep, drop, use0, use1, use2, split, split3, pick, learn, fsplit, fjoin, group, suffices, await, done}
use types.Part.{agg}
use types.Run.{stop, fld, addr, lit, no_more, and_then, first, branches, skips, exec, returns, returns_within, enter}
use types.ByLocal.{alloc_all, pass_all, free_all, look_at, get, through, sets, lands_as, env}
use contract.BorrowLft.{◌⊑◌, ⊑_trans}
use contract.Monad.{Fun, fact}
use contract.Running.{tables, tables_of}
use sound.WpLaws.{fm_of, WpFn-mono}
use denote.Exit.{yes}
use denote.RattleType.{owns}
use denote.Ref.{shr_vals}
use denote.Memory.{hidden_shr}
use denote.RawPtr.{block_ptr}
use denote.Plain.{uint_vals, uint_Tells}
use denote.Builtin.{usize}
use denote.Signature.{plain, types_at}
use denote.Steps.{heard, nothing}
use denote.Triple.Call.{calls_at}
use denote.Triple.Clauses.{Ended, Clauses}
use denote.Triple.Spec.{triple_of}
use denote.Triple.Statement.{Triple}
use denote.Triple.Table.{entered, cited}
use denote.Triple.Walked.{Stays, stay_dropped, walk_of, ends_at, walked, Goes-dropped, walk_Meets}
use Rattle.std.proofs.alloc.Calls.{Al, seen, token, Answer, answer_val, Answer-typed, Answer-Ok, Answer-err, takes_key, Takes, at_takes, Answered, Takes-goes, Takes-gives, answers}
use Rattle.std.proofs.VecSteps.Shapes.{after}
use Rattle.refusing_allocator.proofs.Handle.{Count, type_arguments, receiver, inner_place, count_place, parts}
use Rattle.refusing_allocator.proofs.Countdown.{Counts, at_counts, counts_goes, counts_says}
use Rattle.refusing_allocator.proofs.is_refused.Symbol as is_refused_symbol
use Rattle.refusing_allocator.proofs.is_refused.Met as is_refused_met
use Rattle.refusing_allocator.specs.contracts.Refusing as Refusing
use Rattle.refusing_allocator.specs.contracts.RefusingAllocator.allocate as f
use Rattle.refusing_allocator.specs.contracts.RefusingAllocator.allocate.Key as key
use Rattle.refusing_allocator.proofs.RefusingAllocator.allocate.Statement as stated
use Rattle.refusing_allocator.proofs.RefusingAllocator.allocate.Code as code

module _ (Z : Al) where
  abbrev here : Fn
  here = inst_fn (type_arguments Z) code.function

  abbrev ended : Ended
  ended = f.ended Z.row Z.g Z.d Z.drops

  abbrev stayed : Stays ended.signature.params ended.kept
  stayed = (stay_dropped (receiver Z) yes, (stay_dropped (plain (λ _. usize)) yes, (stay_dropped (plain (λ _. usize)) yes, tt)))

module _ (Z : Al) {M : Type 1} {𝓤 : Ura M} (𝓛 : Logic 𝓤) (at_mem : Memory → SProp 𝓤) (run : Routine → Fun 𝓤) (𝓣 : Tables 𝓤 𝓛.H)
    (takes : Triple 𝓤 (𝓣.C (takes_key Z)) (Takes Z 𝓛 at_mem run)) (counts : Triple 𝓤 (𝓣.C is_refused_symbol.name) (Counts 𝓛 at_mem run)) where
  open 𝓛 use {H}

  abbrev clauses : Clauses 𝓤 (ended Z)
  clauses = f.clauses Z.row Z.g Z.d Z.drops 𝓛 at_mem run

  module _ (κ₁ κ₂ : Lft) (q₁ q₂ : Share) (shorter : κ₁ ⊑ κ₂) (r : Bor (Refusing.the_row Z.row).Denot) (n a : ℕ) (τ : Ty) where
    abbrev bound : (walk_of 𝓛 (ended Z) (stayed Z) clauses).Ghost
    bound = (((κ₁, (κ₂, tt)), (q₁, (q₂, tt)), (shorter, tt), (r, (n, (a, tt))), (shr_vals r, (vint w64 n ∷ [], (vint w64 a ∷ [], tt)))), τ)

    abbrev passed : List Val
    passed = vptr r.ref_ptr.0 r.ref_ptr.1 ∷ vint w64 n ∷ vint w64 a ∷ []

    abbrev Fits : Type 0
    Fits = (capped (size τ) ≡ n) × (capped (align τ) ≡ a)

    abbrev Post : Val → SProp 𝓤
    Post = (walk_of 𝓛 (ended Z) (stayed Z) clauses).post bound

    -- the way out with `Err`, which owes nothing but the two tokens
    refused : Sq 𝓛 (‵ (flft κ₁ q₁) ∷ ‵ (flft κ₂ q₂) ∷ []) (prop (Post (answer_val false 0 0)))
    refused =
        suffices ! _ (ends_at 𝓛 (ended Z) (stayed Z) clauses bound (answer_val false 0 0) (Err (record {})) (tt, (tt, (tt, tt))) (tt, (tt, (tt, tt)))) $
        nothing ! $ use0 𝓛 (‵ (Answer.own_val (Err (record {})) (answer_val false 0 0 ∷ []))) (Answer-err 𝓛) $
        nothing ! $ nothing ! $ fjoin ! $ nothing ! $ fjoin ! $ nothing ! $ fjoin ! $
        nothing ! $ move ! (4 ∷ 5 ∷ 0 ∷ []) $ group ! 3 $ group ! 3 $ done !

    -- the way out with a block: the block and the right to free it go to the caller
    granted : (b o : ℕ) → Sq 𝓛 (‵ (froom τ b o) ∷ ‵ (token Z r.now.inner τ (block_ptr b o)) ∷ ‵ (flft κ₁ q₁) ∷ ‵ (flft κ₂ q₂) ∷ []) (prop (Post (answer_val true b o)))
    granted b o =
        suffices ! _ (ends_at 𝓛 (ended Z) (stayed Z) clauses bound (answer_val true b o) (Ok (block_ptr b o)) (tt, (tt, (tt, tt))) (tt, (tt, (tt, tt)))) $
        fjoin ! $ use0 𝓛 (‵ (Answer.own_val (Ok (block_ptr b o)) (answer_val true b o ∷ []))) (Answer-Ok 𝓛 b o) $
        nothing ! $ nothing ! $ fjoin ! $ nothing ! $ fjoin ! $ nothing ! $ fjoin ! $
        nothing ! $ move ! (4 ∷ 5 ∷ 0 ∷ []) $ group ! 3 $ group ! 3 $ done !

    walk : n < 2 ^ 64 → a < 2 ^ 64 → ent 𝓤 ((walk_of 𝓛 (ended Z) (stayed Z) clauses).pre bound) (WpFn 𝓤 H 𝓣.C 𝓣.Λ (here Z) passed Post)
    walk small_n small_a =
        let inner : Z.row.Denot = r.now.inner in
        let p : ℕ × ℕ = inner_place Z r.ref_ptr in
        let c : ℕ × ℕ = count_place Z r.ref_ptr in
        let y : (Takes Z 𝓛 at_mem run).Ghost = at_takes Z 𝓛 at_mem run κ₁ q₁ p inner n a τ in
        let z : (Counts 𝓛 at_mem run).Ghost = at_counts 𝓛 at_mem run κ₁ q₁ c r.now.growths n in
        qed 𝓛 (((‵ (flft κ₁ q₁) ⊛ ‵ (flft κ₂ q₂) ⊛ ‵ ftrue) ⊛ ‵ (owns (types_at (ended Z).signature.params bound.0.0) bound.0.3 bound.0.4)) ∷
        (raw (fact 𝓤 (κ₂ ⊑ Z.row.lives)) ⊛ raw (fact 𝓤 Fits)) ∷ []) ∵
        move ! (1 ∷ []) $ split ! $ heard ! (κ₂ ⊑ Z.row.lives) (λ lives. heard ! Fits (λ fits. split ! $ split3 ! $
        -- [two tokens; nothing; the parameters]
        move ! (3 ∷ []) $ fsplit ! $ fsplit ! $ move ! (1 ∷ []) $
        use1 𝓛 (‵ (seen Z κ₁ p inner) ⊛ ‵ (hidden_shr Count κ₁ r.now.growths c.0 c.1)) (parts Z 𝓛 κ₁ r) $ split ! $
        -- [the allocator within; the count; ..; the tokens at 4 and 5]
        keep ! (1 ∷ 4 ∷ 0 ∷ 5 ∷ []) $
        use2 𝓛 (raw ((Counts 𝓛 at_mem run).pre z)) (counts_goes 𝓛 at_mem run κ₁ q₁ c r.now.growths n small_n) $
        enter ! 𝓣.C 𝓣.Λ (here Z) passed _ $ alloc_all ! (λ l.
        pass_all ! refl ((tt, tt), ((tt, record { fits = small_n }), ((tt, record { fits = small_a }), tt))) $
        sets ! (addr ! (through ! refl (fld ! refl (stop !)))) refl (tt, tt) $
        calls_at ! (fm_of 𝓤 H 𝓛.laws 𝓣) (Counts 𝓛 at_mem run) counts z (and_then ! (get ! refl) (and_then ! (get ! refl) (no_more !))) (λ u.
        use1 𝓛 (later (some (λ (spent : Bool). given (u ≡ vbool spent) (‵ (flft κ₁ q₁))))) (counts_says 𝓛 at_mem run κ₁ q₁ c r.now.growths n u) $
        await ! tt $ pick ! (λ spent. learn ! (λ is_answer. lands_as ! is_answer refl (tt, tt) $
        -- [a token; the allocator within; the other token]
        first ! $ branches ! (get ! refl)
        (λ none_left. move ! (1 ∷ []) $ drop ! $ sets ! (agg ! (no_more !)) refl (tt, tt) $
        sets ! (agg ! (and_then ! (lit ! tt) (and_then ! (get ! refl) (no_more !)))) refl (Answer-typed false 0 0) $
        returns_within ! Post refl (look_at ! 0 refl) $ free_all ! refl $ refused)
        (λ some_left. skips ! $ exec ! 𝓣.C 𝓣.Λ (env (here Z).locals l) (after 3 (here Z).body) (at_ret _ Post) $
        sets ! (addr ! (through ! refl (fld ! refl (stop !)))) refl (tt, tt) $ move ! (1 ∷ 0 ∷ []) $
        use2 𝓛 (raw ((Takes Z 𝓛 at_mem run).pre y)) (Takes-goes Z 𝓛 at_mem run κ₁ q₁ p inner (⊑_trans κ₁ κ₂ Z.row.lives shorter lives) n a τ fits.0 fits.1 small_n small_a) $
        calls_at ! (fm_of 𝓤 H 𝓛.laws 𝓣) (Takes Z 𝓛 at_mem run) takes y (and_then ! (get ! refl) (and_then ! (get ! refl) (and_then ! (get ! refl) (no_more !)))) (λ v.
        use1 𝓛 (later (raw (Answered Z 𝓛 at_mem run inner τ v) ⊛ ‵ (flft κ₁ q₁))) (Takes-gives Z 𝓛 at_mem run κ₁ q₁ p inner n a τ v) $ await ! tt $ split ! $
        answers Z ! at_mem run inner τ v
        (λ b o e. lands_as ! e refl (Answer-typed true b o) $ returns ! (look_at ! 0 refl) $ free_all ! refl $ granted b o)
        (λ e. lands_as ! e refl (Answer-typed false 0 0) $ returns ! (look_at ! 0 refl) $ free_all ! refl $ refused)))))))))

pub allocate_spec : {M : Type 1} → stated.statement M
unfolding tables_of
allocate_spec 𝓤 𝓛 𝓜 𝓡 wired Y laws g d d' met _ =
    let Z : Al = record { row = Y; laws = laws; g = g; d = d; drops = d' } in
    let 𝓣 : Tables 𝓤 𝓛.H = tables_of 𝓤 𝓛.H 𝓜 (tables 𝓤 𝓛.H 𝓜 𝓡 𝓡.env) in
    let c = f.clauses Y g d d' 𝓛 𝓜.mem 𝓡.returns in
    let number = Goes-dropped 𝓛 2 (plain (λ _. usize)) yes (λ κs x w. refl) in
    let body = WpFn 𝓤 𝓛.H 𝓣.C 𝓣.Λ (here Z) in
    let counts = cited 𝓤 𝓛.H _ 𝓜 𝓡 𝓡.env is_refused_symbol.name (𝓡.env is_refused_symbol.name) refl (is_refused_met.met 𝓤 𝓛 𝓜 𝓡 (code.calls-refusing_allocator::is_refused 𝓡.env wired)) in
    entered 𝓤 𝓛.H (triple_of 𝓛 (f.signature Y) (f.spec Y g d d' 𝓛 𝓜.mem 𝓡.returns)) 𝓣.C 𝓣.Λ (key.name (type_arguments Z)) (here Z)
    (code.unfolded 𝓤 𝓛.H 𝓜 𝓡 wired (Y, tt) d d')
    (walk_Meets 𝓛 (ended Z) (stayed Z) (Goes-dropped 𝓛 2 (receiver Z) yes (λ κs x w. refl), (number, (number, tt))) c body (WpFn-mono 𝓤 𝓛.H 𝓛.laws 𝓣 (here Z))
    (walked 𝓛 (ended Z) (stayed Z) c body (λ κs. (shr_vals, (uint_vals w64, (uint_vals w64, tt))))
    (λ κs. ((λ r vs s. s.0), (uint_Tells w64, (uint_Tells w64, tt))))
    (λ κs qs bounds a τ are. walk Z 𝓛 𝓜.mem 𝓡.returns 𝓣 (met.allocate d') counts κs.0 κs.1.0 qs.0 qs.1.0 bounds.0 a.0 a.1.0 a.1.1.0 τ are.1.0.1 are.1.1.0.1)))
