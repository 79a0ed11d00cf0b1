-- The list before, with the pair after it, is chosen for the struct's ghost field. Assumes `Logic`.
use Rattle.std.proofs.Common.{[], ◌∷◌, ◌++◌, refl}
use Rattle.std.proofs.raw_atomic.Walks.{proved}
use mir.Syntax.{Fn, Args, a_type, named}
use mir.Val.{Val, vptr, vstruct, vcons, vnil}
use mir.MapTy.{inst_fn}
use types.Kit.{‵, raw, ◌⊛◌, ◌$◌, ◌∵◌, !, qed, move, keep, split, suffices, done}
use types.Part.{agg}
use types.Run.{enter, returns, and_then, no_more}
use types.ByLocal.{alloc_all, pass_all, free_all, look_at, get, sets}
use denote.Exit.{yes}
use denote.RattleType.{RattleType, owns}
use denote.Param.{param, layouts}
use denote.Ref.{shr_vals, shr_Tells}
use denote.Shadow.{pure_i}
use denote.Signature.{plain, types_at}
use denote.Triple.Entry.{alive}
use denote.Triple.Walked.{says, Stays, stay_none_ref, Goes-none_ref, walk_of, ends_at}
use Rattle.call_log.specs.contracts.CallLog as log
use Rattle.call_log.specs.contracts.CallLog.and as f
use Rattle.call_log.specs.contracts.CallLog.and.Key as key
use Rattle.call_log.proofs.CallLog.and.Statement.{statement}
use Rattle.call_log.proofs.CallLog.and.Code as code

abbrev layout : RattleType → RattleType → Args
layout A B = layouts (a_type ∷ a_type ∷ []) (A, (B, tt))

pub and_spec : {M : Type 1} → statement M
and_spec 𝓤 𝓛 𝓜 𝓡 wired A B LA LB =
    let before = plain (λ _. log.the_row (param 0 A) (param 1 B)) in
    let first = plain (λ _. param 0 A) in
    let second = plain (λ _. param 1 B) in
    let stayed : Stays (f.ended A B).signature.params (f.ended A B).kept =
    (stay_none_ref (0 ∷ []) tt before yes, (stay_none_ref (1 ∷ []) tt first yes, (stay_none_ref (2 ∷ []) tt second yes, tt))) in
    let c = f.clauses A B 𝓛 𝓜.mem 𝓡.returns in
    let W = walk_of 𝓛 (f.ended A B) stayed c in
    let function : Fn = inst_fn (layout A B) code.function in
    let value = vstruct (vcons (vstruct vnil) vnil) in
    proved 𝓛 (f.ended A B) stayed c 𝓜 𝓡
    (Goes-none_ref 𝓛 5 (0 ∷ []) tt before yes, (Goes-none_ref 𝓛 5 (1 ∷ []) tt first yes, (Goes-none_ref 𝓛 5 (2 ∷ []) tt second yes, tt)))
    (key.name (layout A B)) function (code.unfolded 𝓤 𝓛.H 𝓜 𝓡 wired (A, (B, tt)))
    (λ κs. (shr_vals, (shr_vals, (shr_vals, tt))))
    (λ κs. (shr_Tells (named 0) κs.0 (log.the_row (param 0 A) (param 1 B)), (shr_Tells (named 1) κs.1.0 (param 0 A), (shr_Tells (named 2) κs.1.1.0 (param 1 B), tt))))
    (λ κs qs bounds a g are.
    let made : (log.the_row A B).Denot = record { of = record {}; calls = a.0.now.calls ++ (a.1.0.now, a.1.1.0.now) ∷ [] } in
    let at : Val = vptr a.0.ref_ptr.0 a.0.ref_ptr.1 in
    let at' : Val = vptr a.1.0.ref_ptr.0 a.1.0.ref_ptr.1 in
    let at'' : Val = vptr a.1.1.0.ref_ptr.0 a.1.1.0.ref_ptr.1 in
    let y : W.Ghost = ((κs, qs, bounds, a, (at ∷ [], (at' ∷ [], (at'' ∷ [], tt)))), g) in
    qed 𝓛 ((raw (alive 𝓛 (f.signature A B) κs qs) ⊛ ‵ (owns (types_at (f.signature A B).params κs) a y.0.4)) ∷ raw ((c κs a).requires g) ∷ []) ∵
    keep ! (0 ∷ []) $ split ! $
    enter ! _ _ function (at ∷ at' ∷ at'' ∷ []) _ $ alloc_all ! (λ l. pass_all ! refl ((tt, tt), ((tt, tt), ((tt, tt), tt))) $
    sets ! (agg ! (no_more !)) refl (tt, tt) $
    sets ! (agg ! (and_then ! (get ! refl) (no_more !))) refl (tt, (tt, tt)) $
    returns ! (look_at ! 0 refl) $ free_all ! refl $
    suffices ! _ (ends_at 𝓛 (f.ended A B) stayed c y value made (tt, (tt, (tt, tt))) (tt, (tt, (tt, tt)))) $ says ! refl $
    pure_i ! ((log.the_row A B).own_val made (value ∷ []))
    ((λ values. (tt, ((λ none. (tt, tt)), tt))), tt)
    (((vstruct vnil ∷ [], tt), (refl, ((tt, (refl, tt)), tt))), tt) $
    move ! (1 ∷ 2 ∷ 0 ∷ []) $ done !))
