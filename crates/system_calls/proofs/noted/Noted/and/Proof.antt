-- The list before, with the call after it, is chosen for the struct's ghost field. Assumes `Logic`.
use Rattle.std.proofs.Common.{[], ◌∷◌, ◌++◌, refl}
use Rattle.std.proofs.raw_atomic.Walks.{proved}
use mir.Syntax.{Fn, named}
use mir.Val.{Val, vptr, vstruct, vnil}
use types.Kit.{‵, raw, ◌⊛◌, ◌$◌, ◌∵◌, !, qed, move, keep, split, suffices, done}
use types.Part.{agg}
use types.Run.{enter, returns, no_more}
use types.ByLocal.{alloc_all, pass_all, free_all, look_at, sets}
use denote.Exit.{yes}
use denote.RattleType.{owns}
use denote.Ref.{shr_vals, shr_Tells}
use denote.Shadow.{pure_i}
use denote.Signature.{plain, types_at, named_lft}
use denote.Triple.Entry.{alive}
use denote.Triple.Walked.{says, Stays, stay_none_ref, Goes-none_ref, walk_of, ends_at}
use Rattle.system_calls.specs.Notes.{call_of}
use Rattle.system_calls.specs.contracts.noted.Noted as noted
use Rattle.system_calls.specs.contracts.noted.Note as note
use Rattle.system_calls.specs.contracts.noted.Noted.and as f
use Rattle.system_calls.specs.contracts.noted.Noted.and.Key as key
use Rattle.system_calls.proofs.noted.Noted.and.Statement.{statement}
use Rattle.system_calls.proofs.noted.Noted.and.Code as code

pub and_spec : {M : Type 1} → statement M
and_spec 𝓤 𝓛 𝓜 𝓡 wired =
    let before = plain (λ _. noted.the_row) in
    let call = plain (λ κs. note.the_row (named_lft 3 2 tt κs)) in
    let stayed : Stays f.ended.signature.params f.ended.kept =
    (stay_none_ref (0 ∷ []) tt before yes, (stay_none_ref (1 ∷ []) tt call yes, tt)) in
    let c = f.clauses 𝓛 𝓜.mem 𝓡.returns in
    let W = walk_of 𝓛 f.ended stayed c in
    let function : Fn = code.function in
    proved 𝓛 f.ended stayed c 𝓜 𝓡
    (Goes-none_ref 𝓛 3 (0 ∷ []) tt before yes, (Goes-none_ref 𝓛 3 (1 ∷ []) tt call yes, tt))
    key.name function (code.unfolded 𝓤 𝓛.H 𝓜 𝓡 wired)
    (λ κs. (shr_vals, (shr_vals, tt)))
    (λ κs. (shr_Tells (named 0) κs.0 noted.the_row, (shr_Tells (named 1) κs.1.0 (note.the_row (named_lft 3 2 tt κs)), tt)))
    (λ κs qs bounds a g are.
    let made : noted.the_row.Denot = record { calls = a.0.now.calls ++ call_of a.1.0.now ∷ [] } in
    let at : Val = vptr a.0.ref_ptr.0 a.0.ref_ptr.1 in
    let at' : Val = vptr a.1.0.ref_ptr.0 a.1.0.ref_ptr.1 in
    let y : W.Ghost = ((κs, qs, bounds, a, (at ∷ [], (at' ∷ [], tt))), g) in
    qed 𝓛 ((raw (alive 𝓛 f.signature κs qs) ⊛ ‵ (owns (types_at f.signature.params κs) a y.0.4)) ∷ raw ((c κs a).requires g) ∷ []) ∵
    keep ! (0 ∷ []) $ split ! $
    enter ! _ _ function (at ∷ at' ∷ []) _ $ alloc_all ! (λ l. pass_all ! refl ((tt, tt), ((tt, tt), tt)) $
    sets ! (agg ! (no_more !)) refl (tt, tt) $
    returns ! (look_at ! 0 refl) $ free_all ! refl $
    suffices ! _ (ends_at 𝓛 f.ended stayed c y (vstruct vnil) made (tt, (tt, tt)) (tt, (tt, tt))) $ says ! refl $
    pure_i ! (noted.the_row.own_val made (vstruct vnil ∷ []))
    ((λ values. (tt, tt)), tt) ((tt, (refl, tt)), tt) $
    move ! (1 ∷ 2 ∷ 0 ∷ []) $ done !))
