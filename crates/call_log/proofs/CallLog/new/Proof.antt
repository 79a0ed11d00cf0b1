-- An empty list is chosen for the struct's ghost field. Assumes `Logic`.
use Rattle.std.proofs.Common.{[], ◌∷◌, refl}
use Rattle.std.proofs.raw_atomic.Walks.{proved}
use mir.Syntax.{Fn, Args, a_type}
use mir.Val.{vstruct, vcons, vnil}
use mir.MapTy.{inst_fn}
use base.Fml.{ftrue}
use types.Kit.{‵, raw, ◌⊛◌, ◌$◌, ◌∵◌, !, qed, move, keep, split, suffices, done}
use types.Part.{agg}
use types.Run.{enter, returns, and_then, no_more}
use types.ByLocal.{alloc_all, pass_all, free_all, look_at, get, sets}
use denote.RattleType.{RattleType}
use denote.Param.{layouts}
use denote.Shadow.{pure_i}
use denote.Steps.{nothing}
use denote.Triple.Entry.{alive}
use denote.Triple.Walked.{says, walk_of, ends_at}
use Rattle.call_log.specs.contracts.CallLog as log
use Rattle.call_log.specs.contracts.CallLog.new as f
use Rattle.call_log.specs.contracts.CallLog.new.Key as key
use Rattle.call_log.proofs.CallLog.new.Statement.{statement}
use Rattle.call_log.proofs.CallLog.new.Code as code

abbrev layout : RattleType → RattleType → Args
layout A B = layouts (a_type ∷ a_type ∷ []) (A, (B, tt))

pub new_spec : {M : Type 1} → statement M
new_spec 𝓤 𝓛 𝓜 𝓡 wired A B LA LB =
    let c = f.clauses A B 𝓛 𝓜.mem 𝓡.returns in
    let W = walk_of 𝓛 (f.ended A B) tt c in
    let function : Fn = inst_fn (layout A B) code.function in
    let made : (log.the_row A B).Denot = record { of = record {}; calls = [] } in
    let value = vstruct (vcons (vstruct vnil) vnil) in
    proved 𝓛 (f.ended A B) tt c 𝓜 𝓡 tt
    (key.name (layout A B)) function (code.unfolded 𝓤 𝓛.H 𝓜 𝓡 wired (A, (B, tt)))
    (λ κs. tt) (λ κs. tt) (λ κs qs bounds a g are.
    let y : W.Ghost = ((κs, qs, bounds, a, tt), g) in
    qed 𝓛 ((raw (alive 𝓛 (f.signature A B) κs qs) ⊛ ‵ ftrue) ∷ raw ((c κs a).requires g) ∷ []) ∵
    keep ! (0 ∷ []) $ split ! $ keep ! (0 ∷ []) $
    enter ! _ _ function [] _ $ alloc_all ! (λ l. pass_all ! refl tt $
    sets ! (agg ! (no_more !)) refl (tt, tt) $
    sets ! (agg ! (and_then ! (get ! refl) (no_more !))) refl (tt, (tt, tt)) $
    returns ! (look_at ! 0 refl) $ free_all ! refl $
    suffices ! _ (ends_at 𝓛 (f.ended A B) tt c y value made tt tt) $ says ! refl $
    pure_i ! ((log.the_row A B).own_val made (value ∷ []))
    ((λ values. (tt, ((λ none. (tt, tt)), tt))), tt)
    (((vstruct vnil ∷ [], tt), (refl, ((tt, (refl, tt)), tt))), tt) $
    nothing ! $ move ! (2 ∷ 0 ∷ 1 ∷ []) $ done !))
