-- An empty list is chosen for the struct's ghost field. Assumes `Logic`.
use Rattle.std.proofs.Common.{[], ◌∷◌, refl}
use Rattle.std.proofs.raw_atomic.Walks.{proved}
use mir.Syntax.{Fn}
use mir.Val.{vstruct, vnil}
use base.Fml.{ftrue}
use types.Kit.{‵, raw, ◌⊛◌, ◌$◌, ◌∵◌, !, qed, move, keep, split, suffices, done}
use types.Part.{agg}
use types.Run.{enter, returns, no_more}
use types.ByLocal.{alloc_all, pass_all, free_all, look_at, sets}
use denote.Shadow.{pure_i}
use denote.Steps.{nothing}
use denote.Triple.Entry.{alive}
use denote.Triple.Walked.{says, walk_of, ends_at}
use Rattle.system_calls.specs.contracts.noted.Noted as noted
use Rattle.system_calls.specs.contracts.noted.Noted.new as f
use Rattle.system_calls.specs.contracts.noted.Noted.new.Key as key
use Rattle.system_calls.proofs.noted.Noted.new.Statement.{statement}
use Rattle.system_calls.proofs.noted.Noted.new.Code as code

pub new_spec : {M : Type 1} → statement M
new_spec 𝓤 𝓛 𝓜 𝓡 wired =
    let c = f.clauses 𝓛 𝓜.mem 𝓡.returns in
    let W = walk_of 𝓛 f.ended tt c in
    let function : Fn = code.function in
    let made : noted.the_row.Denot = record { calls = [] } in
    proved 𝓛 f.ended tt c 𝓜 𝓡 tt
    key.name function (code.unfolded 𝓤 𝓛.H 𝓜 𝓡 wired)
    (λ κs. tt) (λ κs. tt) (λ κs qs bounds a g are.
    let y : W.Ghost = ((κs, qs, bounds, a, tt), g) in
    qed 𝓛 ((raw (alive 𝓛 f.signature κs qs) ⊛ ‵ ftrue) ∷ raw ((c κs a).requires g) ∷ []) ∵
    keep ! (0 ∷ []) $ split ! $ keep ! (0 ∷ []) $
    enter ! _ _ function [] _ $ alloc_all ! (λ l. pass_all ! refl tt $
    sets ! (agg ! (no_more !)) refl (tt, tt) $
    returns ! (look_at ! 0 refl) $ free_all ! refl $
    suffices ! _ (ends_at 𝓛 f.ended tt c y (vstruct vnil) made tt tt) $ says ! refl $
    pure_i ! (noted.the_row.own_val made (vstruct vnil ∷ []))
    ((λ values. (tt, tt)), tt) ((tt, (refl, tt)), tt) $
    nothing ! $ move ! (2 ∷ 0 ∷ 1 ∷ []) $ done !))
