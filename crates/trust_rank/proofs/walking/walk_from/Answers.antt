use Rattle.std.proofs.Common.{◌≡◌, ◌-◌, ◌+◌, ◌++◌, true, false, List, [], ◌∷◌, refl, sym, ap, ◌∙◌, subst, arith}
use Rattle.std.proofs.lemmas.Result.{IfOk-weaker}
use Rattle.trust_rank.specs.Values.{Piece, found, ends_no_data, ends_denied, lame}
use Rattle.trust_rank.specs.Walks.{met_of, met_set, met_no_data, met_name_error, met_lame, ending, most_aliases, walk_from}
use Rattle.trust_rank.proofs.WalkLaws.{GoesOn, ends_here, ends_before, ends_lame, goes_on, ends_long}
use Rattle.trust_rank.proofs.walking.walk_from.Goals as goal

pub returns-in-Nothing : goal.returns-in-Nothing
returns-in-Nothing g c =
    c.ending.ensures ∙ ends_before c.args.reply.now c.loop.pieces (most_aliases - c.loop.counter) (most_aliases - (c.loop.counter + 1)) c.loop.is_first c.loop.name (walk_from c.args.reply.now most_aliases true c.args.reply.now.question.name) c.loop.invariant (omega (arith, c.loop-test.true)) (sym (ap met_of c.in-Nothing.is) ∙ c.in_ok-met_at.ensures)

pub returns-in-Set : goal.returns-in-Set
returns-in-Set g c =
    IfOk-weaker c.ending_with.result (λ w. w ≡ ending (c.loop.pieces ++ c.in-Set.set ∷ []) found) (λ w. w ≡ (walk_from c.args.reply.now most_aliases true c.args.reply.now.question.name))
    (λ w e. e ∙ ends_here c.args.reply.now c.loop.pieces (c.in-Set.set ∷ []) (most_aliases - c.loop.counter) (most_aliases - (c.loop.counter + 1)) c.loop.is_first c.loop.name (met_set c.in-Set.set) found (walk_from c.args.reply.now most_aliases true c.args.reply.now.question.name) c.loop.invariant (omega (arith, c.loop-test.true)) (sym (ap met_of c.in-Set.is) ∙ c.in_ok-met_at.ensures) refl refl)
    c.ending_with.ensures

pub returns-in-NoData : goal.returns-in-NoData
returns-in-NoData g c =
    IfOk-weaker c.ending_with-in-NoData.result (λ w. w ≡ ending (c.loop.pieces ++ c.in-NoData.denial ∷ []) ends_no_data) (λ w. w ≡ (walk_from c.args.reply.now most_aliases true c.args.reply.now.question.name))
    (λ w e. e ∙ ends_here c.args.reply.now c.loop.pieces (c.in-NoData.denial ∷ []) (most_aliases - c.loop.counter) (most_aliases - (c.loop.counter + 1)) c.loop.is_first c.loop.name (met_no_data c.in-NoData.denial) ends_no_data (walk_from c.args.reply.now most_aliases true c.args.reply.now.question.name) c.loop.invariant (omega (arith, c.loop-test.true)) (sym (ap met_of c.in-NoData.is) ∙ c.in_ok-met_at.ensures) refl refl)
    c.ending_with-in-NoData.ensures

pub returns-in-NameError : goal.returns-in-NameError
returns-in-NameError g c =
    IfOk-weaker c.ending_with-in-NameError.result (λ w. w ≡ ending (c.loop.pieces ++ c.in-NameError.denial ∷ []) ends_denied) (λ w. w ≡ (walk_from c.args.reply.now most_aliases true c.args.reply.now.question.name))
    (λ w e. e ∙ ends_here c.args.reply.now c.loop.pieces (c.in-NameError.denial ∷ []) (most_aliases - c.loop.counter) (most_aliases - (c.loop.counter + 1)) c.loop.is_first c.loop.name (met_name_error c.in-NameError.denial) ends_denied (walk_from c.args.reply.now most_aliases true c.args.reply.now.question.name) c.loop.invariant (omega (arith, c.loop-test.true)) (sym (ap met_of c.in-NameError.is) ∙ c.in_ok-met_at.ensures) refl refl)
    c.ending_with-in-NameError.ensures

pub returns-in-Lame : goal.returns-in-Lame
returns-in-Lame g c =
    c.ending-in-Lame.ensures ∙ ap (λ (ps : List Piece). ending ps lame) c.new.ensures
    ∙ ends_lame c.args.reply.now c.loop.pieces (most_aliases - c.loop.counter) (most_aliases - (c.loop.counter + 1)) c.loop.is_first c.loop.name met_lame (walk_from c.args.reply.now most_aliases true c.args.reply.now.question.name) c.loop.invariant (omega (arith, c.loop-test.true)) (sym (ap met_of c.in-Lame.is) ∙ c.in_ok-met_at.ensures) refl

pub loop-preserved : goal.loop-preserved
loop-preserved g c =
    subst (λ (ps : List Piece). GoesOn c.args.reply.now ps (most_aliases - (c.loop.counter + 1)) false c.in-Alias.target (walk_from c.args.reply.now most_aliases true c.args.reply.now.question.name)) (sym c.in_ok-push-in-Alias.ensures.ok)
    (goes_on c.args.reply.now c.loop.pieces (most_aliases - c.loop.counter) (most_aliases - (c.loop.counter + 1)) c.loop.is_first c.loop.name c.in-Alias.target c.in-Alias.alias (walk_from c.args.reply.now most_aliases true c.args.reply.now.question.name) c.loop.invariant (omega (arith, c.loop-test.true)) (sym (ap met_of c.in-Alias.is) ∙ c.in_ok-met_at.ensures))

pub returns : goal.returns
returns g c = c.ending-2.ensures ∙ ends_long c.args.reply.now c.loop.pieces (most_aliases - c.loop.counter) c.loop.is_first c.loop.name (walk_from c.args.reply.now most_aliases true c.args.reply.now.question.name) c.loop.invariant (omega (arith, c.loop-test.false))
