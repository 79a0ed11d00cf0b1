use Rattle.std.proofs.Common.{ℕ, List, [], ◌∷◌, ◌++◌, length, sym, ap, ◌∙◌, subst, arith, rules}
use Rattle.std.proofs.lemmas.Result.{on_ok_weaker}
use Rattle.trust_rank.specs.Gathering.{Indexes}
use Rattle.trust_rank.proofs.Gathering.{at, known_by_index, new_behind, few_are_indexed, more_are_indexed, not_among, was_there, was_missing}
use Rattle.trust_rank.proofs.sets.Gathered.put_new.Goals as goal

pub returns-then-as_slice-lt-FEW-clause-index : goal.returns-then-as_slice-lt-FEW-clause-index
returns-then-as_slice-lt-FEW-clause-index g c =
    on_ok_weaker c.push_copy.result
    (λ e. subst (Indexes c.args.self.now.index) (sym e) (few_are_indexed c.args.self.now.index c.args.self.now.rows c.args.row.now (omega (arith, c.if-as_slice-lt-FEW.true, ap length c.as_slice-2.ensures)) c.requires))
    c.push_copy.ensures

pub returns-then-not-added-clause-rows : goal.returns-then-not-added-clause-rows
returns-then-not-added-clause-rows g c =
    known_by_index c.args.self.now.index c.args.self.now.rows c.args.row.now c.requires
    (ap (λ (o : List ℕ). at o c.args.self.now.index) (sym c.octets-octets.ensures)
    ∙ was_there c.in_ok-added.added (at c.octets-octets.result.now c.args.self.now.index) c.in_ok-added.ensures.added c.if-not-added.true)

pub returns-clause-rows : goal.returns-clause-rows
returns-clause-rows g c =
    on_ok_weaker c.push_copy-2.result
    (λ e. e ∙ new_behind c.args.self.now.index c.args.self.now.rows c.args.row.now c.requires
    (not_among c.octets-octets.result.now c.args.row.now c.first_few.result.now c.as_slice.result.now c.args.self.now.rows c.is_among.result c.octets-octets.ensures c.first_few.ensures c.as_slice.ensures c.is_among.ensures c.if-is_among.false)
    (ap (λ (o : List ℕ). at o c.args.self.now.index) (sym c.octets-octets.ensures)
    ∙ was_missing c.in_ok-added.added (at c.octets-octets.result.now c.args.self.now.index) c.in_ok-added.ensures.added c.if-not-added.false))
    c.push_copy-2.ensures

pub returns-clause-index : goal.returns-clause-index
returns-clause-index g c =
    on_ok_weaker c.push_copy-2.result
    (λ e. subst (Indexes c.insert.new.self) (sym (e ∙ ap (λ (o : List ℕ). c.args.self.now.rows ++ o ∷ []) (sym c.octets-octets.ensures)))
    (more_are_indexed c.args.self.now.index c.insert.new.self c.args.self.now.rows c.octets-octets.result (omega (arith, c.if-as_slice-lt-FEW.false, ap length c.as_slice-2.ensures)) c.requires c.in_ok-added.ensures.updates))
    c.push_copy-2.ensures

pub returns-then-as_slice-lt-FEW-clause-rows : goal.returns-then-as_slice-lt-FEW-clause-rows
returns-then-as_slice-lt-FEW-clause-rows g c = search rules
