use Rattle.std.proofs.Common.{◌∙◌, ◌-◌, ◌<◌, ◌≤◌, ◌∷◌, [], length, inl, inr, sym, ap, arith, Bor}
use Rattle.std.proofs.lemmas.List.{length-map}
use Rattle.std.proofs.lemmas.Result.{IfOk-weaker}
use Rattle.plain_values.specs.Borrowed.{lent}
use Rattle.trust_rank.specs.declared.slot.Slot.{Slot}
use Rattle.trust_rank.specs.Walks.{most_aliases}
use Rattle.negative_cache.specs.RecordCache.Values.{Held}
use Rattle.negative_cache.specs.Values.{found_of, local, rows, alias, no_data, denied, miss}
use Rattle.alias_chains.specs.Looked.{looked_so, pieces_in, look_up_from, with_used}
use Rattle.alias_chains.specs.declared.looked.LookUpEnd.TheVariants.{Ends, Missed}
use Rattle.alias_chains.proofs.Following.{goes_from, goes_too_long, rows_from, no_data_from, denied_from, miss_from, local_from, hit_is, miss_is}
use Rattle.alias_chains.proofs.looking.look_up.Goals.{in-Rows, in-Rows-2, in-Rows-3}
use Rattle.alias_chains.proofs.looking.look_up.Goals as goal

pub returns-in-Alias-clause-exact : goal.returns-in-Alias-clause-exact
returns-in-Alias-clause-exact g c =
    let at = c.args.at.now in
    let q = c.args.question.now in
    let held = lent c.args.held.items in
    let same = length-map c.args.held.items (λ (r : Bor Held). r.now) in
    let count = c.len.ensures in
    let test = c.if-len-gt-MOST_ALIASES.false in
    let few : length held ≤ most_aliases = omega (arith, same, count, test) in
    IfOk-weaker c.follow.result _ _ (λ l e.
    e
    ∙ (λ i. with_used (c.new.ensures.used i) (look_up_from at.config.routes at.moment at.cache.entries
    (most_aliases - length (lent (c.new.ensures.held i).items)) (lent (c.new.ensures.held i).items) (c.new.ensures.wanted i)
    (alias c.in-Alias.alias.now)))
    ∙ sym (goes_from at.config.routes at.moment at.cache.entries held q (alias c.in-Alias.alias.now) c.in-Alias.ensures.found few))
    c.follow.ensures

pub returns-in-Local-clause-exact : goal.returns-in-Local-clause-exact
returns-in-Local-clause-exact g c =
    let at = c.args.at.now in
    let q = c.args.question.now in
    let held = lent c.args.held.items in
    let same = length-map c.args.held.items (λ (r : Bor Held). r.now) in
    let count = c.len.ensures in
    let test = c.if-len-gt-MOST_ALIASES.false in
    let few : length held ≤ most_aliases = omega (arith, same, count, test) in
    (λ i. looked_so Missed held (c.reborrow.ensures i) c.none.result)
    ∙ elim c.in-Local.is [
      | inl is ↦ miss_is at.config.routes at.moment at.cache.entries held q local c.none.result
          (λ more. local_from at.config.routes at.moment at.cache.entries more held q)
          (sym (ap found_of is) ∙ c.find.ensures.found) few c.none.ensures
      | inr is ↦ miss_is at.config.routes at.moment at.cache.entries held q miss c.none.result
          (λ more. miss_from at.config.routes at.moment at.cache.entries more held q)
          (sym (ap found_of is) ∙ c.find.ensures.found) few c.none.ensures
    ]

pub returns-in_ok-ended-in-Rows-clause-exact : goal.returns-in_ok-ended-in-Rows-clause-exact
returns-in_ok-ended-in-Rows-clause-exact g c =
    let at = c.args.at.now in
    let q = c.args.question.now in
    let held = lent c.args.held.items in
    let same = length-map c.args.held.items (λ (r : Bor Held). r.now) in
    let count = c.len.ensures in
    let test = c.if-len-gt-MOST_ALIASES.false in
    let few : length held ≤ most_aliases = omega (arith, same, count, test) in
    (λ i. looked_so Ends (pieces_in c.in_ok-ended-in-Rows.field-0) (c.reborrow-in-Rows.ensures i) c.one.result)
    ∙ elim c.in-Rows-1.branch [
      | in-Rows w ↦ hit_is at.config.routes at.moment at.cache.entries held (pieces_in c.in_ok-ended-in-Rows.field-0) q
          (rows w.in-Rows.end.now) w.in-Rows.end.now c.one.result
          (λ more. rows_from at.config.routes at.moment at.cache.entries more held q w.in-Rows.end.now) w.in-Rows.ensures.found few
          (rw w.end-is at c.in_ok-ended-in-Rows.ensures.pieces) (c.one.ensures ∙ ap (λ (s : Slot). s ∷ []) w.in-Rows.ensures.slot)
      | in-Rows-2 w ↦ hit_is at.config.routes at.moment at.cache.entries held (pieces_in c.in_ok-ended-in-Rows.field-0) q
          (no_data w.in-Rows.end.now) w.in-Rows.end.now c.one.result
          (λ more. no_data_from at.config.routes at.moment at.cache.entries more held q w.in-Rows.end.now) w.in-Rows.ensures.found few
          (rw w.end-is at c.in_ok-ended-in-Rows.ensures.pieces) (c.one.ensures ∙ ap (λ (s : Slot). s ∷ []) w.in-Rows.ensures.slot)
      | in-Rows-3 w ↦ hit_is at.config.routes at.moment at.cache.entries held (pieces_in c.in_ok-ended-in-Rows.field-0) q
          (denied w.in-Rows.end.now) w.in-Rows.end.now c.one.result
          (λ more. denied_from at.config.routes at.moment at.cache.entries more held q w.in-Rows.end.now) w.in-Rows.ensures.found few
          (rw w.end-is at c.in_ok-ended-in-Rows.ensures.pieces) (c.one.ensures ∙ ap (λ (s : Slot). s ∷ []) w.in-Rows.ensures.slot)
    ]
