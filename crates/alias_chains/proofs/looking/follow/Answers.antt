use Rattle.std.proofs.Common.{◌∙◌, ◌<◌, ◌≤◌, length, inl, inr, sym, ap, arith, Bor}
use Rattle.std.proofs.lemmas.List.{length-map}
use Rattle.std.proofs.lemmas.Result.{IfOk-weaker}
use Rattle.dns_name.specs.Labels.{labels_of}
use Rattle.plain_values.specs.Borrowed.{lent}
use Rattle.trust_rank.specs.Walks.{most_aliases}
use Rattle.negative_cache.specs.RecordCache.Values.{Held}
use Rattle.negative_cache.specs.Values.{found_of, local, rows, alias, no_data, denied, miss}
use Rattle.alias_chains.proofs.Following.{on_way, on_alias, at_no_target, at_ninth, at_miss, at_local, at_rows, at_no_data, at_denied}
use Rattle.alias_chains.proofs.looking.follow.Goals.{in-Rows, in-Rows-2, in-Rows-3}
use Rattle.alias_chains.proofs.looking.follow.Goals as goal

pub loop-target-init : goal.loop-target-init
loop-target-init g c =
    let at = c.args.at.now in
    on_way at.config.routes at.moment at.cache.entries (lent c.args.trail.held.items) c.args.trail.used.items c.args.trail.wanted _ c.requires

pub returns-in_default : goal.returns-in_default
returns-in_default g c =
    let at = c.args.at.now in
    let t = c.loop-target.trail in
    c.stopped.ensures
    ∙ at_no_target at.config.routes at.moment at.cache.entries (lent t.held.items) t.used.items t.wanted _ c.loop-target.alias.now c.loop-target.invariant
    c.in_default.ensures

pub returns-then-len-gt-MOST_ALIASES : goal.returns-then-len-gt-MOST_ALIASES
returns-then-len-gt-MOST_ALIASES g c =
    let at = c.args.at.now in
    let t = c.loop-target.trail in
    let then = c.take.new.self in
    let same = length-map then.held.items (λ (r : Bor Held). r.now) in
    let count = c.len.ensures in
    let test = c.if-len-gt-MOST_ALIASES.true in
    let many : most_aliases < length (lent then.held.items) = omega (arith, same, count, test) in
    c.stopped-then-len-gt-MOST_ALIASES.ensures
    ∙ at_ninth at.config.routes at.moment at.cache.entries (lent t.held.items) t.used.items t.wanted _ c.loop-target.alias.now
    (labels_of c.in-Some.target.now) (lent then.held.items) then.used.items then.wanted c.loop-target.invariant c.in-Some.ensures.1
    c.in_ok-take.ensures.held c.in_ok-take.ensures.used c.in_ok-take.ensures.wanted many

pub loop-target-preserved : goal.loop-target-preserved
loop-target-preserved g c =
    let at = c.args.at.now in
    let t = c.loop-target.trail in
    let then = c.take.new.self in
    let same = length-map then.held.items (λ (r : Bor Held). r.now) in
    let count = c.len.ensures in
    let test = c.if-len-gt-MOST_ALIASES.false in
    let few : length (lent then.held.items) ≤ most_aliases = omega (arith, same, count, test) in
    on_alias at.config.routes at.moment at.cache.entries (lent t.held.items) t.used.items t.wanted _ c.loop-target.alias.now
    (labels_of c.in-Some.target.now) (lent then.held.items) then.used.items then.wanted c.loop-target.invariant c.in-Some.ensures.1
    c.in_ok-take.ensures.held c.in_ok-take.ensures.used c.in_ok-take.ensures.wanted (alias c.in-Alias.next.now) c.in-Alias.ensures.found few

pub returns-in-Local : goal.returns-in-Local
returns-in-Local g c =
    let at = c.args.at.now in
    let t = c.loop-target.trail in
    let then = c.take.new.self in
    let same = length-map then.held.items (λ (r : Bor Held). r.now) in
    let count = c.len.ensures in
    let test = c.if-len-gt-MOST_ALIASES.false in
    let few : length (lent then.held.items) ≤ most_aliases = omega (arith, same, count, test) in
    c.stopped-in-Local.ensures
    ∙ elim c.in-Local.is [
      | inl is ↦ at_local at.config.routes at.moment at.cache.entries (lent then.held.items) then.used.items then.wanted _
          (on_alias at.config.routes at.moment at.cache.entries (lent t.held.items) t.used.items t.wanted _ c.loop-target.alias.now
          (labels_of c.in-Some.target.now) (lent then.held.items) then.used.items then.wanted c.loop-target.invariant c.in-Some.ensures.1
          c.in_ok-take.ensures.held c.in_ok-take.ensures.used c.in_ok-take.ensures.wanted local (sym (ap found_of is) ∙ c.find.ensures.found) few)
      | inr is ↦ at_miss at.config.routes at.moment at.cache.entries (lent then.held.items) then.used.items then.wanted _
          (on_alias at.config.routes at.moment at.cache.entries (lent t.held.items) t.used.items t.wanted _ c.loop-target.alias.now
          (labels_of c.in-Some.target.now) (lent then.held.items) then.used.items then.wanted c.loop-target.invariant c.in-Some.ensures.1
          c.in_ok-take.ensures.held c.in_ok-take.ensures.used c.in_ok-take.ensures.wanted miss (sym (ap found_of is) ∙ c.find.ensures.found) few)
    ]

pub returns-in-Rows : goal.returns-in-Rows
returns-in-Rows g c =
    let at = c.args.at.now in
    let t = c.loop-target.trail in
    let then = c.take.new.self in
    let same = length-map then.held.items (λ (r : Bor Held). r.now) in
    let count = c.len.ensures in
    let test = c.if-len-gt-MOST_ALIASES.false in
    let few : length (lent then.held.items) ≤ most_aliases = omega (arith, same, count, test) in
    elim c.in-Rows-1.branch [
      | in-Rows w ↦ IfOk-weaker c.ended.result _ _ (λ l e. e ∙ at_rows at.config.routes at.moment at.cache.entries (lent then.held.items) then.used.items then.wanted _ w.in-Rows.end.now
          (on_alias at.config.routes at.moment at.cache.entries (lent t.held.items) t.used.items t.wanted _ c.loop-target.alias.now
          (labels_of c.in-Some.target.now) (lent then.held.items) then.used.items then.wanted c.loop-target.invariant c.in-Some.ensures.1
          c.in_ok-take.ensures.held c.in_ok-take.ensures.used c.in_ok-take.ensures.wanted (rows w.in-Rows.end.now) w.in-Rows.ensures.found few))
          (rw w.end-is at c.ended.ensures)
      | in-Rows-2 w ↦ IfOk-weaker c.ended.result _ _ (λ l e. e ∙ at_no_data at.config.routes at.moment at.cache.entries (lent then.held.items) then.used.items then.wanted _ w.in-Rows.end.now
          (on_alias at.config.routes at.moment at.cache.entries (lent t.held.items) t.used.items t.wanted _ c.loop-target.alias.now
          (labels_of c.in-Some.target.now) (lent then.held.items) then.used.items then.wanted c.loop-target.invariant c.in-Some.ensures.1
          c.in_ok-take.ensures.held c.in_ok-take.ensures.used c.in_ok-take.ensures.wanted (no_data w.in-Rows.end.now) w.in-Rows.ensures.found few))
          (rw w.end-is at c.ended.ensures)
      | in-Rows-3 w ↦ IfOk-weaker c.ended.result _ _ (λ l e. e ∙ at_denied at.config.routes at.moment at.cache.entries (lent then.held.items) then.used.items then.wanted _ w.in-Rows.end.now
          (on_alias at.config.routes at.moment at.cache.entries (lent t.held.items) t.used.items t.wanted _ c.loop-target.alias.now
          (labels_of c.in-Some.target.now) (lent then.held.items) then.used.items then.wanted c.loop-target.invariant c.in-Some.ensures.1
          c.in_ok-take.ensures.held c.in_ok-take.ensures.used c.in_ok-take.ensures.wanted (denied w.in-Rows.end.now) w.in-Rows.ensures.found few))
          (rw w.end-is at c.ended.ensures)
    ]
