use Rattle.std.proofs.Common.{◌≡◌, Bool, true, false, ◌||◌, nat_lt, refl, ap, sym, ◌∙◌}
use Rattle.std.specs.Map.{values_of}
use Rattle.record_cache.specs.Values.{Cache}
use Rattle.record_cache.specs.Entries.{name_error_ending, has_number, may_deny_at}
use Rattle.record_cache.proofs.Counting.{some_number}
use Rattle.record_cache.proofs.cache.Cache.may_deny.Goals as goal

the_first : (a b : Bool) → a ≡ true → a ≡ (a || b)
the_first true b is = refl
the_first false b is = cc

the_second : (a b : Bool) → a ≡ false → b ≡ (a || b)
the_second true b is = cc
the_second false b is = refl

pub returns-then-has-clause-says : goal.returns-then-has-clause-says
returns-then-has-clause-says g c =
    let es = values_of c.self.inside.entries.entries in
    let n = c.args.ending in
    let first : c.has.result ≡ has_number name_error_ending 0 es = c.has.ensures ∙ ap (nat_lt 0) (c.self.invariant.endings 0) ∙ some_number name_error_ending 0 es in
    first ∙ the_first (has_number name_error_ending 0 es) (has_number name_error_ending n es) (sym first ∙ c.if-has.true)
    ∙ ap (λ (cache : Cache). may_deny_at n cache.entries) c.self.view_is

pub returns-else-has-clause-says : goal.returns-else-has-clause-says
returns-else-has-clause-says g c =
    let es = values_of c.self.inside.entries.entries in
    let n = c.args.ending in
    let first : c.has.result ≡ has_number name_error_ending 0 es = c.has.ensures ∙ ap (nat_lt 0) (c.self.invariant.endings 0) ∙ some_number name_error_ending 0 es in
    c.has-else-has.ensures ∙ ap (nat_lt 0) (c.self.invariant.endings n) ∙ some_number name_error_ending n es
    ∙ the_second (has_number name_error_ending 0 es) (has_number name_error_ending n es) (sym first ∙ c.if-has.false)
    ∙ ap (λ (cache : Cache). may_deny_at n cache.entries) c.self.view_is
