use Rattle.std.proofs.Common.{refl, sym, ap, ◌∙◌}
use Rattle.lru.specs.LruCache.{lru_cache}
use Rattle.lru.specs.LruCache.{promoted as used}
use Rattle.record_cache.proofs.Stored.{eq, used_again, used_by_key, used_list, used_stored}
use Rattle.record_cache.proofs.cache.Cache.promote_found.Goals as goal

pub invariant_of-self : goal.invariant_of-self
invariant_of-self g c =
    let m = c.self.inside.entries in
    let k = c.slot.inside.hashed in
    let mid = c.promote.new.self in
    let again = used_again m c.self.inside.tables c.self.invariant k k.slot mid c.promote-then-not-promote.new.self (sym c.promote.ensures.value ∙ c.if-not-promote.true) c.promote.ensures.entries
    (c.promote-then-not-promote.ensures.entries ∙ ap (λ t. lru_cache (used (eq t) mid.entries) mid.cap) c.hashed_by-own.ensures) in
    rw again (used_stored m c.self.inside.tables c.self.invariant k.slot)

pub invariant_of-self-else-not-promote : goal.invariant_of-self-else-not-promote
invariant_of-self-else-not-promote g c =
    let m = c.self.inside.entries in
    let k = c.slot.inside.hashed in
    rw (c.promote.ensures.entries, used_by_key m c.self.inside.tables c.self.invariant k (sym c.promote.ensures.value ∙ c.if-not-promote.false))
    (used_stored m c.self.inside.tables c.self.invariant k.slot)

pub returns-then-not-promote : goal.returns-then-not-promote
returns-then-not-promote g c =
    let m = c.self.inside.entries in
    let k = c.slot.inside.hashed in
    let mid = c.promote.new.self in
    let again = used_again m c.self.inside.tables c.self.invariant k k.slot mid c.promote-then-not-promote.new.self (sym c.promote.ensures.value ∙ c.if-not-promote.true) c.promote.ensures.entries
    (c.promote-then-not-promote.ensures.entries ∙ ap (λ t. lru_cache (used (eq t) mid.entries) mid.cap) c.hashed_by-own.ensures) in
    rw (again, ← c.self.view_is, ← c.slot.view_is, used_list m c.self.inside.tables c.self.invariant k.slot) refl

pub returns-else-not-promote : goal.returns-else-not-promote
returns-else-not-promote g c =
    let m = c.self.inside.entries in
    let k = c.slot.inside.hashed in
    rw (
      c.promote.ensures.entries,
      used_by_key m c.self.inside.tables c.self.invariant k (sym c.promote.ensures.value ∙ c.if-not-promote.false),
      ← c.self.view_is,
      ← c.slot.view_is,
      used_list m c.self.inside.tables c.self.invariant k.slot,
    ) refl
