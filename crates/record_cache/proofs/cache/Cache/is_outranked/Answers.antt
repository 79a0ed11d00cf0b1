use Rattle.std.proofs.Common.{Some, None, ap, sym, ◌∙◌}
use Rattle.std.specs.Map.{lookup}
use Rattle.record_cache.specs.Values.{Cache}
use Rattle.record_cache.specs.Offers.{is_outranked}
use Rattle.record_cache.specs.Storing.{hash_of}
use Rattle.record_cache.proofs.Stored.{eq, key_of, outranked}
use Rattle.record_cache.proofs.cache.Cache.is_outranked.Goals as goal

pub returns-in-Some : goal.returns-in-Some
returns-in-Some g c = c.outranks.ensures
    ∙ outranked c.self.inside.entries c.self.inside.tables c.self.invariant c.args.held.now (Some c.in-Some.other.now)
    (c.in-Some.ensures ∙ ap (λ k. lookup (eq k) c.self.inside.entries.entries) (key_of (hash_of g.H.BuildHasher g.H.Hasher.Hasher c.self.inside.hasher) c.hashed_by-key.result c.slot.result c.args.held.now.piece.slot c.hashed_by-key.ensures c.slot.ensures.slot)) (sym c.is_name_error.ensures ∙ c.if-is_name_error.false)
    ∙ ap (λ (cache : Cache). is_outranked c.args.held.now.accepted c.args.held.now.piece cache.entries) c.self.view_is

pub returns-in-None : goal.returns-in-None
returns-in-None g c =
    outranked c.self.inside.entries c.self.inside.tables c.self.invariant c.args.held.now None
    (c.in-None.ensures ∙ ap (λ k. lookup (eq k) c.self.inside.entries.entries) (key_of (hash_of g.H.BuildHasher g.H.Hasher.Hasher c.self.inside.hasher) c.hashed_by-key.result c.slot.result c.args.held.now.piece.slot c.hashed_by-key.ensures c.slot.ensures.slot)) (sym c.is_name_error.ensures ∙ c.if-is_name_error.false)
    ∙ ap (λ (cache : Cache). is_outranked c.args.held.now.accepted c.args.held.now.piece cache.entries) c.self.view_is
