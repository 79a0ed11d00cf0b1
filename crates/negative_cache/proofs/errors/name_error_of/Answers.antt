use Rattle.std.proofs.Common.{◌≡◌, ℕ, length, false, sym, ap, subst, ◌∙◌}
use Rattle.dns_name.specs.Labels.{labels_of, lowered, octets_of}
use Rattle.dns_name.proofs.CallerLemmas.{lowered_is_same}
use Rattle.record_cache.specs.Entries.{has_name_error}
use Rattle.record_cache.proofs.CallerLemmas.{size_same}
use Rattle.negative_cache.specs.BySlot.{living_entry, slots_of}
use Rattle.negative_cache.proofs.Sizes.{no_name_error}
use Rattle.negative_cache.proofs.errors.name_error_of.Goals as goal

pub returns-then-not-has_name_error-clause-found : goal.returns-then-not-has_name_error-clause-found
returns-then-not-has_name_error-clause-found g c =
    let name = labels_of c.args.octets.now in
    let key = lowered name in
    let size : length c.args.octets.now ≡ length (octets_of key) = sym (size_same key name (lowered_is_same name) ∙ ap length c.requires.whole) in
    rw (← c.at.view_is) (sym (no_name_error c.at.inside.moment c.args.class key c.at.inside.cache.now.entries
    (subst (λ (n : ℕ). has_name_error n c.at.inside.cache.now.entries ≡ false) size (sym c.has_name_error.ensures.says ∙ c.if-not-has_name_error.true))))

pub returns-clause-found : goal.returns-clause-found
returns-clause-found g c =
    c.living_entry.ensures.found
    ∙ ap (living_entry c.args.at.now.moment (slots_of c.args.at.now.cache.entries)) c.set.ensures
