use Rattle.std.proofs.Common.{◌≡◌, ℕ, List, length, false, sym, ap, subst, ◌∙◌, rules}
use Rattle.dns_name.proofs.CallerLemmas.{lowered_is_same}
use Rattle.dns_name.specs.Labels.{labels_of, lowered, octets_of}
use Rattle.record_cache.specs.Values.{Held, Cache}
use Rattle.record_cache.specs.Entries.{has_name_error}
use Rattle.record_cache.proofs.CallerLemmas.{nothing_to_forget, size_same}
use Rattle.negative_cache.proofs.Denying.{error_slot}
use Rattle.negative_cache.proofs.Sizes.{no_error_entry}
use Rattle.negative_cache.proofs.showing.forget_name_error.Goals as goal

pub returns-then-not-has_name_error-clause-forgotten : goal.returns-then-not-has_name_error-clause-forgotten
returns-then-not-has_name_error-clause-forgotten g c =
    let entries = c.args.cache.now.entries in
    let name = labels_of c.args.octets.now in
    let key = lowered name in
    let size : length c.args.octets.now ≡ length (octets_of key) = sym (size_same key name (lowered_is_same name) ∙ ap length c.requires.whole) in
    let none = subst (λ (n : ℕ). has_name_error n entries ≡ false) size (sym c.has_name_error.ensures.says ∙ c.if-not-has_name_error.true) in
    let with_entries : List Held → Cache = λ es. record { capacity = c.args.cache.now.capacity; entries = es } in
    ap with_entries (sym (nothing_to_forget (error_slot c.args.class key) entries (no_error_entry c.args.class key entries none)))

pub returns-clause-forgotten : goal.returns-clause-forgotten
returns-clause-forgotten g c = search rules
