use Rattle.std.proofs.Common.{◌≡◌, Err, refl, ap, ◌∙◌, string_bytes}
use Rattle.toml.specs.View.{view}
use Rattle.suffix_routes.specs.declared.fault.ConfigFault.TheVariants.{UnknownKey}
use Rattle.suffix_routes.specs.Excerpts.{excerpt}
use Rattle.suffix_routes.specs.Reading.{known_keys, is_strange}
use Rattle.suffix_routes.proofs.ReadLaws.{first-key}
use Rattle.suffix_routes.proofs.table.check_keys.Goals as goal

pub returns-in-None : goal.returns-in-None
unfolding known_keys
returns-in-None c =
    rw (first-key view (is_strange c.args.version c.args.place) c.args.table.now.entries, ← c.unknown_key.ensures, c.in-None.is) refl

pub returns-in-Some : goal.returns-in-Some
unfolding known_keys
returns-in-Some c =
    let met : c.of.result ≡ excerpt (string_bytes c.in-Some.key.now) = c.of.ensures ∙ ap excerpt c.as_str.ensures.value in
    rw (first-key view (is_strange c.args.version c.args.place) c.args.table.now.entries, ← c.unknown_key.ensures, c.in-Some.is) (ap (λ key. Err (UnknownKey c.args.version c.args.place key)) met)
