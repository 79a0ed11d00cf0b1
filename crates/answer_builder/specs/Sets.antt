-- The records of an answer section, wherever their sets are listed.
use Rattle.std.specs.Prelude.{List}
use Rattle.dns_message.specs.Values.{Record}
use Rattle.dns_message.specs.Borrowed.{records_in}
use Rattle.answer_builder.specs.Building.{listed}
use Rattle.answer_builder.specs.declared.sections.Sets.{Sets}
use Rattle.answer_builder.specs.declared.sections.Sets.TheVariants.{Only, Each}

-- the records of at most one set, or of several
abbrev pub records_at : {A : Type 0} → Sets A → List Record
records_at (Only set) = listed set
records_at (Each sets) = records_in sets.items
