use Rattle.std.proofs.Common.{◌∙◌, ap, subst}
use Rattle.std.specs.Map.{lookup}
use Rattle.record_cache.specs.Entries.{name_error_size, name_error_ending, alias_ending}
use Rattle.record_cache.specs.Storing.{marks_in, AreOneMore}
use Rattle.record_cache.specs.declared.counts.Marks.{Marks}
use Rattle.record_cache.proofs.Stored.{eq, taken_list, taken_stored, taken_told, counted_out}
use Rattle.record_cache.proofs.cache.take_out.Goals as goal

pub remove-requires-clause-sizes : goal.remove-requires-clause-sizes
remove-requires-clause-sizes g c = let same = c.marks_in.ensures.marks ∙ ap marks_in (c.pop-taken.ensures.value ∙ ap (λ k. lookup (eq k) c.args.entries.now.entries) c.hashed_by-key.ensures) in
    counted_out c.args.tables.now.sizes.counts c.marks_in.result.size c.marks_in.ensures.few.size
    (λ n. rw same (taken_told c.args.entries.now c.args.tables.now c.requires name_error_size c.args.tables.now.sizes.counts c.requires.sizes c.args.slot.now n))

pub remove-requires-clause-endings : goal.remove-requires-clause-endings
remove-requires-clause-endings g c = let same = c.marks_in.ensures.marks ∙ ap marks_in (c.pop-taken.ensures.value ∙ ap (λ k. lookup (eq k) c.args.entries.now.entries) c.hashed_by-key.ensures) in
    counted_out c.args.tables.now.endings.counts c.marks_in.result.ending c.marks_in.ensures.few.ending
    (λ n. rw same (taken_told c.args.entries.now c.args.tables.now c.requires name_error_ending c.args.tables.now.endings.counts c.requires.endings c.args.slot.now n))

pub remove-requires-clause-aliases : goal.remove-requires-clause-aliases
remove-requires-clause-aliases g c = let same = c.marks_in.ensures.marks ∙ ap marks_in (c.pop-taken.ensures.value ∙ ap (λ k. lookup (eq k) c.args.entries.now.entries) c.hashed_by-key.ensures) in
    counted_out c.args.tables.now.aliases.counts c.marks_in.result.alias c.marks_in.ensures.few.alias
    (λ n. rw same (taken_told c.args.entries.now c.args.tables.now c.requires alias_ending c.args.tables.now.aliases.counts c.requires.aliases c.args.slot.now n))

pub returns-clause-stored : goal.returns-clause-stored
returns-clause-stored g c = let same = c.marks_in.ensures.marks ∙ ap marks_in (c.pop-taken.ensures.value ∙ ap (λ k. lookup (eq k) c.args.entries.now.entries) c.hashed_by-key.ensures) in
    rw (c.pop-taken.ensures.entries, c.hashed_by-key.ensures)
    (taken_stored c.args.entries.now c.args.tables.now c.requires c.args.slot.now c.remove.new.self
    (subst (λ (marks : Marks). AreOneMore c.args.tables.now marks c.remove.new.self) same c.remove.ensures))

pub returns-clause-list : goal.returns-clause-list
returns-clause-list g c = rw (c.pop-taken.ensures.entries, c.hashed_by-key.ensures) (taken_list c.args.entries.now c.args.tables.now c.requires c.args.slot.now)
