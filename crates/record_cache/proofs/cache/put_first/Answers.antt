use Rattle.std.proofs.Common.{ap, sym, subst, ◌∙◌, rules}
use Rattle.std.specs.Map.{values_of}
use Rattle.lru.specs.LruCache.{LruCache}
use Rattle.record_cache.specs.Values.{Held}
use Rattle.record_cache.specs.Entries.{name_error_size, name_error_ending, alias_ending}
use Rattle.record_cache.specs.Storing.{AreOneMore, IsStored, hash_of}
use Rattle.record_cache.specs.declared.counts.Marks.{Marks}
use Rattle.record_cache.specs.declared.hashed.HashedSlot.{HashedSlot}
use Rattle.record_cache.proofs.Stored.{key_of, old_marks, absent, put_at, put_list, put_stored, put_told, put_fits, counted_out, counted_in}
use Rattle.record_cache.proofs.cache.put_first.Goals as goal

pub remove-requires-clause-sizes : goal.remove-requires-clause-sizes
remove-requires-clause-sizes g c =
    let same = old_marks (hash_of g.H.BuildHasher g.H.Hasher.Hasher c.args.hasher.now) c.args.entries.now c.args.held c.hashed_by-key.result c.in-Ok.displaced c.value_of.result c.marks_in.result (key_of (hash_of g.H.BuildHasher g.H.Hasher.Hasher c.args.hasher.now) c.hashed_by-key.result c.slot.result c.args.held.piece.slot c.hashed_by-key.ensures c.slot.ensures.slot) c.in-Ok.ensures.old c.value_of.ensures c.marks_in.ensures.marks in
    counted_out c.args.tables.now.sizes.counts c.marks_in.result.size c.marks_in.ensures.few.size
    (λ n. rw same (put_told c.args.entries.now c.args.tables.now c.requires c.args.held name_error_size c.args.tables.now.sizes.counts c.requires.sizes n))

pub add-requires-clause-sizes : goal.add-requires-clause-sizes
add-requires-clause-sizes g c =
    let same = old_marks (hash_of g.H.BuildHasher g.H.Hasher.Hasher c.args.hasher.now) c.args.entries.now c.args.held c.hashed_by-key.result c.in-Ok.displaced c.value_of.result c.marks_in.result (key_of (hash_of g.H.BuildHasher g.H.Hasher.Hasher c.args.hasher.now) c.hashed_by-key.result c.slot.result c.args.held.piece.slot c.hashed_by-key.ensures c.slot.ensures.slot) c.in-Ok.ensures.old c.value_of.ensures c.marks_in.ensures.marks in
    counted_in c.remove.new.self.sizes.counts c.marks-marks.result.size c.marks-marks.ensures.few.size
    (put_fits c.args.entries.now c.args.tables.now c.requires c.args.held name_error_size c.args.tables.now.sizes.counts c.requires.sizes c.remove.new.self.sizes.counts
    (subst (λ (marks : Marks). AreOneMore c.args.tables.now marks c.remove.new.self) same c.remove.ensures).sizes)

pub remove-requires-clause-endings : goal.remove-requires-clause-endings
remove-requires-clause-endings g c =
    let same = old_marks (hash_of g.H.BuildHasher g.H.Hasher.Hasher c.args.hasher.now) c.args.entries.now c.args.held c.hashed_by-key.result c.in-Ok.displaced c.value_of.result c.marks_in.result (key_of (hash_of g.H.BuildHasher g.H.Hasher.Hasher c.args.hasher.now) c.hashed_by-key.result c.slot.result c.args.held.piece.slot c.hashed_by-key.ensures c.slot.ensures.slot) c.in-Ok.ensures.old c.value_of.ensures c.marks_in.ensures.marks in
    counted_out c.args.tables.now.endings.counts c.marks_in.result.ending c.marks_in.ensures.few.ending
    (λ n. rw same (put_told c.args.entries.now c.args.tables.now c.requires c.args.held name_error_ending c.args.tables.now.endings.counts c.requires.endings n))

pub add-requires-clause-endings : goal.add-requires-clause-endings
add-requires-clause-endings g c =
    let same = old_marks (hash_of g.H.BuildHasher g.H.Hasher.Hasher c.args.hasher.now) c.args.entries.now c.args.held c.hashed_by-key.result c.in-Ok.displaced c.value_of.result c.marks_in.result (key_of (hash_of g.H.BuildHasher g.H.Hasher.Hasher c.args.hasher.now) c.hashed_by-key.result c.slot.result c.args.held.piece.slot c.hashed_by-key.ensures c.slot.ensures.slot) c.in-Ok.ensures.old c.value_of.ensures c.marks_in.ensures.marks in
    counted_in c.remove.new.self.endings.counts c.marks-marks.result.ending c.marks-marks.ensures.few.ending
    (put_fits c.args.entries.now c.args.tables.now c.requires c.args.held name_error_ending c.args.tables.now.endings.counts c.requires.endings c.remove.new.self.endings.counts
    (subst (λ (marks : Marks). AreOneMore c.args.tables.now marks c.remove.new.self) same c.remove.ensures).endings)

pub remove-requires-clause-aliases : goal.remove-requires-clause-aliases
remove-requires-clause-aliases g c =
    let same = old_marks (hash_of g.H.BuildHasher g.H.Hasher.Hasher c.args.hasher.now) c.args.entries.now c.args.held c.hashed_by-key.result c.in-Ok.displaced c.value_of.result c.marks_in.result (key_of (hash_of g.H.BuildHasher g.H.Hasher.Hasher c.args.hasher.now) c.hashed_by-key.result c.slot.result c.args.held.piece.slot c.hashed_by-key.ensures c.slot.ensures.slot) c.in-Ok.ensures.old c.value_of.ensures c.marks_in.ensures.marks in
    counted_out c.args.tables.now.aliases.counts c.marks_in.result.alias c.marks_in.ensures.few.alias
    (λ n. rw same (put_told c.args.entries.now c.args.tables.now c.requires c.args.held alias_ending c.args.tables.now.aliases.counts c.requires.aliases n))

pub add-requires-clause-aliases : goal.add-requires-clause-aliases
add-requires-clause-aliases g c =
    let same = old_marks (hash_of g.H.BuildHasher g.H.Hasher.Hasher c.args.hasher.now) c.args.entries.now c.args.held c.hashed_by-key.result c.in-Ok.displaced c.value_of.result c.marks_in.result (key_of (hash_of g.H.BuildHasher g.H.Hasher.Hasher c.args.hasher.now) c.hashed_by-key.result c.slot.result c.args.held.piece.slot c.hashed_by-key.ensures c.slot.ensures.slot) c.in-Ok.ensures.old c.value_of.ensures c.marks_in.ensures.marks in
    counted_in c.remove.new.self.aliases.counts c.marks-marks.result.alias c.marks-marks.ensures.few.alias
    (put_fits c.args.entries.now c.args.tables.now c.requires c.args.held alias_ending c.args.tables.now.aliases.counts c.requires.aliases c.remove.new.self.aliases.counts
    (subst (λ (marks : Marks). AreOneMore c.args.tables.now marks c.remove.new.self) same c.remove.ensures).aliases)

pub returns-in-Ok-clause-stored : goal.returns-in-Ok-clause-stored
returns-in-Ok-clause-stored g c =
    let same = old_marks (hash_of g.H.BuildHasher g.H.Hasher.Hasher c.args.hasher.now) c.args.entries.now c.args.held c.hashed_by-key.result c.in-Ok.displaced c.value_of.result c.marks_in.result (key_of (hash_of g.H.BuildHasher g.H.Hasher.Hasher c.args.hasher.now) c.hashed_by-key.result c.slot.result c.args.held.piece.slot c.hashed_by-key.ensures c.slot.ensures.slot) c.in-Ok.ensures.old c.value_of.ensures c.marks_in.ensures.marks in
    subst (λ stored. IsStored (hash_of g.H.BuildHasher g.H.Hasher.Hasher c.args.hasher.now) stored c.add.new.self) (sym (put_at (hash_of g.H.BuildHasher g.H.Hasher.Hasher c.args.hasher.now) c.args.entries.now c.push.new.self c.args.held c.hashed_by-key.result (key_of (hash_of g.H.BuildHasher g.H.Hasher.Hasher c.args.hasher.now) c.hashed_by-key.result c.slot.result c.args.held.piece.slot c.hashed_by-key.ensures c.slot.ensures.slot) c.in-Ok.ensures.entries))
    (put_stored c.args.entries.now c.args.tables.now c.requires c.args.held c.slot.ensures.formed c.remove.new.self c.add.new.self
    (subst (λ (marks : Marks). AreOneMore c.args.tables.now marks c.remove.new.self) same c.remove.ensures)
    (subst (λ (marks : Marks). AreOneMore c.add.new.self marks c.remove.new.self) c.marks-marks.ensures.marks c.add.ensures))

pub returns-in-Ok-clause-list : goal.returns-in-Ok-clause-list
returns-in-Ok-clause-list g c =
    ap (λ (stored : LruCache HashedSlot Held). values_of stored.entries) (put_at (hash_of g.H.BuildHasher g.H.Hasher.Hasher c.args.hasher.now) c.args.entries.now c.push.new.self c.args.held c.hashed_by-key.result (key_of (hash_of g.H.BuildHasher g.H.Hasher.Hasher c.args.hasher.now) c.hashed_by-key.result c.slot.result c.args.held.piece.slot c.hashed_by-key.ensures c.slot.ensures.slot) c.in-Ok.ensures.entries)
    ∙ put_list c.args.entries.now c.args.tables.now c.requires c.args.held

pub returns-clause-room : goal.returns-clause-room
returns-clause-room g c = absent c.args.entries.now c.args.tables.now c.requires c.args.held.piece.slot (rw (key_of (hash_of g.H.BuildHasher g.H.Hasher.Hasher c.args.hasher.now) c.hashed_by-key.result c.slot.result c.args.held.piece.slot c.hashed_by-key.ensures c.slot.ensures.slot) at c.in-Err.ensures.succeeds)

pub returns-clause-stored : goal.returns-clause-stored
returns-clause-stored g c = search rules
