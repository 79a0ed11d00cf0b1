use Rattle.std.proofs.Common.{ℕ, List, [], ◌∷◌, ap, ◌∙◌}
use Rattle.dns_name.specs.Labels.{labels_of}
use Rattle.dns_message.specs.Borrowed.{record_of}
use Rattle.dns_message.proofs.writing.WriterSets.{set_of_data, puts_records, puts_one}
use Rattle.dns_message.proofs.writing.records.put_set.Goals as goal

pub returns-in-Rows : goal.returns-in-Rows
returns-in-Rows g c =
    let same = set_of_data c.args.set.now (labels_of c.octets.result.now) c.set.inside.owner.now c.set.inside.kind c.set.inside.class c.set.inside.ttl _ _ c.octets.ensures.labels c.in-Rows.is c.set.view_is in
    puts_records c.args.limit c.put_rows.result c.args.writer.now c.put_rows.new.writer _ c.args.set.now same c.put_rows.ensures

pub returns-in-Row : goal.returns-in-Row
returns-in-Row g c =
    let same = set_of_data c.args.set.now (labels_of c.octets.result.now) c.set.inside.owner.now c.set.inside.kind c.set.inside.class c.set.inside.ttl _ _ c.octets.ensures.labels c.in-Row.is c.set.view_is in
    let written = ap (λ (rdata : List ℕ). record_of (labels_of c.octets.result.now) c.set.inside.kind c.set.inside.class c.set.inside.ttl rdata ∷ []) c.octets-in-Row.ensures in
    puts_records c.args.limit c.put_row.result c.args.writer.now c.put_row.new.writer _ c.args.set.now (written ∙ same)
    (puts_one c.args.limit c.put_row.result c.args.writer.now c.put_row.new.writer _ c.put_row.ensures)
