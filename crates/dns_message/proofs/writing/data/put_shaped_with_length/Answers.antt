use Rattle.std.proofs.Common.{◌∙◌}
use Rattle.dns_message.proofs.writing.RoundTripData.{shaped_fields}
use Rattle.dns_message.proofs.writing.data.put_shaped_with_length.Goals as goal

pub put_parts_with_length-requires-clause-parts : goal.put_parts_with_length-requires-clause-parts
put_parts_with_length-requires-clause-parts g c =
    shaped_fields c.args.kind _ c.args.rdata.now ((rw c.in-Some.is at c.shape_of-2.view_is) ∙ c.shape_of.ensures) c.requires.shaped
