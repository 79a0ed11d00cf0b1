use Rattle.std.proofs.Common.{refl}
use Rattle.dns_message.proofs.writing.PointerLaws.{put_in_many}
use Rattle.dns_message.proofs.writing.pointers.Pointers.insert_in_map.Goals as goal

pub returns : goal.returns
returns g c = put_in_many c.args.self.now (record { few = c.args.self.now.few; many = c.insert.new.self }) c.args.name.now _ refl c.requires c.in_ok-insert.ensures.updates
