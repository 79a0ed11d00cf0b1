use Rattle.std.proofs.Common.{refl, arith}
use Rattle.dns_message.proofs.writing.PointerLaws.{put_in_few, put_near}
use Rattle.dns_message.proofs.writing.pointers.Pointers.insert.Goals as goal

pub returns-then-is_full : goal.returns-then-is_full
returns-then-is_full g c = put_near c.args.self.now c.insert_in_map.new.self c.args.name.now c.args.offset _ (omega arith) (omega arith) c.in_ok-insert_in_map.ensures

pub returns : goal.returns
returns g c =
    put_near c.args.self.now (record { few = c.push.new.self; many = c.args.self.now.many }) c.args.name.now c.args.offset _ (omega arith) (omega arith)
    (put_in_few c.args.self.now (record { few = c.push.new.self; many = c.args.self.now.many }) c.args.name _ c.push.ensures.items refl c.requires)
