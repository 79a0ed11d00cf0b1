use Rattle.std.proofs.Common.{ℕ, ◌+◌, ◌-◌, ◌/◌, ◌%◌, List, ◌∷◌, ◌∙◌, ap, take, drop, arith, refl}
use Rattle.std.proofs.lemmas.List.{drop_all, length-take}
use Rattle.std.proofs.lemmas.Slice.{put_mid-paste}
use Rattle.dns_message.specs.Writing.{octets16}
use Rattle.dns_message.proofs.writing.data.set_u16.Goals as goal

pub returns : goal.returns
returns c =
    let part : List ℕ = take (c.args.offset + 2 - c.args.offset) (drop c.args.offset c.args.octets.now) in
    let none = drop_all 2 part (omega (arith, length-take (c.args.offset + 2 - c.args.offset) (drop c.args.offset c.args.octets.now))) in
    put_mid-paste c.args.offset _ c.args.octets.now c.write_u16.new.buf (octets16 c.args.number) 2
    (c.write_u16.ensures ∙ ap (λ (rest : List ℕ). (c.args.number / 256 % 256) ∷ (c.args.number % 256) ∷ rest) none) (omega arith) refl
