use Rattle.std.proofs.Common.{ap}
use Rattle.std.specs.Prelude.{map}
use Rattle.std.specs.List.{AllByRecursion}
use Rattle.answer_builder.specs.Answers.{IsEarlier}
use Rattle.waiting_questions.specs.Values.{Waiting}
use Rattle.step_table.specs.Clients.{fate_of}
use Rattle.reply_decisions.specs.Fates.{fate_now, looked_on}
use Rattle.reply_decisions.proofs.Parts.{one_more, used_more, all_at}
use Rattle.reply_decisions.proofs.fates.fates_of.Goals as goal

pub loop-place-init : goal.loop-place-init
loop-place-init g c = record { each = ap (map fate_now) c.in_ok-with_capacity.ensures.items; used = c.new.ensures.items }

pub add-requires-clause-own : goal.add-requires-clause-own
add-requires-clause-own g c = all_at (λ (x : Waiting). AllByRecursion (IsEarlier c.args.start.now.moment) x.held) c.args.waiting.now c.loop-place.place c.get.result.now c.requires.own c.get.ensures

pub loop-place-preserved : goal.loop-place-preserved
loop-place-preserved g c =
    let t = c.args.start.now in
    let looked = looked_on t c.args.lead.now.aliases.now c.args.lead.now.name.now in
    record {
      each = one_more (λ x. fate_of t.config t.moment x (looked x)) c.args.waiting.now c.loop-place.place c.loop-place.fates.each c.add.new.self.each c.get.result.now
          c.loop-place.invariant.each c.get.ensures c.in_ok-add.ensures.each;
      used = used_more (λ x. (looked x).used) c.args.waiting.now c.loop-place.place c.loop-place.fates.used c.add.new.self.used c.get.result.now
          c.loop-place.invariant.used c.get.ensures c.in_ok-add.ensures.used;
    }
