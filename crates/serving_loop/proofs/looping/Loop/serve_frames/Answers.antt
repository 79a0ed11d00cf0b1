use Rattle.std.proofs.Common.{◌∙◌, ap, subst, Ok, List, ℕ, Option, Result}
use Rattle.std.specs.declared.alloc.AllocError.{AllocError}
use Rattle.tcp_frames.proofs.CallerLemmas.{all_frames_are_taken, cut_does_not_matter}
use Rattle.tcp_frames.specs.Frames.{Takes}
use Rattle.serving_loop.proofs.Framing.{frames_none, frames_more, frames_end}
use Rattle.serving_loop.proofs.looping.Loop.serve_frames.Goals as goal

pub loop-message-init : goal.loop-message-init
loop-message-init g c = frames_none _ _ _

pub loop-message-preserved-in-Some : goal.loop-message-preserved-in-Some
loop-message-preserved-in-Some g c = frames_more cut_does_not_matter _ _ _ c.in-Some.message _ _ _ _ _ _ c.event.ensures c.loop-message.invariant
    (subst (λ (r : Result (Option (List ℕ)) AllocError). Takes c.loop-message.reader r c.take.new.self) (c.in_ok-message.was ∙ ap (λ (o : Option (List ℕ)). Ok o) c.in-Some.is) c.take.ensures)
    c.hand_on.ensures

pub loop-message-preserved-in-Some-2 : goal.loop-message-preserved-in-Some-2
loop-message-preserved-in-Some-2 g c = frames_more cut_does_not_matter _ _ _ c.in-Some.message _ _ _ _ _ _ c.event.ensures c.loop-message.invariant
    (subst (λ (r : Result (Option (List ℕ)) AllocError). Takes c.loop-message.reader r c.take.new.self) (c.in_ok-message.was ∙ ap (λ (o : Option (List ℕ)). Ok o) c.in-Some.is) c.take.ensures)
    c.hand_on.ensures

pub returns : goal.returns
returns g c = frames_end all_frames_are_taken _ _ _ _ _ _ c.loop-message.invariant
    (subst (λ (r : Result (Option (List ℕ)) AllocError). Takes c.loop-message.reader r c.take.new.self) (c.in_ok-message.was ∙ ap (λ (o : Option (List ℕ)). Ok o) c.in_default.is) c.take.ensures)
