-- The frames of a stream, served one after another.
use Rattle.std.proofs.Common.{◌≡◌, ◌∙◌, refl, sym, ap, subst, ℕ, ◌<◌, List, [], ◌∷◌, ◌++◌, length, append_assoc, append-nil, Some, None, Result, Ok, Err, arith}
use Rattle.std.specs.Prelude.{map, OnOk}
use Rattle.std.specs.declared.alloc.AllocError.{AllocError}
use Rattle.std.proofs.lemmas.List.{length-append, map-append}
use Rattle.tcp_frames.specs.Frames.{framed, Leads, Takes, frames_of, unfinished_of}
use Rattle.tcp_frames.specs.Runs.{fed, took}
use Rattle.tcp_frames.specs.Laws.{CutDoesNotMatter, AllFramesAreTaken}
use Rattle.step_values.specs.Values.{Event}
use Rattle.serving_loop.specs.declared.streams.Sender.{Sender}
use Rattle.serving_loop.specs.Events.{Taken, joined, IsChain, AreChains}
use Rattle.serving_loop.specs.Serving.{Standing, Does}
use Rattle.serving_loop.specs.Handing.{HandsOn}
use Rattle.serving_loop.specs.Streams.{message_from, ServesFrames, ServesEvents}
use Rattle.serving_loop.proofs.Handling.{does_nothing, does_more, joined_more}

pub chains_more : (events : List Event) (chains : List (List Taken)) (event : Event) (chain : List Taken) → AreChains events chains → IsChain (Some event) chain → AreChains (events ++ event ∷ []) (chains ++ chain ∷ [])
chains_more [] [] event chain so_far is = (is, tt)
chains_more [] (x ∷ chains) event chain so_far is = absurd so_far
chains_more (e ∷ events) [] event chain so_far is = absurd so_far
chains_more (e ∷ events) (x ∷ chains) event chain so_far is = (so_far.0, chains_more events chains event chain so_far.1 is)

shorter : (message rest stream : List ℕ) → Leads message rest stream → length rest < length stream
shorter message rest stream leads =
    let long = ap (λ (xs : List ℕ). length xs) leads.octets in
    let sum = length-append (framed message) rest in
    omega (arith, long, sum)

-- so far: these messages were served, and the reader goes on after them
pub record FramesSoFar (sender : Sender) (stream rest : List ℕ) (before after : Standing) : Type 0 where
  pub chains : List (List Taken)
  pub done : List (List ℕ)
  pub frames : frames_of stream ≡ done ++ frames_of rest
  pub unfinished : unfinished_of stream ≡ unfinished_of rest
  pub served : AreChains (map (message_from sender) done) chains
  pub does : Does before (joined chains) after

pub frames_none : (sender : Sender) (stream : List ℕ) (x : Standing) → FramesSoFar sender stream stream x x
frames_none sender stream x = record { chains = []; done = []; frames = refl; unfinished = refl; served = tt; does = does_nothing x }

pub frames_more : CutDoesNotMatter → (sender : Sender) (stream rest message further : List ℕ) (x y z : Standing) (e : Event) (more : _) → e ≡ message_from sender message → FramesSoFar sender stream rest x y → Takes rest (Ok (Some message)) further → HandsOn e more y z → FramesSoFar sender stream further x z
frames_more law sender stream rest message further x y z e more is so_far takes h =
    let keeps = law rest (took (Ok (Some message)) ∷ []) further (further, (takes, refl)) in
    let frames = ap frames_of (sym (append-nil rest)) ∙ keeps.frames in
    record {
      chains = so_far.chains ++ h.chain ∷ [];
      done = so_far.done ++ message ∷ [];
      frames = so_far.frames ∙ ap (λ (xs : List (List ℕ)). so_far.done ++ xs) frames ∙ sym (append_assoc so_far.done (message ∷ []) (frames_of further));
      unfinished = so_far.unfinished ∙ ap unfinished_of (sym (append-nil rest)) ∙ keeps.unfinished;
      served = subst (λ (events : List Event). AreChains events (so_far.chains ++ h.chain ∷ [])) (sym (map-append (message_from sender) so_far.done (message ∷ [])))
          (chains_more (map (message_from sender) so_far.done) so_far.chains (message_from sender message) h.chain so_far.served (subst (λ (event : Event). IsChain (Some event) h.chain) is h.is_chain));
      does = subst (λ (taken : List Taken). Does x taken z) (sym (joined_more so_far.chains h.chain)) (does_more x y z (joined so_far.chains) h.chain so_far.does h.does);
    }

pub frames_fewer : (rest message further : List ℕ) → Takes rest (Ok (Some message)) further → length further < length rest
frames_fewer rest message further takes = shorter message further rest takes

-- the reader has no whole frame left
pub frames_end : AllFramesAreTaken → (sender : Sender) (stream rest further : List ℕ) (x y : Standing) → FramesSoFar sender stream rest x y → Takes rest (Ok None) further → ServesFrames sender stream (Ok tt) further x y
frames_end law sender stream rest further x y so_far takes =
    let all = law (fed rest (Ok tt) ∷ []) rest (rest, (record { ok = refl; err = tt }, refl)) takes.1 in
    let whole = append-nil rest in
    record {
      chains = so_far.chains;
      done = so_far.done;
      missed = [];
      frames = so_far.frames ∙ ap (λ (xs : List (List ℕ)). so_far.done ++ xs) (ap frames_of (sym whole) ∙ sym all.0);
      served = so_far.served;
      does = so_far.does;
      ok = (refl, takes.0 ∙ all.1 ∙ ap unfinished_of whole ∙ sym so_far.unfinished);
    }

-- memory ran out before a message
pub frames_cut : (sender : Sender) (stream rest further : List ℕ) (refused : AllocError) (x y : Standing) → FramesSoFar sender stream rest x y → ServesFrames sender stream (Err refused) further x y
frames_cut sender stream rest further refused x y so_far = record {
  chains = so_far.chains;
  done = so_far.done;
  missed = frames_of rest;
  frames = so_far.frames;
  served = so_far.served;
  does = so_far.does;
  ok = tt;
}

-- ---- as events

pub events_none : (events : List Event) (refused : AllocError) (x : Standing) → ServesEvents events (Err refused) x x
events_none events refused x = record { chains = []; done = []; missed = events; events_are = refl; served = tt; does = does_nothing x; ok = tt }

pub events_nothing : (x : Standing) → ServesEvents [] (Ok tt) x x
events_nothing x = record { chains = []; done = []; missed = []; events_are = refl; served = tt; does = does_nothing x; ok = refl }

pub events_one : (event : Event) (more : _) (x y : Standing) → HandsOn event more x y → ServesEvents (event ∷ []) (Ok tt) x y
events_one event more x y h = record { chains = h.chain ∷ []; done = event ∷ []; missed = []; events_are = refl; served = (h.is_chain, tt); does = subst (λ (taken : List Taken). Does x taken y) (sym (append-nil h.chain)) h.does; ok = refl }

pub events_of_frames : (sender : Sender) (stream : List ℕ) (result : Result (Unit {0}) AllocError) (rest : List ℕ) (x y : Standing) → ServesFrames sender stream result rest x y → ServesEvents (map (message_from sender) (frames_of stream)) result x y
events_of_frames sender stream result rest x y s = record {
  chains = s.chains;
  done = map (message_from sender) s.done;
  missed = map (message_from sender) s.missed;
  events_are = ap (map (message_from sender)) s.frames ∙ map-append (message_from sender) s.done s.missed;
  served = s.served;
  does = s.does;
  ok = by result s.ok;
}
  where
    by : (r : Result (Unit {0}) AllocError) → OnOk r ((s.missed ≡ []) × (rest ≡ unfinished_of stream)) → OnOk r (map (message_from sender) s.missed ≡ [])
    by (Ok u) none = ap (map (message_from sender)) none.0
    by (Err e) none = tt
