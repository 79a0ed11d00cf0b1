-- Over a run of a reader no octet is lost, and no frame.
use Rattle.std.proofs.Common.{◌≡◌, ℕ, List, [], ◌∷◌, ◌++◌, sym, ap, ◌∙◌, append_assoc}
use Rattle.std.specs.Prelude.{Some, None, Ok, Err}
use Rattle.std.specs.List.{flat_map}
use Rattle.std.proofs.lemmas.List.{append-nil}
use Rattle.tcp_frames.specs.Frames.{framed, frames_of, unfinished_of, IsUnfinished}
use Rattle.tcp_frames.specs.Runs.{Call, fed, took, Runs, fed_in, taken_in}
use Rattle.tcp_frames.specs.Laws.{KeepsFrames}
use Rattle.tcp_frames.proofs.FrameLaws.{frames_of-leads, frames_of-unfinished, unfinished_of-leads, unfinished_of-unfinished, leads-append}

pub octets_kept : (before : List ℕ) (calls : List Call) (after : List ℕ) → Runs before calls after
    → before ++ fed_in calls ≡ flat_map framed (taken_in calls) ++ after
octets_kept before [] after run = append-nil before ∙ sym run
octets_kept before (fed piece (Ok u) ∷ calls) after run =
    sym (append_assoc before piece (fed_in calls)) ∙ ap (λ (octets : List ℕ). octets ++ fed_in calls) (sym run.1.0.ok) ∙ octets_kept run.0 calls after run.1.1
octets_kept before (fed piece (Err e) ∷ calls) after run =
    ap (λ (octets : List ℕ). octets ++ fed_in calls) (sym run.1.0.err) ∙ octets_kept run.0 calls after run.1.1
octets_kept before (took (Ok (Some message)) ∷ calls) after run =
    ap (λ (octets : List ℕ). octets ++ fed_in calls) run.1.0.octets ∙ append_assoc (framed message) run.0 (fed_in calls)
    ∙ ap (λ (octets : List ℕ). framed message ++ octets) (octets_kept run.0 calls after run.1.1)
    ∙ sym (append_assoc (framed message) (flat_map framed (taken_in calls)) after)
octets_kept before (took (Ok None) ∷ calls) after run =
    ap (λ (octets : List ℕ). octets ++ fed_in calls) (sym run.1.0.0) ∙ octets_kept run.0 calls after run.1.1
octets_kept before (took (Err e) ∷ calls) after run =
    ap (λ (octets : List ℕ). octets ++ fed_in calls) (sym run.1.0.0) ∙ octets_kept run.0 calls after run.1.1

pub frames_kept : (before : List ℕ) (calls : List Call) (after : List ℕ) → Runs before calls after → KeepsFrames before calls after
frames_kept before [] after run =
    let same : before ++ [] ≡ after = append-nil before ∙ sym run in
    record { frames = ap frames_of same; unfinished = ap unfinished_of same }
frames_kept before (fed piece (Ok u) ∷ calls) after run =
    let same : before ++ (piece ++ fed_in calls) ≡ run.0 ++ fed_in calls =
    sym (append_assoc before piece (fed_in calls)) ∙ ap (λ (octets : List ℕ). octets ++ fed_in calls) (sym run.1.0.ok) in
    let later = frames_kept run.0 calls after run.1.1 in
    record { frames = ap frames_of same ∙ later.frames; unfinished = ap unfinished_of same ∙ later.unfinished }
frames_kept before (fed piece (Err e) ∷ calls) after run =
    let same : before ++ fed_in calls ≡ run.0 ++ fed_in calls = ap (λ (octets : List ℕ). octets ++ fed_in calls) (sym run.1.0.err) in
    let later = frames_kept run.0 calls after run.1.1 in
    record { frames = ap frames_of same ∙ later.frames; unfinished = ap unfinished_of same ∙ later.unfinished }
frames_kept before (took (Ok (Some message)) ∷ calls) after run =
    let leads = leads-append message run.0 before (fed_in calls) run.1.0 in
    let later = frames_kept run.0 calls after run.1.1 in
    record {
      frames = frames_of-leads message (run.0 ++ fed_in calls) (before ++ fed_in calls) leads ∙ ap (λ (found : List (List ℕ)). message ∷ found) later.frames;
      unfinished = unfinished_of-leads message (run.0 ++ fed_in calls) (before ++ fed_in calls) leads ∙ later.unfinished;
    }
frames_kept before (took (Ok None) ∷ calls) after run =
    let same : before ++ fed_in calls ≡ run.0 ++ fed_in calls = ap (λ (octets : List ℕ). octets ++ fed_in calls) (sym run.1.0.0) in
    let later = frames_kept run.0 calls after run.1.1 in
    record { frames = ap frames_of same ∙ later.frames; unfinished = ap unfinished_of same ∙ later.unfinished }
frames_kept before (took (Err e) ∷ calls) after run =
    let same : before ++ fed_in calls ≡ run.0 ++ fed_in calls = ap (λ (octets : List ℕ). octets ++ fed_in calls) (sym run.1.0.0) in
    let later = frames_kept run.0 calls after run.1.1 in
    record { frames = ap frames_of same ∙ later.frames; unfinished = ap unfinished_of same ∙ later.unfinished }

pub all_taken : (calls : List Call) (after : List ℕ) → Runs [] calls after → IsUnfinished after
    → (taken_in calls ≡ frames_of (fed_in calls)) × (after ≡ unfinished_of (fed_in calls))
all_taken calls after run unfinished =
    let kept = frames_kept [] calls after run in (
      sym (kept.frames ∙ ap (λ (messages : List (List ℕ)). taken_in calls ++ messages) (frames_of-unfinished after unfinished) ∙ append-nil (taken_in calls)),
      sym (kept.unfinished ∙ unfinished_of-unfinished after unfinished),
    )
