use Rattle.std.proofs.Common.{List, ℕ, inl, subst}
use Rattle.replay_script.specs.Runs.{ReplaysText}
use Rattle.replay_script.proofs.replay.replay_run.Goals as goal

pub returns : goal.returns
returns g c =
    let held = g.W.Write.contents c.args.writer.now in
    let held' = g.W.Write.contents c.replay_text.new.writer in
    inl (record {
      script = c.in_ok-script.script.items;
      whole = c.in_ok-script.ensures.whole;
      replays = subst (λ (script : List ℕ). ReplaysText script held c.replay_text.result held') c.deref.ensures.value c.replay_text.ensures;
    })
