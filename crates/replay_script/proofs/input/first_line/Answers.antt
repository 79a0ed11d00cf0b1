use Rattle.std.proofs.Common.{◌≡◌, ℕ, List, Option, IfNone, Bor, false, sym, subst, ◌∙◌}
use Rattle.std.specs.List.{list_any}
use Rattle.replay_script.specs.Parts.{is_feed}
use Rattle.replay_script.proofs.PartLaws.{cut_at, no_feed}
use Rattle.replay_script.proofs.input.first_line.Goals as goal

pub returns-in_err-end-clause-none : goal.returns-in_err-end-clause-none
returns-in_err-end-clause-none c = subst (λ (r : Option (Bor (List ℕ) × Bor (List ℕ))). IfNone r (list_any is_feed c.args.text.now ≡ false)) (sym c.from_residual.ensures) (no_feed c.args.text.now (sym c.first_feed.ensures ∙ c.in_err-end.was))

pub returns-clause-some : goal.returns-clause-some
returns-clause-some c = cut_at c.args.text.now c.in_ok-end.end (sym c.first_feed.ensures ∙ c.in_ok-end.was)
