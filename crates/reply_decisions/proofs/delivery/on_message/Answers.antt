use Rattle.std.proofs.Common.{◌≡◌, ◌∙◌, ap, sym, true, false}
use Rattle.trust_rank.specs.Values.{Walk, end_of}
use Rattle.trust_rank.specs.Walks.{walk_of, is_lame}
use Rattle.step_table.specs.Replies.{row_of_acceptance}
use Rattle.reply_decisions.proofs.Accepting.{lame_row, accepted_row, ends_there, ends_fine}
use Rattle.step_actions.proofs.CallerLemmas.{decides_by}
use Rattle.reply_decisions.proofs.delivery.on_message.Goals as goal

pub returns-in-Lame : goal.returns-in-Lame
returns-in-Lame g c = record {
  decides =
      let walk : c.in_ok-pieces.field-0 ≡ walk_of c.args.start.now.config c.args.message.now c.args.ask.now.question
      c.args.ask.now.route =
      c.in_ok-pieces.ensures
      ∙ (λ i. walk_of (c.start.view_is i).config c.args.message.now
      ((c.asked.view_is ∙ c.ask-asked.ensures) i).question ((c.asked.view_is ∙ c.ask-asked.ensures) i).route) in
      let lame : is_lame (walk_of c.args.start.now.config c.args.message.now c.args.ask.now.question
      c.args.ask.now.route).end ≡ true =
      ap (λ (w : Walk). is_lame w.end) (sym (c.pieces-2.view_is ∙ walk))
      ∙ ap (λ e. is_lame (end_of {A = g.row.A.Denot} e)) c.in-Lame.is in
      decides_by c.fail.result _ _ _ c.fail.ensures.decides
      (λ rooms. sym (lame_row c.args.start.now.config c.args.start.now.moment c.args.start.now.words rooms c.args.ask.now
      c.args.start.now.state _ lame));
}

pub returns-in-Elsewhere : goal.returns-in-Elsewhere
returns-in-Elsewhere g c = record {
  decides =
      let walk : c.in_ok-pieces.field-0 ≡ walk_of c.args.start.now.config c.args.message.now c.args.ask.now.question
      c.args.ask.now.route =
      c.in_ok-pieces.ensures
      ∙ (λ i. walk_of (c.start.view_is i).config c.args.message.now
      ((c.asked.view_is ∙ c.ask-asked.ensures) i).question ((c.asked.view_is ∙ c.ask-asked.ensures) i).route) in
      let fine : is_lame (walk_of c.args.start.now.config c.args.message.now c.args.ask.now.question
      c.args.ask.now.route).end ≡ false =
      ap (λ (w : Walk). is_lame w.end) (sym (c.pieces-2.view_is ∙ walk))
      ∙ ap (λ e. is_lame (end_of {A = g.row.A.Denot} e)) c.in-Elsewhere.is in
      decides_by c.send_on.result _ _ _ c.send_on.ensures.decides
      (λ rooms. (λ i. row_of_acceptance c.args.start.now rooms c.args.ask.now (record {
        pieces = c.pieces-2.inside.pieces;
        authority = c.pieces-2.inside.authority;
        end = end_of {A = g.row.A.Denot} (sym c.in-Elsewhere.is i);
      }))
      ∙ ap (λ (w : Walk). row_of_acceptance c.args.start.now rooms c.args.ask.now w) (c.pieces-2.view_is ∙ walk)
      ∙ sym (accepted_row c.args.start.now.config c.args.start.now.moment c.args.start.now.words rooms c.args.ask.now
      c.args.start.now.state _ fine));
}

pub returns-in-Found : goal.returns-in-Found
returns-in-Found g c = record {
  decides =
      let walk : c.in_ok-pieces.field-0 ≡ walk_of c.args.start.now.config c.args.message.now c.args.ask.now.question
      c.args.ask.now.route =
      c.in_ok-pieces.ensures
      ∙ (λ i. walk_of (c.start.view_is i).config c.args.message.now
      ((c.asked.view_is ∙ c.ask-asked.ensures) i).question ((c.asked.view_is ∙ c.ask-asked.ensures) i).route) in
      let fine : is_lame (walk_of c.args.start.now.config c.args.message.now c.args.ask.now.question
      c.args.ask.now.route).end ≡ false =
      ap (λ (w : Walk). is_lame w.end) (sym (c.pieces-2.view_is ∙ walk))
      ∙ ends_fine c.pieces-2.inside.end c.in-Found.is in
      decides_by c.accept.result _ _ _ (c.accept.ensures.decides (end_of c.pieces-2.inside.end)
      (ends_there c.pieces-2.inside.end c.in-Found.is)
      (record { message = c.args.message.now; read = c.requires.read; is = c.pieces-2.view_is ∙ walk }))
      (λ rooms. ap (λ (w : Walk). row_of_acceptance c.args.start.now rooms c.args.ask.now w) (c.pieces-2.view_is ∙ walk)
      ∙ sym (accepted_row c.args.start.now.config c.args.start.now.moment c.args.start.now.words rooms c.args.ask.now
      c.args.start.now.state _ fine));
}
