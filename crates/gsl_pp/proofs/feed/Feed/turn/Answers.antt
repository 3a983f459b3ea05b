use Rattle.std.proofs.Common.{refl, sym, ◌∙◌}
use Rattle.std.proofs.lemmas.Result.{err_from_is_err_and}
use Rattle.gsl_pp.proofs.Fed.{turn_line, turn_fault, turn_text}
use Rattle.gsl_pp.proofs.feed.Feed.turn.Goals as goal

pub returns-in_err-direct-clause-turned : goal.returns-in_err-direct-clause-turned
returns-in_err-direct-clause-turned c =
    let p = err_from_is_err_and c.from_residual-in_err-direct.result c.from_residual-in_err-direct.ensures.1 in
    rw (p.1, p.2)
    (turn_fault c.args.first c.args.self.now.rest _ c.args.self.now.state _ _ _ (sym c.if-is_directive.true ∙ c.is_directive.ensures) refl (c.as_slice.ensures ∙ c.in_ok-line.ensures.front) c.in_err-direct.ensures)

pub returns-in_ok-direct-clause-turned : goal.returns-in_ok-direct-clause-turned
returns-in_ok-direct-clause-turned c =
    turn_line c.args.first c.args.self.now.rest _ _ c.args.self.now.state c.direct.new.state _ _ (sym c.if-is_directive.true ∙ c.is_directive.ensures) refl (c.as_slice.ensures ∙ c.in_ok-line.ensures.front) c.in_ok-direct.ensures c.empty.ensures
    c.in_ok-line.ensures.back

pub returns-in_ok-self-clause-turned : goal.returns-in_ok-self-clause-turned
returns-in_ok-self-clause-turned c =
    turn_text c.args.first c.args.self.now.rest _ c.in_ok-text.text c.args.self.now.state _ c.text_len-count.result (sym c.if-is_directive.false ∙ c.is_directive.ensures) c.text_len-count.ensures.value c.in_ok-text.ensures.front c.in_ok-self.ensures
    c.in_ok-text.ensures.back
