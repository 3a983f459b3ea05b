use Rattle.std.proofs.Common.{ap, sym, ◌∙◌}
use Rattle.std.specs.Prelude.{reverse}
use Rattle.std.proofs.lemmas.List.{reverse-reverse}
use Rattle.gsl_blocks.proofs.stack.Stack.is_empty.Goals as goal

pub returns : goal.returns
returns c = (λ t. sym c.self.view_is ∙ ap reverse (c.is_empty.ensures.0 t), λ e. c.is_empty.ensures.1 (sym (reverse-reverse _) ∙ ap reverse (c.self.view_is ∙ e)))
