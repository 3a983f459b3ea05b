use Rattle.std.proofs.Common.{◌∙◌, sym, ap, arith, ◌<◌, length}
use Rattle.std.proofs.lemmas.Option.{get_or_from_slice_get}
use Rattle.gsl_values.specs.Choices.{drawn, undrawn}
use Rattle.gsl_values.proofs.Draws.{drawn-drop, undrawn-drop}
use Rattle.gsl_values.proofs.choices.Choices.next.Goals as goal

pub returns-then-self-len-clause-word : goal.returns-then-self-len-clause-word
returns-then-self-len-clause-word c =
    let within : c.self.inside.drawn < length c.self.inside.list = omega arith in
    sym (get_or_from_slice_get c.self.inside.list c.self.inside.drawn c.index-word.result.now 0 c.index-word.ensures) ∙ sym (drawn-drop c.self.inside.list c.self.inside.drawn within) ∙ ap drawn c.self.view_is

pub returns-then-self-len-clause-left : goal.returns-then-self-len-clause-left
returns-then-self-len-clause-left c =
    let within : c.self.inside.drawn < length c.self.inside.list = omega arith in
    sym (undrawn-drop c.self.inside.list c.self.inside.drawn within) ∙ ap undrawn c.self.view_is
