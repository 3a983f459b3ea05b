use Rattle.std.proofs.Common.{ap, ◌∙◌, Some}
use Rattle.gsl_words.specs.declared.module.Module.{Module}
use Rattle.gsl_decorations.specs.Firsts.{first_from}
use Rattle.gsl_valid.specs.Instruction.{read}
use Rattle.gsl_valid.specs.DecorationRules.{is_bound_to}
use Rattle.gsl_valid_blocks.proofs.variables.Variables.first_bound.Goals as goal

pub returns : goal.returns
returns c =
    c.copied.ensures ∙ c.get.ensures.value ∙ c.self.invariant.2 (c.args.set, c.args.binding)
    ∙ ap (λ (m : Module). first_from (λ i. is_bound_to m (Some c.args.set) (Some c.args.binding) (read i)) 0 m.instrs) c.self.view_is
