use Rattle.std.proofs.Common.{ap, ◌∙◌}
use Rattle.gsl_decorations.specs.Firsts.{is_below}
use Rattle.gsl_decorations.proofs.Fronts.{in_front_of_all}
use Rattle.gsl_valid.specs.Instruction.{read}
use Rattle.gsl_valid.specs.Types.{variable_of}
use Rattle.gsl_valid_blocks.proofs.variables.Variables.has_class_in.Goals as goal

pub returns : goal.returns
returns c =
    c.is_below.ensures ∙ ap (is_below c.args.count) c.first_of_class.ensures
    ∙ in_front_of_all (λ i. variable_of c.args.class (read i)) c.args.count c.args.self.now.instrs
