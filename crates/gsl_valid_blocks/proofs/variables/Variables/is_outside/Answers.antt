use Rattle.std.proofs.Common.{ap, ◌∙◌}
use Rattle.gsl_words.specs.declared.module.Module.{Module}
use Rattle.gsl_ids.specs.Table.{is_defined_in}
use Rattle.gsl_valid.specs.Ids.{defined}
use Rattle.gsl_valid.specs.Types.{outside_of}
use Rattle.gsl_valid_blocks.proofs.Fronts.{defined_in}
use Rattle.gsl_valid_blocks.proofs.variables.Variables.is_outside.Goals as goal

pub returns : goal.returns
returns c =
    c.is_defined_in.ensures ∙ ap (λ (m : Module). is_defined_in m c.self.inside.outside c.args.id) c.definitions.ensures
    ∙ defined_in c.self.inside.decorations.now c.self.inside.outside c.args.id
    ∙ ap (λ code. defined code c.args.id) c.self.invariant.0 ∙ ap (λ (m : Module). defined (outside_of m) c.args.id) c.self.view_is
