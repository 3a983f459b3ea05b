use Rattle.std.proofs.Common.{ap, ◌∙◌, Some}
use Rattle.gsl_words.specs.declared.module.Module.{Module}
use Rattle.gsl_decorations.specs.Firsts.{first_from}
use Rattle.gsl_valid.specs.Instruction.{read}
use Rattle.gsl_valid.specs.DecorationRules.{is_bound_to}
use Rattle.gsl_valid_blocks.proofs.variables.bindings_of.Goals as goal

pub returns : goal.returns
returns c = λ binding.
    c.in_ok-rows.ensures binding
    ∙ ap (λ (m : Module). first_from (λ i. is_bound_to c.args.decorations.now (Some binding.0) (Some binding.1) (read i)) 0 m.instrs) (c.module.ensures ∙ c.definitions.ensures)
