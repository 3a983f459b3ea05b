use Rattle.std.proofs.Common.{◌<◌, ◌^◌, subst, sym}
use Rattle.gsl_words.specs.declared.module.Module.{Module}
use Rattle.gsl_valid.specs.Placed.{count_of_words}
use Rattle.gsl_valid.specs.Valid.{Valid}
use Rattle.gsl_cmd.proofs.Compiled.{words_fit}
use Rattle.gsl_cmd.proofs.ValidModule.{module_valid}
use Rattle.gsl_cmd.proofs.compiling.valid_of.Goals as goal

pub from_proved-requires-clause-valid : goal.from_proved-requires-clause-valid
from_proved-requires-clause-valid c = subst Valid (sym c.in_ok-module.ensures) (module_valid c.args.program.now c.requires)

pub from_proved-requires-clause-words : goal.from_proved-requires-clause-words
from_proved-requires-clause-words c = subst (λ (m : Module). count_of_words m < 2 ^ 32) (sym c.in_ok-module.ensures) (words_fit c.args.program.now c.requires)
