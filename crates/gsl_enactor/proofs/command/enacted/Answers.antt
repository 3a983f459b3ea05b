use Rattle.std.proofs.Common.{◌^◌, ◌<◌, length, subst, sym}
use Rattle.gsl_validate.proofs.Steps.{few}
use Rattle.gsl_enactor.proofs.command.enacted.Goals as goal

pub enact-requires-clause-few : goal.enact-requires-clause-few
enact-requires-clause-few c = subst (λ m. length m.instrs < 2 ^ 32) (sym c.module.ensures.is) (few c.args.valid.now c.module.ensures.words)
