use Rattle.gsl_asm.proofs.Lined.{answered}
use Rattle.gsl_asm.proofs.assembling.assemble.Goals as goal

pub returns-clause-text : goal.returns-clause-text
returns-clause-text c = answered _ c.args.text.now c.read_module.ensures.answer
