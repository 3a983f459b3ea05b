use Rattle.gsl_sound_code.proofs.Looks.{kept}
use Rattle.gsl_step.proofs.Operands.{below_bound, operand_stands}
use Rattle.gsl_step.proofs.laws.operands_stand_in_slots.Goals as goal

pub returns-clause-bound : goal.returns-clause-bound
returns-clause-bound c m id type valid known = below_bound m (kept m valid) id type known

pub returns-clause-words : goal.returns-clause-words
returns-clause-words c m input machine state id type v valid typed shown known is = (operand_stands m (kept m valid) input machine state typed shown id type v known is).is
