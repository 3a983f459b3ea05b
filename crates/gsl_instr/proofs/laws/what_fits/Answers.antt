use Rattle.gsl_instr.proofs.Fittings.{passed, passes}
use Rattle.gsl_instr.proofs.laws.what_fits.Goals as goal

pub returns : goal.returns
returns c = λ op form args fit found short. (λ p. passed op form args fit found short p, λ fits. passes op form args found fits)
