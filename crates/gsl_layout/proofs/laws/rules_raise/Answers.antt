use Rattle.gsl_layout.specs.Raising.{std140_raises, std430_raises}
use Rattle.gsl_layout.proofs.laws.rules_raise.Goals as goal

pub returns-clause-std140 : goal.returns-clause-std140
returns-clause-std140 c = std140_raises

pub returns-clause-std430 : goal.returns-clause-std430
returns-clause-std430 c = std430_raises
