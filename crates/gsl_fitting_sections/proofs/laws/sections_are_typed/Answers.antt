use Rattle.gsl_fitting_sections.proofs.Kept.{extended_none, memory_none, operands_none, returns_none}
use Rattle.gsl_fitting_sections.proofs.laws.sections_are_typed.Goals as goal

pub returns-clause-operands : goal.returns-clause-operands
returns-clause-operands c = operands_none

pub returns-clause-memory : goal.returns-clause-memory
returns-clause-memory c = memory_none

pub returns-clause-given : goal.returns-clause-given
returns-clause-given c = returns_none

pub returns-clause-extension : goal.returns-clause-extension
returns-clause-extension c = extended_none
