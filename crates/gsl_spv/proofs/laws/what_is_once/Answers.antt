use Rattle.gsl_spv.proofs.Answering.{plain_once, function_once, constant_once, composite_once}
use Rattle.gsl_spv.proofs.laws.what_is_once.Goals as goal

pub returns-clause-plain_type : goal.returns-clause-plain_type
returns-clause-plain_type c = plain_once

pub returns-clause-function_type : goal.returns-clause-function_type
returns-clause-function_type c = function_once

pub returns-clause-constant : goal.returns-clause-constant
returns-clause-constant c = constant_once

pub returns-clause-composite : goal.returns-clause-composite
returns-clause-composite c = composite_once
