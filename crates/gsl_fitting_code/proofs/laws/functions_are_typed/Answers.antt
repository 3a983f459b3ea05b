use Rattle.gsl_fitting_code.proofs.Typed.{typed_passes, memory_passes, returns_pass, extended_passes}
use Rattle.gsl_fitting_code.proofs.Walk.{functions_pass}
use Rattle.gsl_fitting_code.proofs.laws.functions_are_typed.Goals as goal

pub returns-clause-operands : goal.returns-clause-operands
returns-clause-operands c = λ m rank front functions stands. functions_pass stands _ (typed_passes m rank)

pub returns-clause-memory : goal.returns-clause-memory
returns-clause-memory c = λ m rank front functions stands. functions_pass stands _ (memory_passes m rank)

pub returns-clause-returns : goal.returns-clause-returns
returns-clause-returns c = λ m rank front functions stands. functions_pass stands _ (returns_pass m rank)

pub returns-clause-extension : goal.returns-clause-extension
returns-clause-extension c = λ m rank front functions stands. functions_pass stands _ (extended_passes m rank)
