use Rattle.gsl_spv.proofs.Answering.{plain_defined, function_defined, array_defined, runtime_defined, struct_defined, constant_defined, composite_defined, global_defined}
use Rattle.gsl_spv.proofs.laws.answers_are_defined.Goals as goal

pub returns-clause-plain_type : goal.returns-clause-plain_type
returns-clause-plain_type c = plain_defined

pub returns-clause-function_type : goal.returns-clause-function_type
returns-clause-function_type c = function_defined

pub returns-clause-array_type : goal.returns-clause-array_type
returns-clause-array_type c = array_defined

pub returns-clause-runtime_type : goal.returns-clause-runtime_type
returns-clause-runtime_type c = runtime_defined

pub returns-clause-struct_type : goal.returns-clause-struct_type
returns-clause-struct_type c = struct_defined

pub returns-clause-constant : goal.returns-clause-constant
returns-clause-constant c = constant_defined

pub returns-clause-composite : goal.returns-clause-composite
returns-clause-composite c = composite_defined

pub returns-clause-global : goal.returns-clause-global
returns-clause-global c = global_defined
