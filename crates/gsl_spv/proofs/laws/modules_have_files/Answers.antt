use Rattle.gsl_spv.proofs.Filing.{module_has_file, plain_fits, function_fits, array_fits, runtime_fits, struct_fits, constant_fits, composite_fits, variable_fits, decoration_fits, name_fits, import_fits}
use Rattle.gsl_spv.proofs.laws.modules_have_files.Goals as goal

pub returns-clause-finish : goal.returns-clause-finish
returns-clause-finish c = module_has_file

pub returns-clause-plain_type : goal.returns-clause-plain_type
returns-clause-plain_type c = plain_fits

pub returns-clause-function_type : goal.returns-clause-function_type
returns-clause-function_type c = function_fits

pub returns-clause-array_type : goal.returns-clause-array_type
returns-clause-array_type c = array_fits

pub returns-clause-runtime_type : goal.returns-clause-runtime_type
returns-clause-runtime_type c = runtime_fits

pub returns-clause-struct_type : goal.returns-clause-struct_type
returns-clause-struct_type c = struct_fits

pub returns-clause-constant : goal.returns-clause-constant
returns-clause-constant c = constant_fits

pub returns-clause-composite : goal.returns-clause-composite
returns-clause-composite c = composite_fits

pub returns-clause-global : goal.returns-clause-global
returns-clause-global c = variable_fits

pub returns-clause-decorate : goal.returns-clause-decorate
returns-clause-decorate c = decoration_fits

pub returns-clause-name : goal.returns-clause-name
returns-clause-name c = name_fits

pub returns-clause-glsl_set : goal.returns-clause-glsl_set
returns-clause-glsl_set c = import_fits
