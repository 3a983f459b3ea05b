use Rattle.gsl_lower_types.proofs.Adding.{blocks_add, globals_add, interfaces_add, program_adds, value_adds}
use Rattle.gsl_lower_types.proofs.laws.types_and_variables_only_add.Goals as goal

pub returns-clause-types : goal.returns-clause-types
returns-clause-types c = λ p known then_known before after made. program_adds p known before (tt, then_known) after made

pub returns-clause-value_type : goal.returns-clause-value_type
returns-clause-value_type c = λ t known then_known id before after made. value_adds t known before (id, then_known) after made

pub returns-clause-blocks : goal.returns-clause-blocks
returns-clause-blocks c = λ target structs blocks laid then_laid ids before after made. blocks_add target structs blocks laid before (ids, then_laid) after made

pub returns-clause-interfaces : goal.returns-clause-interfaces
returns-clause-interfaces c = λ interfaces known then_known ids before after made. interfaces_add interfaces known before (ids, then_known) after made

pub returns-clause-globals : goal.returns-clause-globals
returns-clause-globals c = λ structs globals known then_known ids before after made. globals_add structs globals known before (ids, then_known) after made
