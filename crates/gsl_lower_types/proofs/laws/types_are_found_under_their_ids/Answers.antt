use Rattle.gsl_lower_types.proofs.Exact.{array_under_its_id, exact_struct}
use Rattle.gsl_lower_types.proofs.laws.types_are_found_under_their_ids.Goals as goal

pub returns-clause-array : goal.returns-clause-array
returns-clause-array c = λ e n known then_known id before after made. array_under_its_id e n known before (id, then_known) after made

pub returns-clause-struct_type : goal.returns-clause-struct_type
returns-clause-struct_type c = λ k known then_known id before after made. (exact_struct k known before (id, then_known) after made).0
