use Rattle.gsl_lower_types.proofs.Standing.{arrays_stride, runtimes_stride}
use Rattle.gsl_lower_types.proofs.laws.elements_stand_where_they_lie.Goals as goal

pub returns-clause-array : goal.returns-clause-array
returns-clause-array c = arrays_stride

pub returns-clause-runtime : goal.returns-clause-runtime
returns-clause-runtime c = runtimes_stride
