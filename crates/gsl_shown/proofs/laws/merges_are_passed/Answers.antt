use Rattle.gsl_shown.proofs.Passing.{merge_shown}
use Rattle.gsl_shown.proofs.laws.merges_are_passed.Goals as goal

pub returns : goal.returns
returns c m f callers slots words buffers choices state p more shows comes is = merge_shown m f callers slots words buffers choices state shows p more comes is
