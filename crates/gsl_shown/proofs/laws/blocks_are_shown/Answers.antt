use Rattle.gsl_shown.proofs.Passing.{label_shown}
use Rattle.gsl_shown.proofs.laws.blocks_are_shown.Goals as goal

pub returns : goal.returns
returns c m f callers slots words buffers choices state p more shows comes is = label_shown m f callers slots words buffers choices state shows p more comes is
