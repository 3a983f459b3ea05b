use Rattle.gsl_shown_memory.proofs.Passed.{passed}
use Rattle.gsl_shown_memory.proofs.laws.writes_are_shown.Goals as goal

pub returns : goal.returns
returns c m f callers slots words buffers later choices state p more shows comes is = passed m f callers slots words buffers choices state shows p more comes is words state.variables later shows.variables
