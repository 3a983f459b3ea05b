use Rattle.gsl_shown_calls.proofs.Returned.{return_shown}
use Rattle.gsl_shown_calls.proofs.laws.returns_are_shown.Goals as goal

pub returns : goal.returns
returns c m f g callers slots words buffers choices state call calls shows waits = return_shown m f g callers slots words buffers choices state call calls waits shows
