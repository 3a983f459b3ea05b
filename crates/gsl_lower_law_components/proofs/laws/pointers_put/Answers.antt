use Rattle.gsl_lower_law_components.proofs.Served.{pointer_puts}
use Rattle.gsl_lower_law_components.proofs.laws.pointers_put.Goals as goal

pub returns : goal.returns
returns c = λ m input whole id class shape parts p by words from variable offset pointee component bytes v state before stands each leads no_push there vector holds is picks fits few. pointer_puts m input whole id class parts p by words from variable offset pointee component bytes v state before stands each leads no_push there vector holds is picks fits few shape
