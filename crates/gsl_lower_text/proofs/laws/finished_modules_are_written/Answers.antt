use Rattle.gsl_lower_text.proofs.Finishes.{finished_written}
use Rattle.gsl_lower_text.proofs.laws.finished_modules_are_written.Goals as goal

pub returns : goal.returns
returns c = λ s main local_size. finished_written s main local_size
