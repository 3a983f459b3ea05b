use Rattle.gsl_manifest.proofs.Whole.{read_back}
use Rattle.gsl_manifest.proofs.Written.{written}
use Rattle.gsl_manifest.proofs.laws.written_and_read.Goals as goal

pub returns-clause-whole : goal.returns-clause-whole
returns-clause-whole c = read_back

pub returns-clause-lines : goal.returns-clause-lines
returns-clause-lines c = written
