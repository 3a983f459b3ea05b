use Rattle.std.proofs.Common.{length}
use Rattle.gsl_cmd.proofs.command.+read_sources.Given as goal

abbrev pub decreases-read_sources : goal.decreases-read_sources
decreases-read_sources g l = length l.files.now
