use Rattle.gsl_cmd.proofs.Jobs.{some_verdict}
use Rattle.gsl_cmd.proofs.Unique.{one_judged}
use Rattle.gsl_cmd.proofs.laws.one_verdict.Goals as goal

pub returns : goal.returns
returns c = record { some = some_verdict; one = one_judged }
