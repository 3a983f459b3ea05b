use Rattle.gsl_cmd.proofs.AllJobs.{one_job_of, some_job}
use Rattle.gsl_cmd.proofs.laws.one_job.Goals as goal

pub returns : goal.returns
returns c = record { some = some_job c.one_owed.ensures.some c.one_owed_of_valid.ensures.some; one = one_job_of c.one_owed.ensures.one c.one_owed_of_valid.ensures.one }
