use Rattle.gsl_reference.proofs.Keeping.{some_job}
use Rattle.gsl_reference.proofs.Readings.{read_each}
use Rattle.gsl_reference.proofs.Unique.{one_asked}
use Rattle.gsl_reference.proofs.laws.one_job.Goals as goal

pub returns-clause-some : goal.returns-clause-some
returns-clause-some c = λ asked files. let its = some_job (read_each c.one_reading.ensures.some) asked files in (its.0, its.1)

pub returns-clause-one : goal.returns-clause-one
returns-clause-one c = one_asked c.one_reading.ensures.one c.one_reading.ensures.one_break c.one_reading.ensures.never_both
