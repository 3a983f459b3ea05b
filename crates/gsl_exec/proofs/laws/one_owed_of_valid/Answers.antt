use Rattle.std.specs.Prelude.{Ok, None}
use Rattle.gsl_exec.proofs.Keeping.{some_taken}
use Rattle.gsl_exec.proofs.Readings.{read_each}
use Rattle.gsl_exec.proofs.Unique.{one_taken}
use Rattle.gsl_exec.proofs.laws.one_owed_of_valid.Goals as goal

pub returns-clause-some : goal.returns-clause-some
returns-clause-some c = λ m valid files text targets. some_taken (read_each c.one_reading.ensures.some) c.valid_modules_are_never_stuck.ensures files text targets m valid

pub returns-clause-one : goal.returns-clause-one
returns-clause-one c = λ m files text targets a b.
    one_taken c.one_reading.ensures.one c.one_reading.ensures.one_break c.one_reading.ensures.never_both files a b text targets (Ok m) None
