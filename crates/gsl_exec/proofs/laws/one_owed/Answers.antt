use Rattle.std.specs.FinMap.{get}
use Rattle.gsl_exec.specs.declared.reading.TheConstants.{MAX_MODULE_BYTES}
use Rattle.gsl_exec.specs.Owed.{read_of}
use Rattle.gsl_exec.proofs.Keeping.{some_owed}
use Rattle.gsl_exec.proofs.Readings.{read_each}
use Rattle.gsl_exec.proofs.Unique.{one_read}
use Rattle.gsl_exec.proofs.laws.one_owed.Goals as goal

pub returns-clause-some : goal.returns-clause-some
returns-clause-some c = λ name inputs files. let its = some_owed (read_each c.one_reading.ensures.some) c.valid_modules_are_never_stuck.ensures files name inputs in (its.0, its.1)

pub returns-clause-one : goal.returns-clause-one
returns-clause-one c = λ name inputs files a b.
    one_read c.one_reading.ensures.one c.one_reading.ensures.one_break c.one_reading.ensures.never_both files a b name inputs (read_of MAX_MODULE_BYTES (get files name))
