use Rattle.gsl_sound_code.proofs.Looks.{kept}
use Rattle.gsl_shown_variables.proofs.Outer.{outer_stand}
use Rattle.gsl_shown_variables.proofs.Own.{own_stand}
use Rattle.gsl_shown_variables.proofs.laws.variables_stand_in_order.Goals as goal

pub returns-clause-outer : goal.returns-clause-outer
returns-clause-outer c m more number v valid is = outer_stand m (kept m valid) more number v is

pub returns-clause-own : goal.returns-clause-own
returns-clause-own c m input f callers slots words buffers choices state number v valid good shows is = own_stand m (kept m valid) input f callers slots words buffers choices state number v good shows is
