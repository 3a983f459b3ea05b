use Rattle.gsl_instr.proofs.form.form_of.Goals as goal
use Rattle.gsl_instr.proofs.Forms.{none_there, found_there}

pub returns-then-row-eq0 : goal.returns-then-row-eq0
returns-then-row-eq0 c = none_there _ _ c.row_of-row.ensures.is c.if-row-eq0.true

pub returns : goal.returns
returns c = found_there _ _ c.row_of-row.ensures.is c.if-row-eq0.false
