use Rattle.gsl_base.specs.declared.stage.Stage.TheVariants.{Compute}
use Rattle.gsl_rows.proofs.Formed.{formed}
use Rattle.gsl_rows.proofs.sides.program.Goals as goal

pub returns-in-Ok : goal.returns-in-Ok
returns-in-Ok c = formed _ c.read_unit.result (c.read_unit.ensures.found Compute)
