use Rattle.std.specs.Prelude.{length}
use Rattle.gsl_check_expr.specs.Initialisers.{value_as}
use Rattle.gsl_check_law.specs.Parts.{IsTaken}
use Rattle.gsl_check_law.proofs.Rows.{given}
use Rattle.gsl_check_law.proofs.Building.{sound_parts}
use Rattle.gsl_check_law.proofs.Lists.{value_typed}
use Rattle.gsl_check_law.proofs.laws.initialisers_are_well_typed.Goals as goal

pub returns : goal.returns
returns c env init t x fine formed known is = given (IsTaken env.scene) (value_as env init t) x (value_typed env fine init formed t (sound_parts (length env.scene.structs) t known)) is
