use Rattle.gsl_sound_code.proofs.Looks.{kept}
use Rattle.gsl_memory_law.proofs.Typed.{stored, stored_typed}
use Rattle.gsl_memory_law.proofs.laws.parts_are_stored.Goals as goal

pub returns-clause-words : goal.returns-clause-words
returns-clause-words c m words types path variables number type part v new valid shows have is leads e shaped = stored m (kept m valid) types path variables number type part have is leads words v new shows e shaped

pub returns-clause-shapes : goal.returns-clause-shapes
returns-clause-shapes c m types path variables number type part v new valid have is leads e shaped = stored_typed m (kept m valid) types path variables number type part have is leads v new e shaped
