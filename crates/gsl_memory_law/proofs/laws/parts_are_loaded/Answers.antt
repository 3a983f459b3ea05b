use Rattle.gsl_sound_code.proofs.Looks.{kept}
use Rattle.gsl_memory_law.proofs.Typed.{loaded, part_shaped, room}
use Rattle.gsl_memory_law.proofs.laws.parts_are_loaded.Goals as goal

pub returns-clause-within : goal.returns-clause-within
returns-clause-within c m words types path variables number type part valid shows have is leads = room m (kept m valid) types path variables number type part have is leads words shows

pub returns-clause-words : goal.returns-clause-words
returns-clause-words c m words types path variables number type part v valid shows have is leads e = (loaded m (kept m valid) types path variables number type part have is leads words v shows e).1

pub returns-clause-shape : goal.returns-clause-shape
returns-clause-shape c m types path variables number type part v valid have is leads e = part_shaped m (kept m valid) types path variables number type part have is leads v e
