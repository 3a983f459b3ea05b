use Rattle.gsl_sound_code.proofs.Looks.{kept}
use Rattle.gsl_memory_law.proofs.Typed.{place_typed, words_typed}
use Rattle.gsl_memory_law.proofs.laws.variables_stand_by_types.Goals as goal

pub returns-clause-all : goal.returns-clause-all
returns-clause-all c = words_typed

pub returns-clause-parts : goal.returns-clause-parts
returns-clause-parts c m types path variables number type part valid have is leads = place_typed m (kept m valid) types path variables number type part have is leads
