use Rattle.gsl_sound_code.proofs.Looks.{kept}
use Rattle.gsl_operations_law.proofs.Lanes.{components_are, made_flat, made_lanes, type_lanes}
use Rattle.gsl_operations_law.proofs.laws.lanes_are_words.Goals as goal

pub returns-clause-components : goal.returns-clause-components
returns-clause-components c = components_are

pub returns-clause-words : goal.returns-clause-words
returns-clause-words c = made_flat

pub returns-clause-made : goal.returns-clause-made
returns-clause-made c = made_lanes

pub returns-clause-shaped : goal.returns-clause-shaped
returns-clause-shaped c m type lanes v valid e is = type_lanes m (kept m valid) type lanes v e is
