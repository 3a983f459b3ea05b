use Rattle.gsl_sound_code.proofs.Looks.{kept}
use Rattle.gsl_sound_values.proofs.Counted.{lanes_there}
use Rattle.gsl_sound_values.proofs.Parts.{component_shaped, read_shaped, within_shaped}
use Rattle.gsl_sound_values.proofs.laws.parts_have_their_shapes.Goals as goal

pub returns-clause-leads : goal.returns-clause-leads
returns-clause-leads c m type part path v valid is shaped = (within_shaped m (kept m valid) type path part v v is shaped).0

pub returns-clause-puts : goal.returns-clause-puts
returns-clause-puts c m type part path v new valid is shaped passes = (within_shaped m (kept m valid) type path part v new is shaped).1 passes

pub returns-clause-picks : goal.returns-clause-picks
returns-clause-picks c m type vector index v component valid is shaped here = component_shaped m (kept m valid) type vector index v component is shaped here

pub returns-clause-reads : goal.returns-clause-reads
returns-clause-reads c m test type offset bytes valid lanes = read_shaped m (kept m valid) type offset bytes (lanes_there m test type lanes)
