use Rattle.gsl_valid.specs.Kinds.{shape_of}
use Rattle.gsl_valid.specs.Types.{defined_as}
use Rattle.gsl_sound_code.proofs.Looks.{kept}
use Rattle.gsl_leaves_law.proofs.Parts.{part_there, parts_counted, path_stands, unfolded, within_words}
use Rattle.gsl_leaves_law.proofs.laws.parts_stand_by_types.Goals as goal

pub returns-clause-counts : goal.returns-clause-counts
returns-clause-counts c m type v valid is = parts_counted m (shape_of (defined_as m type)) v (unfolded m (kept m valid) type v is)

pub returns-clause-types : goal.returns-clause-types
returns-clause-types c m type number below = part_there m (shape_of (defined_as m type)) number below

pub returns-clause-leads : goal.returns-clause-leads
returns-clause-leads c m type part path v valid is shaped = (path_stands m (kept m valid) type path part v is shaped).leads

pub returns-clause-front : goal.returns-clause-front
returns-clause-front c m type part path v valid is shaped = (path_stands m (kept m valid) type path part v is shaped).front

pub returns-clause-within : goal.returns-clause-within
returns-clause-within c m type part path v valid is shaped = within_words m (kept m valid) type path part v is shaped
