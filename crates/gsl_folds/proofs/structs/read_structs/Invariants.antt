use Rattle.gsl_types.specs.Known.{AreStructs}
use Rattle.gsl_layout.specs.Extents.{ArePlain}
use Rattle.gsl_folds.proofs.structs.read_structs.Given as goal

abbrev pub invariant-loop-part : goal.invariant-loop-part
invariant-loop-part l = AreStructs l.structs × ArePlain l.structs
