use Rattle.std.proofs.Common.{◌≡◌, drop, []}
use Rattle.gsl_types.specs.Structs.{table_from}
use Rattle.gsl_shapes.specs.Shaping.{shaping}
use Rattle.gsl_shapes.proofs.shapes.table_of.Given as goal

abbrev pub invariant-loop-k : goal.invariant-loop-k
invariant-loop-k l = table_from shaping l.all (drop l.k l.structs) ≡ table_from shaping [] l.structs
