use Rattle.std.proofs.Common.{◌≡◌, drop}
use Rattle.gsl_lower_types.specs.Blocks as spec
use Rattle.gsl_lower_types.specs.Known.{with_front}
use Rattle.gsl_lower_types.proofs.blocks.blocks_put.Given as goal

abbrev pub invariant-loop-k : goal.invariant-loop-k
invariant-loop-k l = with_front l.ids (spec.blocks_put l.target l.structs (drop l.k l.blocks) l.laid l.b) ≡ spec.blocks_put l.target l.structs l.blocks l.initial.laid l.initial.b
