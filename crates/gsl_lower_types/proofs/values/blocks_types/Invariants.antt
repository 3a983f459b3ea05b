use Rattle.std.proofs.Common.{◌≡◌, drop}
use Rattle.gsl_lower_types.specs.Known.{all}
use Rattle.gsl_lower_types.specs.Values.{block_types}
use Rattle.gsl_lower_types.proofs.values.blocks_types.Given as goal

abbrev pub invariant-loop-k : goal.invariant-loop-k
invariant-loop-k l = all block_types (drop l.k l.blocks) l.known l.b ≡ all block_types l.blocks l.initial.known l.initial.b
