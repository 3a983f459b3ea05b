use Rattle.std.proofs.Common.{◌≡◌, drop}
use Rattle.gsl_link_names.specs.Against as spec
use Rattle.gsl_link_names.proofs.asking.ask_blocks.Given as goal

abbrev pub invariant-loop-k : goal.invariant-loop-k
invariant-loop-k l = spec.blocks_against l.structs l.rows.entries l.functions.keys l.pushes l.places (drop l.k l.blocks) ≡ spec.blocks_against l.structs l.rows.entries l.functions.keys l.pushes l.initial.places l.blocks
