use Rattle.std.proofs.Common.{◌≡◌, drop}
use Rattle.gsl_link_names.specs.Against as spec
use Rattle.gsl_link_names.proofs.adding.add_blocks.Given as goal

abbrev pub invariant-loop-k : goal.invariant-loop-k
invariant-loop-k l = spec.with_blocks l.structs l.rows.entries (drop l.k l.blocks) ≡ spec.with_blocks l.structs l.initial.rows.entries l.blocks
