use Rattle.std.proofs.Common.{◌≡◌}
use Rattle.std.specs.Prelude.{vec_len}
use Rattle.gsl_kinds.specs.Runtimes.{front}
use Rattle.gsl_constants.specs.Rows.{Tells}
use Rattle.gsl_constants.proofs.constants.rows_of.Given as goal

abbrev pub invariant-loop-at : goal.invariant-loop-at
invariant-loop-at l = (vec_len l.rows.firsts ≡ l.leaves.bound) × (vec_len l.rows.counts ≡ l.leaves.bound) × Tells l.rows.words.items l.rows.firsts.items l.rows.counts.items l.leaves (front l.leaves l.at)
