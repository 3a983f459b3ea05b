use Rattle.std.proofs.Common.{◌≡◌, take}
use Rattle.gsl_valid.specs.Placed.{header_size, words_from}
use Rattle.gsl_positions.proofs.positions.place_at.Given as goal

abbrev pub invariant-loop-k : goal.invariant-loop-k
invariant-loop-k l = l.place ≡ words_from header_size (take l.k l.of.instrs)
