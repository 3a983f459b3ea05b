use Rattle.std.proofs.Common.{◌≡◌, take}
use Rattle.gsl_link_numbers.proofs.heads.copied_params.Given as goal

abbrev pub invariant-loop-k : goal.invariant-loop-k
invariant-loop-k l = l.all ≡ take l.k l.params
