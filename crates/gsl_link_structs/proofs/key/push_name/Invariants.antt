use Rattle.std.proofs.Common.{◌≡◌, ◌++◌, take}
use Rattle.gsl_link_structs.proofs.key.push_name.Given as goal

abbrev pub invariant-loop-k : goal.invariant-loop-k
invariant-loop-k l = l.words ≡ l.initial.words ++ take l.k l.name
