use Rattle.std.proofs.Common.{◌≡◌, ◌++◌, take}
use Rattle.std.specs.List.{flat_map}
use Rattle.gsl_constants.specs.Rows.{row}
use Rattle.gsl_constants.proofs.putting.put_parts.Given as goal

abbrev pub invariant-loop-k : goal.invariant-loop-k
invariant-loop-k l = l.words.items ≡ l.initial.words.items ++ flat_map (row l.initial.words.items l.firsts.items l.counts.items) (take l.k l.parts)
