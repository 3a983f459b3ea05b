use Rattle.std.proofs.Common.{◌≡◌, drop}
use Rattle.gsl_meaning.specs.Accesses.{put_each}
use Rattle.gsl_store.proofs.putting.put_each.Given as goal

abbrev pub invariant-loop-k : goal.invariant-loop-k
invariant-loop-k l = put_each (drop l.k l.positions) (drop l.k l.words) l.all.items ≡ put_each l.positions l.words l.initial.all.items
