use Rattle.std.proofs.Common.{arith, ap, ◌∙◌}
use Rattle.gsl_meaning.specs.Accesses.{put_each}
use Rattle.gsl_store.proofs.Paths.{put_end}
use Rattle.gsl_store.proofs.putting.put_each.Goals as goal

pub returns : goal.returns
returns c = c.from_vec.ensures ∙ put_end c.args.positions.now c.args.words.now _ _ c.loop-k.k (omega arith) c.loop-k.invariant ∙ ap (put_each c.args.positions.now c.args.words.now) c.into_vec-all.ensures
