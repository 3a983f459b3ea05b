use Rattle.std.proofs.Common.{arith, sym}
use Rattle.gsl_lower_traits.specs.Traits.{together_of}
use Rattle.gsl_lower_traits.proofs.Known.{all_of, more}
use Rattle.gsl_lower_traits.proofs.traits.+traits.Goals as goal

pub together-loop-k-preserved : goal.together-loop-k-preserved
together-loop-k-preserved t c = more c.loop-k.all c.with-all.result c.args.es.now c.loop-k.k c.index.result.now (together_of c.args.es.now) c.index.ensures (rw (sym c.in_ok-traits_of.ensures) c.with-all.ensures) c.loop-k.invariant

pub together-returns : goal.together-returns
together-returns t c = all_of c.loop-k.all c.args.es.now c.loop-k.k (together_of c.args.es.now) (omega (arith, c.loop-k-test.false, c.len-k-end.ensures)) c.loop-k.invariant
