use Rattle.std.proofs.Common.{ap, length, arith}
use Rattle.gsl_cmd.proofs.Verdicts.{short_within}
use Rattle.gsl_cmd.proofs.compiling.typed_all.Goals as goal

pub typed-requires : goal.typed-requires
typed-requires c =
    omega (arith, short_within 0 c.args.sources.now c.loop-k.k c.index-sources-k.result c.requires.short c.loop-k-test.true c.index-sources-k.is, ap length c.as_slice.ensures)
