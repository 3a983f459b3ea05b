use Rattle.std.proofs.Common.{◌+◌, arith}
use Rattle.gsl_check_blocks.proofs.Flags.{last_is}
use Rattle.gsl_check_blocks.proofs.gathering.is_last.Goals as goal

pub returns : goal.returns
returns g c = last_is (c.args.k + 1) c.args.items.now (omega (arith, c.requires.within))
