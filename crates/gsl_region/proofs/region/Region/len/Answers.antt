use Rattle.std.proofs.Common.{ap, arith, length}
use Rattle.gsl_region.proofs.Bytes.{words_length}
use Rattle.gsl_region.proofs.region.Region.len.Goals as goal

pub returns : goal.returns
returns c = omega (arith, ap length c.self.view_is, words_length c.self.inside.bytes.items, c.len.ensures, c.self.inside.bytes.ok)
