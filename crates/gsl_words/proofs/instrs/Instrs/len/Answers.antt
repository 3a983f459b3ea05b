use Rattle.std.proofs.Common.{arith, ap, length}
use Rattle.gsl_words.proofs.Flattened.{length-parts}
use Rattle.gsl_words.proofs.instrs.Instrs.len.Goals as goal

pub returns : goal.returns
returns c = omega (arith, ap length c.self.view_is, length-parts c.self.inside.words.items c.self.inside.starts.items)
