use Rattle.std.proofs.Common.{arith, ap}
use Rattle.std.proofs.Common.{length}
use Rattle.gsl_words.proofs.Flattened.{length-parts}
use Rattle.gsl_words.proofs.instrs.Instrs.args.Goals as goal

pub part-part-requires-clause-within : goal.part-part-requires-clause-within
part-part-requires-clause-within c =
    omega (arith, c.requires, ap length c.self.view_is, length-parts c.self.inside.words.items c.self.inside.starts.items, ap length c.as_slice-2.ensures.value)
