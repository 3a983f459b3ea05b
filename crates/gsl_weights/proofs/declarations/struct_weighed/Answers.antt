use Rattle.std.proofs.Common.{◌∙◌, arith}
use Rattle.gsl_weights.proofs.Totals.{of_members}
use Rattle.gsl_weights.proofs.declarations.struct_weighed.Goals as goal

pub returns : goal.returns
returns c = c.added.ensures ∙ omega (arith, of_members _ _ c.args.s.now.members _ c.members_weighed-all.ensures c.as_slice.ensures)
