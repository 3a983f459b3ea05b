use Rattle.std.proofs.Common.{◌∙◌, arith}
use Rattle.gsl_weights.proofs.Totals.{of_block_members}
use Rattle.gsl_weights.proofs.declarations.block_weighed.Goals as goal

pub returns : goal.returns
returns c = c.added-2.ensures ∙ omega (arith, c.added.ensures, of_block_members _ _ c.args.block.now.members _ c.block_members_weighed-all.ensures c.as_slice.ensures)
