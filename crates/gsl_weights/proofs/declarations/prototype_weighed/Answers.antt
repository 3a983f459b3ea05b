use Rattle.std.proofs.Common.{◌∙◌, arith}
use Rattle.gsl_weights.proofs.Totals.{of_params}
use Rattle.gsl_weights.proofs.declarations.prototype_weighed.Goals as goal

pub returns : goal.returns
returns c = c.added-2.ensures ∙ omega (arith, c.added.ensures, c.dimensions.ensures, of_params _ _ c.args.p.now.params _ c.params_weighed-all.ensures c.as_slice.ensures)
