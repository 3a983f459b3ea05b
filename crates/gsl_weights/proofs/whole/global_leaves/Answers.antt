use Rattle.std.proofs.Common.{◌∙◌, refl, arith}
use Rattle.gsl_weights.proofs.Totals.{leaves_of_variables}
use Rattle.gsl_weights.proofs.whole.global_leaves.Goals as goal

pub returns : goal.returns
returns c = c.added.ensures ∙ omega (arith, leaves_of_variables c.args.structs.now _ _ c.args.globals.now _ c.variables_leaves-all.ensures refl)
