use Rattle.std.proofs.Common.{◌∙◌, arith}
use Rattle.gsl_weights.proofs.Totals.{of_types, of_body}
use Rattle.gsl_weights.proofs.declarations.function_weighed.Goals as goal

pub returns : goal.returns
returns c =
    c.added-2.ensures ∙ omega (arith, c.added.ensures, of_types _ _ c.args.f.now.locals _ c.types_weighed-locals.ensures c.as_slice.ensures, of_body c.args.structs.now _ _ c.args.f.now.body c.stmts_weighed-all.ensures)
