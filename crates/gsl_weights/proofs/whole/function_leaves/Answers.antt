use Rattle.std.proofs.Common.{◌∙◌, refl, arith}
use Rattle.std.specs.Prelude.{slice_get}
use Rattle.gsl_tree.specs.Weights.{params_of}
use Rattle.gsl_weights.proofs.Totals.{leaves_of_types, leaves_of_params}
use Rattle.gsl_weights.proofs.whole.function_leaves.Goals as goal

pub returns : goal.returns
returns c =
    let structs = c.args.structs.now in
    let heads = params_of (slice_get c.args.prototypes.now c.args.f.now.prototype) in
    let params = leaves_of_params structs 0 _ heads heads c.head_leaves-params.ensures refl in
    let locals = leaves_of_types structs _ _ c.args.f.now.locals _ c.types_leaves-all.ensures c.as_slice.ensures in
    c.added.ensures ∙ omega (arith, params, locals)
