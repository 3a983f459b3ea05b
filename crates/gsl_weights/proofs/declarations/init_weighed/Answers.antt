use Rattle.std.proofs.Common.{ap, sym, ◌+◌, ◌∙◌}
use Rattle.gsl_tree.specs.Weights as weights
use Rattle.gsl_weights.specs.Telling.{up_to}
use Rattle.gsl_weights.proofs.Steps.{read_is}
use Rattle.gsl_weights.proofs.declarations.init_weighed.Goals as goal

pub returns-in-Some : goal.returns-in-Some
returns-in-Some c =
    let structs = c.args.structs.now in
    let ty = c.args.ty.now in
    c.added.ensures
    ∙ read_is structs c.args.so_far c.in-Some.e c.read_weighed-read.result ty c.few_leaves.result c.read_weighed-read.ensures c.few_leaves.ensures
    ∙ sym (ap (λ i. up_to (c.args.so_far + weights.init_weight structs ty i)) c.in-Some.is)
