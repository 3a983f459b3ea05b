use Rattle.std.proofs.Common.{ap, sym, ◌∙◌, min, ◌*◌}
use Rattle.gsl_types.specs.Leaves.{told_leaves, leaves_of}
use Rattle.gsl_types.proofs.Counts.{told_product, array_leaves}
use Rattle.gsl_weights.proofs.leaves.+leaves.Goals as goal

pub returns-in-Array : goal.returns-in-Array
returns-in-Array t c =
    let structs = c.args.structs.now in
    let e = c.in-Array.element in
    let n = c.in-Array.count in
    let each = c.leaves-each.ensures ∙ ap (told_leaves structs) c.get.ensures in
    c.min.ensures ∙ ap (λ x. min x 1099511627776) (c.saturating_mul.ensures ∙ ap (λ x. min (x * n) 18446744073709551615) each)
    ∙ told_product (leaves_of structs e) n ∙ ap (λ x. min x 1099511627776) (sym (array_leaves structs e n)) ∙ sym (ap (told_leaves structs) c.in-Array.is)
