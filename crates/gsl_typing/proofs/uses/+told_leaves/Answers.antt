use Rattle.std.proofs.Common.{ap, sym, ◌∙◌, min, ◌*◌, length, subst, ◌≤◌}
use Rattle.gsl_types.specs.Leaves.{told_leaves, leaves_of}
use Rattle.gsl_types.proofs.Counts.{told_product, array_leaves}
use Rattle.gsl_typing.proofs.Missing.{missing}
use Rattle.gsl_typing.proofs.uses.+told_leaves.Goals as goal

pub returns-in-Array : goal.returns-in-Array
returns-in-Array t c =
    let structs = c.args.structs.now in
    let e = c.in-Array.element in
    let n = c.in-Array.count in
    let each = c.told_leaves-each.ensures ∙ ap (told_leaves structs) c.get.ensures in
    c.min.ensures ∙ ap (λ x. min x 1099511627776) (c.saturating_mul.ensures ∙ ap (λ x. min (x * n) 18446744073709551615) each)
    ∙ told_product (leaves_of structs e) n ∙ ap (λ x. min x 1099511627776) (sym (array_leaves structs e n)) ∙ sym (ap (told_leaves structs) c.in-Array.is)

pub returns-then-number-len : goal.returns-then-number-len
returns-then-number-len t c = (c.requires.known _ _ c.index.ensures).told ∙ sym (ap (told_leaves c.args.structs.now) c.in-Struct.is)

pub returns-else-number-len : goal.returns-else-number-len
returns-else-number-len t c =
    sym (missing c.args.structs.now c.in-Struct.number (subst (λ n. n ≤ c.in-Struct.number) c.len.ensures c.if-number-len.false)) ∙ sym (ap (told_leaves c.args.structs.now) c.in-Struct.is)
