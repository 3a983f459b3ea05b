use Rattle.std.proofs.Common.{◌∙◌, ◌-◌, ap, arith, sym, Some}
use Rattle.gsl_positions.specs.Positions.{left}
use Rattle.gsl_positions.proofs.Standing.{label_stands, some_there}
use Rattle.gsl_positions.proofs.positions.label_at.Goals as goal

pub overflow_sub-result : goal.overflow_sub-result
overflow_sub-result c =
    let f = some_there _ c.requires.there in
    let s = label_stands c.args.definitions.now c.requires.once c.args.body c.args.id f.0 f.1 in
    omega (arith, s.0, c.number.ensures)

pub returns : goal.returns
returns c =
    let m = c.args.definitions.now in
    let f = some_there _ c.requires.there in
    f.1 ∙ ap Some ((label_stands m c.requires.once c.args.body c.args.id f.0 f.1).1 ∙ ap (λ n. left m (n - 1)) (sym c.number.ensures))
