use Rattle.std.proofs.Common.{◌∙◌, ap, sym, Some}
use Rattle.gsl_positions.specs.Positions.{left}
use Rattle.gsl_positions.proofs.Standing.{function_stands, some_there}
use Rattle.gsl_positions.proofs.positions.function_at.Goals as goal

pub returns : goal.returns
returns c =
    let m = c.args.definitions.now in
    let f = some_there _ c.requires.there in
    f.1 ∙ ap Some (function_stands m c.requires.once c.args.id f.0 f.1 ∙ ap (left m) (sym c.number.ensures))
