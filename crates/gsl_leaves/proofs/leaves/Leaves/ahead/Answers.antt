use Rattle.std.proofs.Common.{◌∙◌, ap, get_or}
use Rattle.gsl_words.specs.declared.module.Module.{Module}
use Rattle.gsl_valid.specs.Search.{whole}
use Rattle.gsl_leaves.specs.Leaves.{ahead, ahead_as}
use Rattle.gsl_leaves.specs.Table.{told}
use Rattle.gsl_leaves.proofs.Noted.{ahead_by_rows}
use Rattle.gsl_leaves.proofs.leaves.Leaves.ahead.Goals as goal

pub returns : goal.returns
returns c =
    let m = c.self.inside.definitions.now in
    c.ahead_as.ensures ∙ ap (λ s. told (ahead_as (λ id. get_or c.self.inside.rows.items id 0) c.args.number s)) c.shape_of.ensures
    ∙ ahead_by_rows m (whole m) c.self.inside.rows.items c.args.number _ c.self.invariant ∙ ap (λ (n : Module). told (ahead n c.args.type_ c.args.number)) c.self.view_is
