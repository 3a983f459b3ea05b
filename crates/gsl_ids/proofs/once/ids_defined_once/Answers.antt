use Rattle.std.proofs.Common.{[], refl, ap, ◌∙◌}
use Rattle.gsl_valid.specs.Placed.{placed}
use Rattle.gsl_ids.specs.Once.{once_from}
use Rattle.gsl_ids.proofs.Searched.{searched}
use Rattle.gsl_ids.proofs.once.ids_defined_once.Goals as goal

pub returns : goal.returns
returns c =
    let m = c.args.of.now in
    c.in_ok-place.ensures ∙ ap (once_from m.bound []) c.new.ensures ∙ searched m.bound [] [] (placed m) (λ id. refl)
