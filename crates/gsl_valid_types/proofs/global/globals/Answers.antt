use Rattle.std.proofs.Common.{refl, false, ◌∙◌, ap}
use Rattle.gsl_valid.specs.Placed.{placed}
use Rattle.gsl_ids.specs.Pass.{first_failed}
use Rattle.gsl_valid_types.specs.declared.global.GlobalTest.{GlobalTest}
use Rattle.gsl_valid_types.proofs.Outside.{passes, behind, finds}
use Rattle.gsl_valid_types.proofs.global.globals.Goals as goal

pub returns : goal.returns
returns c =
    let s : GlobalTest = record { runtimes = c.args.runtimes; inside = false } in
    c.first_failed.ensures.place ∙ ap (λ m. first_failed passes behind s 0 (placed m)) (c.module.ensures ∙ c.definitions.ensures) ∙ finds c.args.runtimes.now s refl refl
