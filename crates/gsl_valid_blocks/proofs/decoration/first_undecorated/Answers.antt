use Rattle.std.proofs.Common.{refl, false, ◌∙◌, ap}
use Rattle.gsl_words.specs.declared.module.Module.{Module}
use Rattle.gsl_valid.specs.Placed.{placed}
use Rattle.gsl_ids.specs.Pass.{first_failed}
use Rattle.gsl_valid_blocks.specs.declared.decoration.DecorationTest.{DecorationTest}
use Rattle.gsl_valid_blocks.proofs.Decorating.{passes, behind, finds}
use Rattle.gsl_valid_blocks.proofs.decoration.first_undecorated.Goals as goal

pub returns : goal.returns
returns c =
    let s : DecorationTest = record { variables = c.args.variables; inside = false } in
    c.first_failed.ensures.place ∙ ap (λ (m : Module). first_failed passes behind s 0 (placed m)) (c.module.ensures ∙ c.definitions.ensures ∙ c.decorations.ensures)
    ∙ finds c.args.variables.now s refl refl
