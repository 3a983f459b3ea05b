use Rattle.std.proofs.Common.{[], refl, ◌∙◌, ap}
use Rattle.gsl_valid.specs.Placed.{placed}
use Rattle.gsl_valid.specs.ConstantRules.{constant_typed}
use Rattle.gsl_ids.specs.Pass.{first_failed}
use Rattle.gsl_ids.proofs.Passes.{blind}
use Rattle.gsl_valid_types.specs.declared.constant.ConstantTest.{ConstantTest}
use Rattle.gsl_valid_types.proofs.constant.constants.Goals as goal

pub returns : goal.returns
returns c =
    let s : ConstantTest = record { runtimes = c.args.runtimes } in
    c.first_failed.ensures.place
    ∙ ap (λ m. first_failed (λ (s : ConstantTest) at i. constant_typed s.runtimes.now [] i) (λ (s : ConstantTest) at i. s) s 0 (placed m)) (c.module.ensures ∙ c.definitions.ensures)
    ∙ blind (λ (s : ConstantTest). s.runtimes.now) constant_typed (λ m before i. refl) s
