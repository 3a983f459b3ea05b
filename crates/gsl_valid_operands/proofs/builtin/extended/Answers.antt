use Rattle.std.proofs.Common.{[], refl, ◌∙◌, ap}
use Rattle.gsl_valid.specs.Placed.{placed}
use Rattle.gsl_valid.specs.ExtendedRules.{extended_kept}
use Rattle.gsl_ids.specs.Pass.{first_failed}
use Rattle.gsl_ids.proofs.Passes.{blind}
use Rattle.gsl_valid_operands.specs.declared.builtin.ExtendedTest.{ExtendedTest}
use Rattle.gsl_valid_operands.proofs.builtin.extended.Goals as goal

pub returns : goal.returns
returns c =
    let s : ExtendedTest = record { definitions = c.args.definitions } in
    c.first_failed.ensures.place
    ∙ ap (λ m. first_failed (λ (s : ExtendedTest) at i. extended_kept s.definitions.now [] i) (λ (s : ExtendedTest) at i. s) s 0 (placed m)) c.module.ensures
    ∙ blind (λ (s : ExtendedTest). s.definitions.now) extended_kept (λ m before i. refl) s
