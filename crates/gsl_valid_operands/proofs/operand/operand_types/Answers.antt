use Rattle.std.proofs.Common.{[], refl, ◌∙◌, ap}
use Rattle.gsl_valid.specs.Placed.{placed}
use Rattle.gsl_valid.specs.OperandRules.{typed}
use Rattle.gsl_ids.specs.Pass.{first_failed}
use Rattle.gsl_ids.proofs.Passes.{blind}
use Rattle.gsl_valid_operands.specs.declared.operand.OperandTest.{OperandTest}
use Rattle.gsl_valid_operands.proofs.operand.operand_types.Goals as goal

pub returns : goal.returns
returns c =
    let s : OperandTest = record { definitions = c.args.definitions } in
    c.first_failed.ensures.place
    ∙ ap (λ m. first_failed (λ (s : OperandTest) at i. typed s.definitions.now [] i) (λ (s : OperandTest) at i. s) s 0 (placed m)) c.module.ensures
    ∙ blind (λ (s : OperandTest). s.definitions.now) typed (λ m before i. refl) s
