use Rattle.std.proofs.Common.{◌∙◌, ap, subst, sym, Err}
use Rattle.std.proofs.lemmas.Result.{err_from_is_err_and}
use Rattle.gsl_spv.specs.Calls.{Answers, truth}
use Rattle.gsl_spv.proofs.Interning.{truth_refused}
use Rattle.gsl_spv.proofs.builder.Builder.truth.Goals as goal

pub returns-in_err-ty-clause-answer : goal.returns-in_err-ty-clause-answer
returns-in_err-ty-clause-answer c =
    let p = err_from_is_err_and c.from_residual.result c.from_residual.ensures.1 in
    subst (λ r. Answers c.args.self.now r c.plain_type.new.self (truth c.args.value c.args.self.now)) (sym (p.1 ∙ ap Err p.2))
    (truth_refused c.args.value c.args.self.now c.plain_type.new.self c.in_err-ty.field-0.0 c.in_err-ty.ensures.answer)
