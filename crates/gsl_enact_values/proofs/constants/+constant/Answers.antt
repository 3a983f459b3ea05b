use Rattle.std.proofs.Common.{◌≡◌, IfOk, ap, subst, sym, ◌∙◌}
use Rattle.gsl_machine.specs.Constants.{constant_in as value_in, fixed_if}
use Rattle.gsl_valid.specs.Kinds.{constant_in}
use Rattle.gsl_values.specs.declared.value.Value.TheVariants.{Many}
use Rattle.gsl_enact_values.specs.Search.{front}
use Rattle.gsl_enact_values.proofs.Definers.{constant_of_none, constant_of_one}
use Rattle.gsl_enact_values.proofs.constants.+constant.Goals as goal

pub constant_in-returns-in-None : goal.constant_in-returns-in-None
constant_in-returns-in-None t c = ap Many c.new.ensures ∙ sym (constant_of_none c.args.definitions.now c.args.id (front c.args.definitions.now c.args.count) c.in-None.ensures)

pub constant_in-returns-in-Some : goal.constant_in-returns-in-Some
constant_in-returns-in-Some t c =
    let m = c.args.definitions.now in
    subst (λ x. IfOk c.fixed.result (λ v. v ≡ x))
    (ap (λ k. fixed_if m (value_in m (front m c.in-Some.at)) (record { op = c.in-Some.op; args = c.in-Some.args.now }) (constant_in k)) c.kind_at.ensures ∙ sym (constant_of_one m c.args.id (front m c.args.count) _ _ c.in-Some.ensures.0))
    c.fixed.ensures
