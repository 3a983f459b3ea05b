use Rattle.std.proofs.Common.{◌≡◌, IfOk, ap, subst, sym, ◌∙◌}
use Rattle.gsl_machine.specs.Constants.{zeros_as, zeros_in}
use Rattle.gsl_valid.specs.Kinds.{shape_in}
use Rattle.gsl_values.specs.declared.value.Value.TheVariants.{Many}
use Rattle.gsl_enact_values.specs.Search.{front}
use Rattle.gsl_enact_values.proofs.Definers.{zeros_of_none, zeros_of_one}
use Rattle.gsl_enact_values.proofs.constants.+zeros.Goals as goal

pub zeros_in-returns-in-None : goal.zeros_in-returns-in-None
zeros_in-returns-in-None t c = ap Many c.new.ensures ∙ sym (zeros_of_none c.args.definitions.now c.args.type_ (front c.args.definitions.now c.args.count) c.in-None.ensures)

pub zeros_in-returns-in-Some : goal.zeros_in-returns-in-Some
zeros_in-returns-in-Some t c =
    let m = c.args.definitions.now in
    subst (λ x. IfOk c.zeros_as.result (λ v. v ≡ x))
    (ap (zeros_as m (zeros_in m (front m c.in-Some.at))) (c.shape_in.ensures ∙ ap shape_in c.kind_at.ensures) ∙ sym (zeros_of_one m c.args.type_ (front m c.args.count) _ _ c.in-Some.ensures.0))
    c.zeros_as.ensures
