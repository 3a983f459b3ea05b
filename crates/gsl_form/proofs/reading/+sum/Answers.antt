use Rattle.std.proofs.Common.{◌≡◌, subst, IfOk}
use Rattle.gsl_form.proofs.Steps.{one_alone}
use Rattle.gsl_form.proofs.reading.+sum.Goals as goal

pub kind_sum-returns-in_default : goal.kind_sum-returns-in_default
kind_sum-returns-in_default t c =
    subst (λ z. IfOk c.one_term.result (λ found. found ≡ z)) (one_alone c.args.count c.args.kind.now c.in_default.not-Binary) c.one_term.ensures
