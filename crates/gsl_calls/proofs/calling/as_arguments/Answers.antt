use Rattle.std.proofs.Common.{◌≡◌, ap, sym, ◌∙◌, ◌++◌, drop, append-nil}
use Rattle.gsl_calls.specs.Calls.{as_arguments}
use Rattle.gsl_calls.proofs.Loops.{none_given}
use Rattle.gsl_calls.proofs.calling.as_arguments.Goals as goal

pub returns-in-None : goal.returns-in-None
returns-in-None c =
    let rest = drop c.loop-k.k c.args.params.now in
    let given = c.loop-k.given in
    sym (append-nil given) ∙ ap (λ l. given ++ l) (sym (none_given rest) ∙ ap (as_arguments rest) (sym c.in-None.ensures.0)) ∙ c.loop-k.invariant
