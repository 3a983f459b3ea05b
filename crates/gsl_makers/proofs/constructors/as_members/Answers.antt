use Rattle.std.proofs.Common.{◌≡◌, ap, sym, ◌∙◌, ◌++◌, drop, append-nil}
use Rattle.gsl_makers.specs.Constructors.{as_members}
use Rattle.gsl_makers.proofs.Loops.{none_converted}
use Rattle.gsl_makers.proofs.constructors.as_members.Goals as goal

pub returns-in-None : goal.returns-in-None
returns-in-None c =
    let rest = drop c.loop-k.k c.args.members.now in
    let given = c.loop-k.given in
    sym (append-nil given) ∙ ap (λ l. given ++ l) (sym (none_converted rest) ∙ ap (as_members rest) (sym c.in-None.ensures.0)) ∙ c.loop-k.invariant
