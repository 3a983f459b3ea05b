use Rattle.std.proofs.Common.{ap, ◌∙◌}
use Rattle.gsl_nesting.specs.Passing.{at_start}
use Rattle.gsl_supply.specs.Coming.{seen}
use Rattle.gsl_supply.specs.Supplying.{comes, undrawn, given_of, waits}
use Rattle.gsl_supply.proofs.supply.Supply.of.Goals as goal

pub returns-clause-comes : goal.returns-clause-comes
unfolding comes undrawn
returns-clause-comes c =
    let s = c.refill.new.self in
    ap (λ n. given_of n s.place (waits s.held s.fault (undrawn s.source))) (c.refill.ensures.same.0 ∙ c.new.ensures)
    ∙ ap (seen at_start) c.in_ok-refill.ensures.waits
