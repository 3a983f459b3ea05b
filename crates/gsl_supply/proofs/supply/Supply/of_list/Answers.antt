use Rattle.std.proofs.Common.{◌≡◌, subst}
use Rattle.std.specs.Prelude.{IfOk}
use Rattle.gsl_nesting.specs.Passing.{at_start}
use Rattle.gsl_supply.specs.Coming.{Coming, seen}
use Rattle.gsl_supply.specs.Supplying.{comes}
use Rattle.gsl_supply.specs.declared.supply.Supply.{Supply}
use Rattle.gsl_supply.proofs.Supplied.{listed_all}
use Rattle.gsl_supply.proofs.supply.Supply.of_list.Goals as goal

pub returns-clause-comes : goal.returns-clause-comes
returns-clause-comes c =
    subst (λ (x : Coming). IfOk c.of.result (λ (s : Supply). comes s ≡ seen at_start x)) (listed_all c.args.tokens.now _ c.ended.ensures) c.of.ensures.comes
