use Rattle.gsl_supply.specs.Supplying.{undrawn}
use Rattle.gsl_supply.proofs.Supplied.{drawn_fed, drawn_listed}
use Rattle.gsl_supply.proofs.source.Source.draw.Goals as goal

pub returns-in_default : goal.returns-in_default
unfolding undrawn
returns-in_default c = drawn_fed _ _ _ _ c.in_default.ensures c.next.ensures.next

pub returns : goal.returns
unfolding undrawn
returns c = drawn_listed c.args.self.now.listed.now c.in-Some.rest.now c.in-Some.token.now c.in_ok-token.token _ c.in-Some.ensures c.in_ok-token.ensures
