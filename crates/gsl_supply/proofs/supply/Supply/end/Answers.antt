use Rattle.std.proofs.Common.{Some, None, sym, ◌∙◌}
use Rattle.gsl_supply.specs.Supplying.{comes}
use Rattle.gsl_supply.proofs.Supplied.{met_fault, drawn_fault}
use Rattle.gsl_supply.proofs.supply.Supply.end.Goals as goal

pub returns-in-Some : goal.returns-in-Some
unfolding comes
returns-in-Some c = met_fault _ _ _ _ _ c.requires _ c.in-Some.is

pub returns-in-Some-2 : goal.returns-in-Some-2
unfolding comes
returns-in-Some-2 c = drawn_fault _ _ _ _ _ c.requires (Some c.in-Some-2.fault) c.in_default.is (sym c.in-Some-2.is ∙ c.in_ok-fault.ensures)

pub returns-in-None : goal.returns-in-None
unfolding comes
returns-in-None c = c.depth_fault.ensures ∙ drawn_fault _ _ _ _ _ c.requires None c.in_default.is (sym c.in-None.is ∙ c.in_ok-fault.ensures)
