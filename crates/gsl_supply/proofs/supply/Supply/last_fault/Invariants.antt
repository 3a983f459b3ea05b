use Rattle.std.proofs.Common.{◌≡◌, ◌+◌, length}
use Rattle.gsl_supply.specs.Supplying.{comes}
use Rattle.gsl_supply.proofs.supply.Supply.last_fault.Given as goal

abbrev pub invariant-loop-supply : goal.invariant-loop-supply
invariant-loop-supply l =
    ((comes l.supply).fault ≡ (comes l.fn.self).fault)
    × (l.supply.count + length (comes l.supply).tokens ≡ l.fn.self.count + length (comes l.fn.self).tokens)

abbrev pub decreases-loop-supply : goal.decreases-loop-supply
decreases-loop-supply l = length (comes l.supply).tokens
