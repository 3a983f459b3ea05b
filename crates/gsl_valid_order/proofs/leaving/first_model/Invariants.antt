use Rattle.std.proofs.Common.{◌≡◌, length}
use Rattle.gsl_valid_order.specs.Returned.{model_in}
use Rattle.gsl_valid_order.proofs.leaving.first_model.Given as goal

abbrev pub invariant-loop-op : goal.invariant-loop-op
invariant-loop-op l = model_in l.each ≡ model_in l.fn.each

abbrev pub decreases-loop-op : goal.decreases-loop-op
decreases-loop-op l = length l.each
