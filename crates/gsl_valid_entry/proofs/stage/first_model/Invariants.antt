use Rattle.std.proofs.Common.{◌≡◌, length}
use Rattle.gsl_valid_entry.specs.Reading.{model_from}
use Rattle.gsl_valid_entry.proofs.stage.first_model.Given as goal

abbrev pub invariant-loop-op : goal.invariant-loop-op
invariant-loop-op l = model_from l.each ≡ model_from l.fn.each

abbrev pub decreases-loop-op : goal.decreases-loop-op
decreases-loop-op l = length l.each
