use Rattle.std.proofs.Common.{◌≡◌, ◌-◌, ◌≤◌, length, drop}
use Rattle.gsl_valid.specs.CallRules.{called}
use Rattle.gsl_valid_calls.proofs.callees.next_call.Given as goal

abbrev pub invariant-loop-at : goal.invariant-loop-at
invariant-loop-at l = called (drop l.at l.of.instrs) ≡ called (drop l.fn.at l.of.instrs)

abbrev pub decreases-loop-at : goal.decreases-loop-at
decreases-loop-at l = length l.of.instrs - l.at
