use Rattle.std.proofs.Common.{◌≡◌, ◌-◌, length, drop}
use Rattle.std.specs.List.{list_any}
use Rattle.gsl_valid.specs.Instruction.{read}
use Rattle.gsl_valid.specs.Kinds.{kind}
use Rattle.gsl_valid.specs.CallRules.{begins_cycle, has_cycle}
use Rattle.gsl_valid_calls.proofs.graph.goes_round.Given as goal

abbrev pub invariant-loop-at : goal.invariant-loop-at
invariant-loop-at l = list_any (λ i. begins_cycle l.calls (kind (read i))) (drop l.at l.calls.instrs) ≡ has_cycle l.calls

abbrev pub decreases-loop-at : goal.decreases-loop-at
decreases-loop-at l = length l.calls.instrs - l.at
