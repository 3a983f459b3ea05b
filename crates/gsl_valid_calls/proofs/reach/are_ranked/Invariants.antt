use Rattle.std.proofs.Common.{◌≡◌, ◌-◌, length, drop}
use Rattle.std.specs.List.{list_all}
use Rattle.gsl_valid.specs.Instruction.{read}
use Rattle.gsl_valid.specs.Kinds.{kind}
use Rattle.gsl_valid_calls.specs.Ranks.{is_ranked, are_ranked}
use Rattle.gsl_valid_calls.proofs.reach.are_ranked.Given as goal

abbrev pub invariant-loop-at : goal.invariant-loop-at
invariant-loop-at l =
    list_all (λ i. is_ranked l.ranks l.definitions.instrs (kind (read i))) (drop l.at l.definitions.instrs) ≡ are_ranked l.ranks l.definitions

abbrev pub decreases-loop-at : goal.decreases-loop-at
decreases-loop-at l = length l.definitions.instrs - l.at
