use Rattle.std.proofs.Common.{◌≡◌, drop}
use Rattle.gsl_step_indexes.specs.Indexes.{IsToldAlong, along}
use Rattle.gsl_step_indexes.proofs.along.along.Given as goal

abbrev pub invariant-loop-k : goal.invariant-loop-k
invariant-loop-k l =
    IsToldAlong l.operands l.machine l.fn.type_ l.fn.from l.indexes → IsToldAlong l.operands l.machine l.part l.at (drop l.k l.indexes) × (along l.operands l.machine l.part l.at (drop l.k l.indexes) ≡ along l.operands l.machine l.fn.type_ l.fn.from l.indexes)
