use Rattle.std.proofs.Common.{◌≡◌, ◌≤◌, length}
use Rattle.gsl_layout.specs.Outlines.{AreOutlined}
use Rattle.gsl_layout.proofs.misplaced.outline_structs.Given as goal

abbrev pub invariant-loop-k : goal.invariant-loop-k
invariant-loop-k g l = AreOutlined (g.R.Rules.raised l.rules) l.structs l.outlines × (length l.outlines ≡ l.k) × (l.k ≤ length l.structs)
