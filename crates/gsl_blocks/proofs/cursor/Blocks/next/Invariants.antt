use Rattle.std.proofs.Common.{◌≡◌, ◌-◌, ◌^◌, ◌<◌, length, drop}
use Rattle.gsl_blocks.specs.Blocks.{blocks_from}
use Rattle.gsl_blocks.proofs.cursor.Blocks.next.Given as goal

abbrev pub invariant-loop-self : goal.invariant-loop-self
invariant-loop-self l = (blocks_from (drop l.self-inside.at l.self-inside.instrs.now) l.self-inside.label l.self-inside.merge ≡ l.fn.self) × (length l.self-inside.instrs.now < 2 ^ 32) × (l.self-inside.at < 2 ^ 32)

abbrev pub decreases-loop-self : goal.decreases-loop-self
decreases-loop-self l = length l.self-inside.instrs.now - l.self-inside.at
