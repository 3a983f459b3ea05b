use Rattle.std.proofs.Common.{◌≡◌, drop}
use Rattle.gsl_check_blocks.specs.Blocks.{is_end, with_lines}
use Rattle.gsl_check_blocks.specs.Stands.{Stands}
use Rattle.gsl_check_blocks.proofs.gathering.push_lines.Given as goal

abbrev pub invariant-loop-k : goal.invariant-loop-k
invariant-loop-k l =
    (with_lines l.fn.frame l.fn.env l.fn.lines l.fn.all.members ≡ with_lines l.fn.frame l.fn.env (drop l.k l.fn.lines) l.all.members)
    × Stands l.fn.frame.std140 l.fn.env.scene.structs (is_end (drop l.k l.fn.lines)) l.all
