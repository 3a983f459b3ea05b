use Rattle.std.proofs.Common.{◌≡◌, drop}
use Rattle.std.specs.Prelude.{◌&&◌}
use Rattle.gsl_check_blocks.specs.Blocks.{is_end, with_names}
use Rattle.gsl_check_blocks.specs.Stands.{Stands}
use Rattle.gsl_check_blocks.proofs.gathering.push_names.Given as goal

abbrev pub invariant-loop-k : goal.invariant-loop-k
invariant-loop-k l =
    (with_names l.fn.frame l.fn.last l.fn.env l.fn.q l.fn.base l.fn.names l.fn.all.members ≡ with_names l.fn.frame l.fn.last l.fn.env l.fn.q l.fn.base (drop l.k l.fn.names) l.all.members)
    × Stands l.fn.frame.std140 l.fn.env.scene.structs (l.fn.last && is_end (drop l.k l.fn.names)) l.all
