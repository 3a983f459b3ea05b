use Rattle.std.proofs.Common.{◌≡◌, ◌++◌, drop, filter}
use Rattle.gsl_blocks.specs.Around.{needs_run as needed}
use Rattle.gsl_blocks.specs.Reading.{put_in}
use Rattle.gsl_blocks.proofs.targets.push_arms.Given as goal

abbrev pub invariant-loop-target : goal.invariant-loop-target
invariant-loop-target l =
    l.arms ++ put_in l.fn.labels.keys l.waiting (filter (needed l.fn.around l.fn.merge) (drop l.target-index l.fn.targets))
    ≡ l.fn.arms ++ put_in l.fn.labels.keys l.fn.lone (filter (needed l.fn.around l.fn.merge) l.fn.targets)
