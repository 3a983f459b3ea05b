use Rattle.std.proofs.Common.{rules}
use Rattle.gsl_link_units.specs.Declarations as spec
use Rattle.gsl_link_units.proofs.siding.retyped_prototypes.Goals as goal
use Rattle.gsl_link_units.proofs.Searching.{put_over}

pub loop-k-preserved : goal.loop-k-preserved
loop-k-preserved c =
    put_over (spec.retyped_prototype c.args.numbers.now) c.args.prototypes c.loop-k.all.items c.loop-k.k c.index_mut.result.now _ (search rules) c.loop-k.invariant (search rules)
    c.in_ok-retype_prototype.ensures
