use Rattle.gsl_link_names.specs.Earlier.{AreTypedBlocks}
use Rattle.gsl_link_names.proofs.Tables.{all_at}
use Rattle.gsl_link_names.proofs.units.all_units.Goals as goal

pub next_unit-requires-clause-typed : goal.next_unit-requires-clause-typed
next_unit-requires-clause-typed c =
    all_at (AreTypedBlocks c.args.structs.now) c.args.sides.now c.loop-k.k c.index-sides-k.result c.requires.typed c.loop-k-test.true c.index-sides-k.is
