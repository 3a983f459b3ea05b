use Rattle.gsl_values.proofs.BitFields.{inserted_none, inserted_field}
use Rattle.gsl_values.proofs.fields.inserted.Goals as goal

pub returns-then-bits-eq0 : goal.returns-then-bits-eq0
returns-then-bits-eq0 c = inserted_none c.args.base c.args.insert c.args.offset c.args.bits c.ranges.base.fits c.if-bits-eq0.true

pub returns : goal.returns
returns c = inserted_field c.args.base c.args.insert c.args.offset c.args.bits c.low_ones.result c.ranges.base.fits c.low_ones.ensures c.requires
