use Rattle.std.proofs.Common.{length}
use Rattle.gsl_folds.proofs.structs.base.Goals as goal

pub returns-in-Some-clause-sound : goal.returns-in-Some-clause-sound
returns-in-Some-clause-sound c = c.in-Some.ensures.sound (length c.args.structs.now)
