use Rattle.std.proofs.Common.{sym}
use Rattle.gsl_kinds.specs.Seen.{has_part}
use Rattle.gsl_kinds.proofs.Each.{unequal}
use Rattle.gsl_kinds.proofs.parts.have_each.Goals as goal

pub returns-then-types-ids : goal.returns-then-types-ids
returns-then-types-ids c = sym (unequal (has_part c.args.parts c.args.definitions.now) c.args.types.now c.args.ids.now c.if-types-ids.true)
