use Rattle.gsl_lower_law_blocks.proofs.Laid.{leaf_held}
use Rattle.gsl_lower_law_blocks.proofs.Shown.{parts_shown}
use Rattle.gsl_lower_law_blocks.proofs.laws.leaves_are_seen.Goals as goal

pub returns-clause-loaded : goal.returns-clause-loaded
returns-clause-loaded c = λ m input state variable offset pointee components bytes lie there. leaf_held m input state variable offset pointee components bytes lie there

pub returns-clause-seen : goal.returns-clause-seen
returns-clause-seen c = λ l part at offset path bytes leads. parts_shown bytes l part at offset path leads
