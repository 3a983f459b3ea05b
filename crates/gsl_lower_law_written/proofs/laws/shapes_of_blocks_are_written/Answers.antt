use Rattle.std.proofs.Common.{false}
use Rattle.gsl_lower_follows.specs.Giving.{After}
use Rattle.gsl_lower_law_written.proofs.Outside.{block_unwritten}
use Rattle.gsl_lower_law_written.proofs.Written.{block_written}
use Rattle.gsl_lower_law_written.proofs.laws.shapes_of_blocks_are_written.Goals as goal

pub returns-clause-inside : goal.returns-clause-inside
returns-clause-inside c = λ m input sections f p around are knows start b s state r l good x own t a shape sound_t shaped writes inside may value v typed stands units.
    block_written m input sections f p around are knows start b s state r l good x own t a shape sound_t shaped writes inside may value v typed stands units

pub returns-clause-outside : goal.returns-clause-outside
returns-clause-outside c = λ m input sections f p around are start b s state r l good x t shape sound_t shaped writes outside may value v typed stands units.
    block_unwritten m input sections f p around are start b s state r l good x writes t outside may sound_t value v typed stands shape shaped units (λ done later (one : Unit {0}) u last. After m input sections f p around false b state later u last)
