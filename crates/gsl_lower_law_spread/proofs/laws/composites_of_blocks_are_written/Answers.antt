use Rattle.std.proofs.Common.{false}
use Rattle.gsl_lower_follows.specs.Giving.{After}
use Rattle.gsl_lower_law_spread.proofs.Spread.{composite_unwritten, composite_written}
use Rattle.gsl_lower_law_spread.proofs.laws.composites_of_blocks_are_written.Goals as goal

pub returns-clause-inside : goal.returns-clause-inside
returns-clause-inside c = λ m input sections f p around are knows start b s state r l good x own t a sound_t none writes inside value v typed stands units.
    composite_written m input sections f p around are knows start b s state r l good x own t a sound_t none writes inside value v typed stands units

pub returns-clause-outside : goal.returns-clause-outside
returns-clause-outside c = λ m input sections f p around are start b s state r l good x t sound_t none writes outside value v typed stands units.
    composite_unwritten m input sections f p around are start b s state r l good x writes t outside sound_t value v typed stands none units (λ done later (one : Unit {0}) u last. After m input sections f p around false b state later u last)
