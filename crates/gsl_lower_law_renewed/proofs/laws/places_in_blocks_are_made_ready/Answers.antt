use Rattle.gsl_lower_law_renewed.proofs.Outside.{renewed_read_strays}
use Rattle.gsl_lower_law_renewed.proofs.Renewed.{block_ready}
use Rattle.gsl_lower_law_renewed.proofs.laws.places_in_blocks_are_made_ready.Goals as goal

pub returns-clause-inside : goal.returns-clause-inside
returns-clause-inside c = λ m input sections f p around are knows start b s state r l good x own t a shape sound_t shaped writes inside may units.
    block_ready m input sections f p around are knows start b s state r l good x own t a shape sound_t shaped writes inside may units

pub returns-clause-outside : goal.returns-clause-outside
returns-clause-outside c = λ m input sections f p around are start b s state r l good x t shape shaped writes outside units. renewed_read_strays m input sections f p around are start b s state r l good x writes t outside units shape shaped
