use Rattle.gsl_lower_law_blocks.proofs.Laid.{arrays_counted, lengths_counted}
use Rattle.gsl_lower_law_blocks.proofs.laws.arrays_are_counted.Goals as goal

pub returns-clause-parts : goal.returns-clause-parts
returns-clause-parts c = λ m size offset type l lie array. arrays_counted m size offset type l lie array

pub returns-clause-length : goal.returns-clause-length
returns-clause-length c = λ m input state variable at type member all offset members l bytes go lie there part is_offset array. lengths_counted m input state variable at type member all offset members l bytes go lie there part is_offset array
