use Rattle.gsl_lower_law_blocks.proofs.Laid.{elements_stray}
use Rattle.gsl_lower_law_blocks.proofs.laws.elements_out_of_bounds_stray.Goals as goal

pub returns : goal.returns
returns c = λ m input state variable at type l part bytes path more offset index lie there leads array most. elements_stray m input state variable at type l part bytes path more offset index lie there leads array most
