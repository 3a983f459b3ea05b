use Rattle.gsl_lower_law_copies.proofs.Copied.{whole_out}
use Rattle.gsl_lower_law_copies.proofs.laws.wholes_are_read.Goals as goal

pub returns : goal.returns
returns c = λ m input whole block class parts holder type leaves words from variable number bytes places old v state before points each there lie show holds held fits. whole_out m input whole block class parts holder type words from variable number bytes v leaves places old state before points each there lie show holds held fits
