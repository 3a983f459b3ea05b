use Rattle.gsl_lower_follows.proofs.Drawn.{computed_given}
use Rattle.gsl_lower_follows.proofs.Growing.{adds_lift}
use Rattle.gsl_lower_follows.proofs.laws.computed_values_are_given.Goals as goal

pub returns : goal.returns
returns c = λ m input whole f p around ty answer step typed computes state. record {
  adds = adds_lift step (λ b. (computes state b.sections).grows);
  does = λ b s units now good. computed_given m input whole f p around ty answer step (λ b. (computes state b.sections).grows) typed b s units now good (computes now b.sections);
}
