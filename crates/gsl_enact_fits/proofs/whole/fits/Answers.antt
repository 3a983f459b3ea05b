use Rattle.std.proofs.Common.{◌∙◌}
use Rattle.gsl_enact_fits.proofs.Walked.{all_walked}
use Rattle.gsl_enact_fits.proofs.whole.fits.Goals as goal

pub returns : goal.returns
returns c = c.all_passed.ensures ∙ all_walked c.args.decorations.now c.args.input.now
