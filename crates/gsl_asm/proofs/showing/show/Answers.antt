use Rattle.std.proofs.Common.{sym, subst}
use Rattle.gsl_asm.specs.Texts.{IsTextOf}
use Rattle.gsl_asm.proofs.Displayed.{shown_text}
use Rattle.gsl_asm.proofs.showing.show.Goals as goal

pub returns-clause-text : goal.returns-clause-text
returns-clause-text c = subst (λ t. IsTextOf t c.args.module.now) (sym c.in_ok-text.ensures.text) (shown_text c.args.module.now c.requires.file c.in_ok-text.ensures.fits)
