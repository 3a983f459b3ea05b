use Rattle.gsl_manifest.proofs.SpelledLines.{line_is, text_is, whole_is}
use Rattle.gsl_manifest.proofs.SpelledBack.{line_back}
use Rattle.gsl_manifest.proofs.TextBack.{text_back}
use Rattle.gsl_manifest.proofs.laws.spelled_and_read.Goals as goal

pub returns : goal.returns
returns c = record { text = text_is; no_other_text = text_back; line = line_is; no_other_line = line_back; whole = whole_is }
