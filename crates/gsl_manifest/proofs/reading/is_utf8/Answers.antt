use Rattle.gsl_manifest.proofs.Readers.{utf8_test}
use Rattle.gsl_manifest.proofs.reading.is_utf8.Goals as goal

pub returns : goal.returns
returns c = utf8_test c.args.line.now c.from_utf8.result c.is_ok.result _ _ c.is_ok.ensures.value c.from_utf8.ensures.cases
