use Rattle.gsl_manifest.proofs.Readers.{gap_found}
use Rattle.gsl_manifest.proofs.fields.behind_gap.Goals as goal

pub returns : goal.returns
returns c = gap_found c.args.bytes.now c.gap_len-gap.result c.gap_len-gap.ensures.value c.if-gap-eq0.false c.if-gap-bytes.false c.gap_len-gap.ensures.within
