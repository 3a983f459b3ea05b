use Rattle.std.proofs.Common.{◌∙◌}
use Rattle.gsl_manifest.proofs.Readers.{path_bad, path_good}
use Rattle.gsl_manifest.proofs.fields.path.Goals as goal

pub returns-in_default-from_utf8 : goal.returns-in_default-from_utf8
returns-in_default-from_utf8 c = path_bad c.args.bytes.now c.in-Some.path.now c.in-Some.ensures c.in_default-from_utf8.ensures.cases.0

pub returns : goal.returns
returns c = path_good c.args.bytes.now c.in-Some.path.now _ c.in-Some.ensures c.in-Ok.ensures.cases.1 (c.in_ok-from_str.ensures ∙ c.in-Ok.ensures.cases.0)
