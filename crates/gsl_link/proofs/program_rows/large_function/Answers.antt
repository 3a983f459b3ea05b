use Rattle.std.proofs.Common.{ap, ◌∙◌}
use Rattle.gsl_link.specs.Finding as finding
use Rattle.gsl_link.specs.Rows as spec
use Rattle.gsl_link.proofs.Found.{first_is}
use Rattle.gsl_link.proofs.program_rows.large_function.Goals as goal

pub returns : goal.returns
returns c = c.first_large.ensures ∙ ap (finding.first_where (spec.is_large c.args.p.now)) c.as_slice.ensures ∙ first_is (spec.is_large c.args.p.now) c.args.p.now.functions
