use Rattle.std.proofs.Common.{reverse, ap, ◌∙◌}
use Rattle.gsl_pp.specs.Directives.{outermost}
use Rattle.gsl_pp.proofs.Outermost.{outermost_first}
use Rattle.gsl_pp.proofs.group.Groups.outermost.Goals as goal

pub returns-in-len1-up : goal.returns-in-len1-up
returns-in-len1-up c =
    outermost_first c.as_slice.result.now _ c.in-len1-up.len_at_least ∙ ap (λ l. outermost (reverse l)) c.as_slice.ensures ∙ ap outermost c.self.view_is
