use Rattle.std.proofs.Common.{ap, ◌∙◌, List}
use Rattle.gsl_tree.specs.declared.unit.Function.{Function}
use Rattle.gsl_link_calls.specs.Calls as calls
use Rattle.gsl_link.specs.Finding as finding
use Rattle.gsl_link.specs.Rows as spec
use Rattle.gsl_link.proofs.Found.{first_is}
use Rattle.gsl_link.proofs.program_rows.recursion.Goals as goal

pub returns : goal.returns
returns c =
    let p = c.args.p.now in
    c.in_ok-place.ensures
    ∙ ap (λ (functions : List Function). finding.first_where (λ (f : Function). calls.reaches functions f.prototype f.prototype) c.as_slice-2.result.now) (c.in_ok-graph.ensures ∙ c.as_slice.ensures)
    ∙ ap (finding.first_where (spec.is_recursive p)) c.as_slice-2.ensures ∙ first_is (spec.is_recursive p) p.functions
