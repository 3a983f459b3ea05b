use Rattle.std.proofs.Common.{◌≡◌, List, ℕ, sym, ap, ◌∙◌, subst}
use Rattle.std.specs.Prelude.{nat_le, slice_index}
use Rattle.std.specs.List.{list_any}
use Rattle.gsl_tree.specs.declared.unit.Function.{Function}
use Rattle.gsl_link_calls.specs.Calls.{any_nest}
use Rattle.gsl_link_calls.proofs.Deep.{any_deep_is}
use Rattle.gsl_link_calls.proofs.graph.CallGraph.nest_deep.Goals as goal

pub returns : goal.returns
returns c =
    let functions = c.self.inside.table in
    let rows = c.in_ok-rows.rows.items in
    c.any_deep.ensures
    ∙ ap (λ (l : List ℕ). list_any (λ (f : Function). nat_le 65 (slice_index l f.prototype)) c.functions.result.now) c.deref.ensures.value
    ∙ ap (list_any (λ (f : Function). nat_le 65 (slice_index rows f.prototype))) c.functions.ensures
    ∙ any_deep_is functions rows c.in_ok-rows.ensures ∙ ap (λ fs. any_nest fs 65) c.self.view_is
