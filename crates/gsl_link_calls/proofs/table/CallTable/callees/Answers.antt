use Rattle.std.proofs.Common.{[], ap, ◌∙◌, get_or}
use Rattle.std.specs.Prelude.{slice_index}
use Rattle.gsl_link_calls.specs.Calls.{called_by}
use Rattle.gsl_link_calls.proofs.Tabled.{callees_are}
use Rattle.gsl_link_calls.proofs.table.CallTable.callees.Goals as goal

pub returns : goal.returns
returns c =
    let table = c.self.inside in
    c.list_at.ensures ∙ ap (λ k. get_or table.lists k []) (c.number_at.ensures ∙ ap (λ l. slice_index l c.args.head) c.deref.ensures.value)
    ∙ callees_are table.functions.now table.firsts.items table.lists c.self.invariant c.args.head ∙ ap (λ functions. called_by functions c.args.head) c.self.view_is
