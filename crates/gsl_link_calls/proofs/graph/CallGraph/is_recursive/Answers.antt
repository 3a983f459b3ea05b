use Rattle.std.proofs.Common.{◌≡◌, ap, sym, ◌∙◌}
use Rattle.gsl_link_calls.specs.Calls.{reaches}
use Rattle.gsl_link_calls.specs.Ranks.{may_return}
use Rattle.gsl_link_calls.proofs.Ranked.{no_return}
use Rattle.gsl_link_calls.proofs.graph.CallGraph.is_recursive.Goals as goal

pub returns-then-not-may_return : goal.returns-then-not-may_return
returns-then-not-may_return c =
    let graph = c.self.inside in
    sym (no_return graph.ranks.items graph.table c.self.invariant c.args.head (sym (c.if-not-may_return.ensures ∙ ap (λ l. may_return l graph.table c.args.head) c.deref.ensures.value)))
    ∙ ap (λ functions. reaches functions c.args.head c.args.head) c.self.view_is
