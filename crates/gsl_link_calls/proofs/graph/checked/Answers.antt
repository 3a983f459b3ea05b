use Rattle.std.proofs.Common.{◌≡◌, true, sym, ap, ◌∙◌}
use Rattle.gsl_link_calls.specs.Ranks.{are_ranked}
use Rattle.gsl_link_calls.proofs.Ranked.{ranked}
use Rattle.gsl_link_calls.proofs.graph.checked.Goals as goal

pub returns-then-are_ranked : goal.returns-then-are_ranked
returns-then-are_ranked c = ranked _ c.args.table.now (sym (c.are_ranked.ensures ∙ ap (λ l. are_ranked l c.args.table.now) c.deref.ensures.value) ∙ c.if-are_ranked.true)
