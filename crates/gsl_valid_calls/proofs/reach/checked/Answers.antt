use Rattle.std.proofs.Common.{◌≡◌, true, sym, ap, ◌∙◌, subst}
use Rattle.gsl_valid_calls.specs.Ranks.{are_ranked, Ranked}
use Rattle.gsl_valid_calls.proofs.Ranked.{ranked}
use Rattle.gsl_valid_calls.proofs.reach.checked.Goals as goal

pub returns-then-are_ranked : goal.returns-then-are_ranked
returns-then-are_ranked c = ranked _ c.args.definitions.now (sym (c.are_ranked.ensures ∙ ap (λ l. are_ranked l c.args.definitions.now) c.deref.ensures.value) ∙ c.if-are_ranked.true)
