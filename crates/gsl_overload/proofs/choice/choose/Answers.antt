use Rattle.std.proofs.Common.{sym, ◌∙◌}
use Rattle.std.specs.Prelude.{Ok, Err}
use Rattle.std.proofs.lemmas.Bool.{true≢false}
use Rattle.gsl_overload.specs.declared.choice.Choice.TheVariants.{NoMatch, Ambiguous}
use Rattle.gsl_overload.proofs.Bests.{is_chosen, best_of_favourite, none_of_all}
use Rattle.gsl_overload.proofs.choice.choose.Goals as goal

pub returns-in-None : goal.returns-in-None
returns-in-None c = is_chosen c.args.candidates.now c.args.args.now (Err NoMatch) (none_of_all c.args.candidates.now c.args.args.now c.in-None.ensures)

pub returns-then-is_best : goal.returns-then-is_best
returns-then-is_best c = is_chosen c.args.candidates.now c.args.args.now (Ok c.in-Some.place) (c.is_best.ensures.0 c.if-is_best.true)

pub returns-else-is_best : goal.returns-else-is_best
returns-else-is_best c =
    is_chosen c.args.candidates.now c.args.args.now (Err Ambiguous)
    (best_of_favourite c.args.candidates.now c.args.args.now c.in-Some.place c.in-Some.ensures
    (λ best. true≢false (sym (c.is_best.ensures.1 best) ∙ c.if-is_best.false)))
