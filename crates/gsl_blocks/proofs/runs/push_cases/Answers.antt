use Rattle.std.proofs.Common.{◌∷◌, ap, sym, ◌∙◌}
use Rattle.gsl_blocks.specs.Order as spec
use Rattle.gsl_blocks.proofs.Cases.{cases_last}
use Rattle.gsl_blocks.proofs.runs.push_cases.Goals as goal

pub loop-label-preserved : goal.loop-label-preserved
loop-label-preserved c =
    ap (λ s. spec.cases c.args.around c.args.merge c.in-Some.label c.pop.new.self s) (c.in_ok-push.ensures ∙ ap (λ r. spec.run c.in-Some.label r ∷ c.loop-label.stack) c.in_case-around.ensures)
    ∙ sym (cases_last c.args.around c.args.merge c.loop-label.next c.in-Some.label c.pop.new.self c.loop-label.stack)
    ∙ ap (λ a. spec.cases c.args.around c.args.merge c.loop-label.next a c.loop-label.stack) (sym c.in-Some.ensures)
    ∙ c.loop-label.invariant
