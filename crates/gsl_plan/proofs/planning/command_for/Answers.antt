use Rattle.std.proofs.Common.{◌∙◌, ap, ap₂, sym, Some, None, codes, option_map}
use Rattle.std.proofs.lemmas.Result.{IfOk-weaker}
use Rattle.clap.specs.Walk.{texts}
use Rattle.clap.specs.Words.{found_of}
use Rattle.clap.proofs.WalkLemmas.{first_value-rows}
use Rattle.gsl_plan.specs.Plan.{named}
use Rattle.gsl_plan.proofs.Planned.{operands_are}
use Rattle.gsl_plan.proofs.planning.command_for.Goals as goal

pub returns-in-Some : goal.returns-in-Some
returns-in-Some c =
    let value = c.get_str-value.ensures ∙ first_value-rows (found_of c.args.found.now) (codes "target") in
    let given = operands_are (found_of c.args.found.now) (Some (texts c.in-Some.operands.now)) (ap (option_map (λ s. texts s.now)) (sym c.in-Some.is) ∙ c.get_strs.ensures) in
    IfOk-weaker c.named.result _ _ (λ found is. is ∙ ap₂ (named c.args.name.now) value given) c.named.ensures

pub returns-in-None : goal.returns-in-None
returns-in-None c =
    let value = c.get_str-value.ensures ∙ first_value-rows (found_of c.args.found.now) (codes "target") in
    let given = operands_are (found_of c.args.found.now) None (ap (option_map (λ s. texts s.now)) (sym c.in-None.is) ∙ c.get_strs.ensures) in
    IfOk-weaker c.named-in-None.result _ _ (λ found is. is ∙ ap₂ (named c.args.name.now) value given) c.named-in-None.ensures
