use Rattle.std.proofs.Common.{◌∙◌, sym}
use Rattle.gsl_tree.specs.Values.{word_in}
use Rattle.gsl_enact_state.specs.Seen.{state_seen}
use Rattle.gsl_machine.specs.Steps.{branching, label_for}
use Rattle.gsl_enact_control.proofs.Asked.{whole_leads}
use Rattle.gsl_enact_control.proofs.branches.switch.Goals as goal

pub returns-in-Some : goal.returns-in-Some
returns-in-Some c =
    c.switch_on-step.ensures c.args.globals.now
    ∙ whole_leads _ c.in-Some.v (λ v. branching (state_seen c.args.globals.now c.args.state.now) (label_for (word_in v) c.args.default c.args.targets.now)) (sym c.in-Some.is ∙ c.in_ok-value.ensures)
