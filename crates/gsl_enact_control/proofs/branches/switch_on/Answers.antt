use Rattle.std.proofs.Common.{◌∙◌, ap}
use Rattle.gsl_enact_state.specs.Seen.{state_seen}
use Rattle.gsl_machine.specs.Steps.{branching, label_for}
use Rattle.gsl_enact_control.proofs.branches.switch_on.Goals as goal

pub returns : goal.returns
returns c = λ m. c.branch-alloc.ensures m ∙ ap (branching (state_seen m c.args.state.now)) (c.label_for-label.ensures ∙ ap (λ w. label_for w c.args.default c.args.targets.now) c.word_in.ensures)
