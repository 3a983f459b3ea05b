use Rattle.std.proofs.Common.{ap, ◌∙◌}
use Rattle.gsl_host.specs.Faults.{front}
use Rattle.gsl_host.proofs.Targets.{front_of_pop}
use Rattle.gsl_host.proofs.faults.Faults.withdraw.Goals as goal

pub returns : goal.returns
returns c = front_of_pop c.pop.result _ _ c.pop.ensures ∙ ap front c.self.view_is
