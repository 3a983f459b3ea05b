use Rattle.gsl_layout.specs.Nodes.{nodes}
use Rattle.gsl_layout.proofs.laid.Laid.+need.Given as goal

abbrev pub decreases-need : goal.decreases-need
decreases-need l = nodes l.self.now
