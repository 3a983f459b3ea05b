use Rattle.gsl_cmd.proofs.Compiled.{taken, untaken}
use Rattle.gsl_cmd.proofs.compiling.accepted_first.Goals as goal

pub returns-in-Compute-clause-found : goal.returns-in-Compute-clause-found
returns-in-Compute-clause-found c = taken c.args.stage c.args.linked.now c.in-Compute.is c.read_linked.result c.read_linked.ensures.found

pub returns-in-Compute-clause-none : goal.returns-in-Compute-clause-none
returns-in-Compute-clause-none c = untaken c.args.stage c.args.linked.now c.in-Compute.is c.read_linked.result c.read_linked.ensures.none
