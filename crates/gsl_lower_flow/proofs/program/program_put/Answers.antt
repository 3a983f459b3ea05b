use Rattle.std.proofs.Common.{ap, subst, sym}
use Rattle.gsl_lower_flow.specs.Programs.{Gives-id}
use Rattle.gsl_lower_flow.specs.Reaching.{head_of}
use Rattle.gsl_lower_flow.proofs.Found.{lowered_is}
use Rattle.gsl_lower_flow.proofs.program.program_put.Goals as goal

pub returns : goal.returns
returns c =
    subst (Gives-id c.put_by.result c.put_by.new.b)
    (lowered_is c.in_ok-found.found.keys c.index.result.now.prototype c.args.target c.args.program.now c.args.b.now (sym (ap head_of c.index.ensures)) c.in_ok-found.ensures) c.put_by.ensures
