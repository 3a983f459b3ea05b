use Rattle.gsl_ids.proofs.Places.{made, here}
use Rattle.gsl_valid_layouts.proofs.marks.kind_of.Goals as goal

pub returns : goal.returns
returns c =
    record {
      instr = made c.op.result c.args-2.result.now;
      here = here c.args.of.now.instrs c.args.at c.op.result c.args-2.result.now c.op.ensures c.args-2.ensures;
      is = c.kind_at.ensures;
    }
