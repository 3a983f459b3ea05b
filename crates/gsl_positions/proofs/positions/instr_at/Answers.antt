use Rattle.gsl_ids.proofs.Places.{here, made}
use Rattle.gsl_positions.proofs.Standing.{below, left_is}
use Rattle.gsl_positions.proofs.positions.instr_at.Goals as goal

pub op-requires : goal.op-requires
op-requires c = below c.args.of.now c.args.at c.requires

pub args-requires : goal.args-requires
args-requires c = below c.args.of.now c.args.at c.requires

pub returns : goal.returns
returns c = left_is c.args.of.now c.args.at (made c.op.result c.args-2.result.now) (here c.args.of.now.instrs c.args.at c.op.result c.args-2.result.now c.op.ensures c.args-2.ensures)
