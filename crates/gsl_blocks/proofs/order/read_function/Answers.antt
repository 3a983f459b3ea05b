use Rattle.std.proofs.Common.{◌^◌, ◌<◌, length, sym, subst}
use Rattle.gsl_blocks.proofs.Instructions.{blocks_fewer}
use Rattle.gsl_blocks.proofs.order.read_function.Goals as goal

pub read_all-requires : goal.read_all-requires
read_all-requires c = subst (λ z. length z < 2 ^ 32) (sym c.new-blocks.ensures) (blocks_fewer c.args.instrs.now c.args.at (2 ^ 32) c.requires)
