use Rattle.std.proofs.Common.{refl}
use Rattle.gsl_asm.proofs.Shows.{one_more, fits_one_more}
use Rattle.gsl_asm.proofs.showing.put_instrs.Goals as goal

pub loop-i-preserved : goal.loop-i-preserved
loop-i-preserved c = record {
  text = one_more c.args.target c.args.instrs.now c.loop-i.i c.op.result c.args-in-loop-i.result.now c.args.out.now c.loop-i.out c.put_instr.new.out _ refl
      c.op.ensures c.args-in-loop-i.ensures c.loop-i.invariant.text c.in_ok-put_instr.ensures.text;
  fits = fits_one_more c.args.instrs.now c.loop-i.i c.op.result c.args-in-loop-i.result.now _ refl c.op.ensures c.args-in-loop-i.ensures c.loop-i.invariant.fits c.in_ok-put_instr.ensures.fits;
}
