use Rattle.std.proofs.Common.{arith, sym}
use Rattle.gsl_asm.proofs.Quotes.{ends_here, breaks_here, goes_on, no_more}
use Rattle.gsl_asm.proofs.chars.raw_len.Goals as goal

pub returns-in-Ends-clause-value : goal.returns-in-Ends-clause-value
returns-in-Ends-clause-value c = ends_here c.args.bytes.now c.loop-i.i c.loop-i.behind _ (omega arith) (sym c.in-Ends.ensures) c.loop-i.invariant

pub returns-in-Breaks-clause-value : goal.returns-in-Breaks-clause-value
returns-in-Breaks-clause-value c = breaks_here c.args.bytes.now c.loop-i.i c.loop-i.behind _ (omega arith) (sym c.in-Breaks.ensures) c.loop-i.invariant

pub loop-i-preserved : goal.loop-i-preserved
loop-i-preserved c = goes_on c.args.bytes.now c.loop-i.i c.loop-i.behind _ _ (omega arith) (sym c.in-Goes.ensures) c.loop-i.invariant

pub returns-clause-value : goal.returns-clause-value
returns-clause-value c = no_more c.args.bytes.now c.loop-i.i c.loop-i.behind _ (omega arith) c.loop-i.invariant
