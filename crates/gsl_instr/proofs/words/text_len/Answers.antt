use Rattle.std.proofs.Common.{arith, add-one}
use Rattle.gsl_instr.proofs.Ends.{stops_front, stops_behind, never_front, never_behind}
use Rattle.gsl_instr.proofs.words.text_len.Goals as goal

pub returns-then-word-clause-front : goal.returns-then-word-clause-front
returns-then-word-clause-front c = rw add-one (stops_front c.args.words.now c.loop-i.i (omega arith) c.loop-i.invariant (omega arith))

pub returns-then-word-clause-behind : goal.returns-then-word-clause-behind
returns-then-word-clause-behind c = rw add-one (stops_behind c.args.words.now c.loop-i.i (omega arith) c.loop-i.invariant (omega arith))

pub returns-clause-front : goal.returns-clause-front
returns-clause-front c = never_front c.args.words.now (λ k less. c.loop-i.invariant k (omega arith))

pub returns-clause-behind : goal.returns-clause-behind
returns-clause-behind c = never_behind c.args.words.now (λ k less. c.loop-i.invariant k (omega arith))
