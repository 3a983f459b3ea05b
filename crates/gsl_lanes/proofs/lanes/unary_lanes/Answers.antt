use Rattle.std.proofs.Common.{◌∙◌, ap, arith}
use Rattle.gsl_values.specs.Operators.{unary_word}
use Rattle.gsl_lanes.proofs.Each.{unary_more}
use Rattle.gsl_lanes.proofs.lanes.unary_lanes.Goals as goal

pub overflow_add-at : goal.overflow_add-at
overflow_add-at c = omega (arith, c.loop-k-test.true, c.requires.within, c.len-room.ensures, c.len-room.type_inv)

pub loop-k-preserved : goal.loop-k-preserved
loop-k-preserved c =
    c.put.ensures
    ∙ unary_more c.args.op c.args.slots.now c.loop-k.slots c.args.a c.args.at c.args.count c.loop-k.k c.unary-word.result c.loop-k-test.true c.requires.a c.requires.within c.loop-k.invariant
    (c.unary-word.ensures ∙ ap (unary_word c.args.op) c.word.ensures)
