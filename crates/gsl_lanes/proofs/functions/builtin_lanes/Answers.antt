use Rattle.std.proofs.Common.{◌+◌, map, subst, sym}
use Rattle.gsl_lanes.specs.Operands.{words_at}
use Rattle.gsl_lanes.proofs.Given.{IsGiven, given_more}
use Rattle.gsl_lanes.proofs.functions.builtin_lanes.Goals as goal

pub loop-k-preserved : goal.loop-k-preserved
loop-k-preserved c =
    let first = c.args.slots.now in
    subst (λ s. IsGiven c.args.which c.args.signed (map (words_at first) c.args.operands.now) c.args.choices.now first s c.args.at (c.loop-k.k + 1) c.builtin-word.new.choices) (sym c.put.ensures)
    (given_more c.args.which c.args.signed c.args.operands.now c.args.choices.now first c.loop-k.slots c.args.at c.args.count c.loop-k.k c.component-a.result c.component-b.result c.component-c.result c.component-d.result
    c.builtin-word.result c.loop-k.choices c.builtin-word.new.choices c.requires.serve c.requires.within c.loop-k-test.true c.loop-k.invariant c.component-a.ensures c.component-b.ensures c.component-c.ensures
    c.component-d.ensures c.builtin-word.ensures.word c.builtin-word.ensures.left)
