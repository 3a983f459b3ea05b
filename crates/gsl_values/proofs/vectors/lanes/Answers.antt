use Rattle.std.proofs.Common.{take, drop, [], ◌≡◌, arith, ◌∙◌}
use Rattle.std.proofs.Math.ListN.{length-set}
use Rattle.std.proofs.lemmas.Grind.{elements}
use Rattle.gsl_values.specs.Vectors.{components, binary_each, lanes_answer}
use Rattle.gsl_values.proofs.Components.{with_front, none_left, one_more_lane, is_answer}
use Rattle.gsl_values.proofs.vectors.lanes.Goals as goal

pub loop-i-preserved : goal.loop-i-preserved
loop-i-preserved c = record {
  each = one_more_lane c.args.op c.args.signed c.args.a.now.words c.args.b.now.words c.loop-i.words c.loop-i.choices c.binary.new.choices c.args.a.now.count c.args.b.now.count c.loop-i.i c.binary.result (omega arith) (omega arith) (omega arith) (omega arith) (omega arith) c.binary.ensures.word c.binary.ensures.left ∙ c.loop-i.invariant.each;
  past = grind (arith, elements);
  four = simp length-set c.loop-i.invariant.four;
}

pub returns-clause-lanes : goal.returns-clause-lanes
unfolding lanes_answer
returns-clause-lanes c =
    let ends : c.loop-i.i ≡ c.args.a.now.count = omega arith in
    let last : with_front (take c.args.a.now.count c.loop-i.words) ([], c.loop-i.choices)
    ≡ binary_each c.args.op c.args.signed (components c.args.a.now) (components c.args.b.now) c.args.choices.now =
    none_left c.args.op c.args.signed c.args.a.now.words (drop c.loop-i.i (components c.args.b.now)) c.loop-i.words c.loop-i.choices c.args.a.now.count c.loop-i.i ends ∙ c.loop-i.invariant.each in
    is_answer c.loop-i.words c.loop-i.choices c.args.a.now.count _ c.loop-i.invariant.four (omega arith) (λ k h. c.loop-i.invariant.past k (omega arith)) last
