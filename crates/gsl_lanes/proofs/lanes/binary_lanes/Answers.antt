use Rattle.std.proofs.Common.{◌≡◌, ◌∙◌, ◌+◌, ap, arith, drop, get_or, subst, sym, take}
use Rattle.gsl_values.specs.Operators.{binary_answer}
use Rattle.gsl_lanes.proofs.Each.{IsEach, binary_more}
use Rattle.gsl_lanes.proofs.lanes.binary_lanes.Goals as goal

pub overflow_add-at : goal.overflow_add-at
overflow_add-at c = omega (arith, c.loop-k-test.true, c.requires.within, c.len-room.ensures, c.len-room.type_inv)

pub loop-k-preserved : goal.loop-k-preserved
loop-k-preserved c =
    let first = c.args.slots.now in
    let now = c.loop-k.slots in
    let k = c.loop-k.k in
    let same : binary_answer c.args.op c.args.signed c.word.result c.word-in-loop-k.result c.loop-k.choices ≡ binary_answer c.args.op c.args.signed (get_or now (c.args.a + k) 0) (get_or now (c.args.b + k) 0) c.loop-k.choices =
    ap (λ x. binary_answer c.args.op c.args.signed x c.word-in-loop-k.result c.loop-k.choices) c.word.ensures ∙ ap (λ y. binary_answer c.args.op c.args.signed (get_or now (c.args.a + k) 0) y c.loop-k.choices) c.word-in-loop-k.ensures in
    subst (λ s. IsEach c.args.op c.args.signed (take (k + 1) (take c.args.count (drop c.args.a first))) (take (k + 1) (take c.args.count (drop c.args.b first))) c.args.choices.now first s c.args.at c.binary-word.new.choices)
    (sym c.put.ensures)
    (binary_more c.args.op c.args.signed c.args.choices.now first now c.args.a c.args.b c.args.at c.args.count k c.binary-word.result c.loop-k.choices c.binary-word.new.choices c.loop-k-test.true c.requires.a
    c.requires.b c.requires.within c.loop-k.invariant (c.binary-word.ensures.word ∙ ap (λ p. p.0) same) (c.binary-word.ensures.left ∙ ap (λ p. p.1) same))
