use Rattle.std.proofs.Common.{arith, sym, ◌∙◌}
use Rattle.gsl_compute.proofs.Sizes.{part_smaller}
use Rattle.gsl_compute.proofs.Loops.{all_differ, all_at, and_on, and_stops, all_done, same_of_many}
use Rattle.gsl_compute.proofs.equality.+same_value.Goals as goal

pub same_value-requires : goal.same_value-requires
same_value-requires t c = (omega (arith, part_smaller c.in-Many-Many.xs c.loop-k.k c.index.result.now c.args.a.now c.index.ensures c.in-Many-Many.is-0, c.decreases), tt)

pub returns-then-len : goal.returns-then-len
returns-then-len t c = all_differ c.in-Many-Many.xs c.in-Many-Many.ys (λ same. c.if-len.true (c.len.ensures ∙ same ∙ sym c.len-in-Many-Many.ensures)) ∙ same_of_many c.in-Many-Many.xs c.in-Many-Many.ys c.args.a.now c.args.b.now c.in-Many-Many.is-0 c.in-Many-Many.is-1

pub returns-then-not-same_value : goal.returns-then-not-same_value
returns-then-not-same_value t c =
    and_stops _ _ _ _ (sym c.same_value.ensures ∙ c.if-not-same_value.true)
    (all_at c.in-Many-Many.xs c.in-Many-Many.ys c.loop-k.k c.index.result.now c.index-in-loop-k.result.now c.index.ensures c.index-in-loop-k.ensures) c.loop-k.invariant.1
    ∙ same_of_many c.in-Many-Many.xs c.in-Many-Many.ys c.args.a.now c.args.b.now c.in-Many-Many.is-0 c.in-Many-Many.is-1

pub loop-k-preserved : goal.loop-k-preserved
loop-k-preserved t c = (
  c.loop-k.invariant.0,
  and_on _ _ _ _ (sym c.same_value.ensures ∙ c.if-not-same_value.false)
      (all_at c.in-Many-Many.xs c.in-Many-Many.ys c.loop-k.k c.index.result.now c.index-in-loop-k.result.now c.index.ensures c.index-in-loop-k.ensures) c.loop-k.invariant.1,
)

pub returns-after-loop-k : goal.returns-after-loop-k
returns-after-loop-k t c = all_done c.in-Many-Many.xs c.in-Many-Many.ys c.loop-k.k _ c.len-k-end.result c.len-k-end.ensures c.loop-k-test.false c.loop-k.invariant.0 c.loop-k.invariant.1 ∙ same_of_many c.in-Many-Many.xs c.in-Many-Many.ys c.args.a.now c.args.b.now c.in-Many-Many.is-0 c.in-Many-Many.is-1
