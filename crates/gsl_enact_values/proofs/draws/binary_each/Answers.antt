use Rattle.std.proofs.Common.{◌≡◌, ℕ, ◌+◌, ◌≤◌, min, drop, subst, arith}
use Rattle.gsl_values.specs.Vectors.{binary_each}
use Rattle.gsl_compute.proofs.Loops.{RunsOn, each_at, pushed_on, both_done}
use Rattle.gsl_enact_values.proofs.draws.binary_each.Goals as goal

past : (a b end k x y : ℕ) → a ≡ x → b ≡ y → end ≡ min a b → end ≤ k → min x y ≤ k
past a b end k x y p q r s = omega (arith, p, q, r, s)

pub loop-k-preserved : goal.loop-k-preserved
loop-k-preserved c =
    let xs = c.args.xs.now in
    let ys = c.args.ys.now in
    let rest = binary_each c.args.op c.args.signed (drop (c.loop-k.k + 1) xs) (drop (c.loop-k.k + 1) ys) in
    let whole = binary_each c.args.op c.args.signed xs ys c.args.choices.now in
    let opens = each_at c.args.op c.args.signed xs ys c.loop-k.k c.index.result.now c.index-in-loop-k.result.now c.loop-k.choices c.index.ensures c.index-in-loop-k.ensures in
    pushed_on c.loop-k.given c.push.new.self c.binary.result c.binary.new.choices rest whole _ _ c.in_ok-push.ensures.ok c.binary.ensures.word c.binary.ensures.left (subst (λ r. RunsOn c.loop-k.given r whole) opens c.loop-k.invariant)

pub returns-clause-words : goal.returns-clause-words
returns-clause-words c =
    let xs = c.args.xs.now in
    let ys = c.args.ys.now in
    (both_done c.args.op c.args.signed xs ys c.loop-k.k c.loop-k.choices c.loop-k.given (binary_each c.args.op c.args.signed xs ys c.args.choices.now) (past c.len.result c.len-2.result c.min-k-end.result c.loop-k.k _ _ c.len.ensures c.len-2.ensures c.min-k-end.ensures c.loop-k-test.false) c.loop-k.invariant).0

pub returns-clause-left : goal.returns-clause-left
returns-clause-left c =
    let xs = c.args.xs.now in
    let ys = c.args.ys.now in
    (both_done c.args.op c.args.signed xs ys c.loop-k.k c.loop-k.choices c.loop-k.given (binary_each c.args.op c.args.signed xs ys c.args.choices.now) (past c.len.result c.len-2.result c.min-k-end.result c.loop-k.k _ _ c.len.ensures c.len-2.ensures c.min-k-end.ensures c.loop-k-test.false) c.loop-k.invariant).1
