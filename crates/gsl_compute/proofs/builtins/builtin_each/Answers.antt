use Rattle.std.proofs.Common.{ap, ◌∙◌, ◌+◌, ◌-◌, subst}
use Rattle.gsl_values.specs.Functions.{builtin_answer}
use Rattle.gsl_tree.specs.Operations.{builtin_each}
use Rattle.gsl_compute.proofs.Loops.{RunsOn, builtin_at, pushed_on}
use Rattle.gsl_compute.proofs.builtins.builtin_each.Goals as goal

pub loop-k-preserved : goal.loop-k-preserved
loop-k-preserved c =
    let rows = c.args.rows.now in
    let count = c.if-is_empty.count in
    let k = c.loop-k.k in
    let which = c.args.which in
    let signed = c.args.signed in
    let rest = builtin_each which signed rows (count - (k + 1)) (k + 1) in
    let whole = builtin_each which signed rows count 0 c.args.choices.now in (
      c.loop-k.invariant.0,
      pushed_on c.loop-k.given c.push.new.self c.builtin.result c.builtin.new.choices rest whole _ _ c.in_ok-push.ensures.ok
          (c.builtin.ensures.word ∙ ap (λ l. (builtin_answer which signed l c.loop-k.choices).0) c.column-args.ensures)
          (c.builtin.ensures.left ∙ ap (λ l. (builtin_answer which signed l c.loop-k.choices).1) c.column-args.ensures)
          (subst (λ r. RunsOn c.loop-k.given r whole) (builtin_at which signed rows count k c.loop-k.choices c.loop-k-test.true) c.loop-k.invariant.1),
    )
