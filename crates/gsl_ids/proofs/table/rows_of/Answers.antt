use Rattle.std.proofs.Common.{rules, length, drop, ◌≤◌, sym, subst, arith}
use Rattle.gsl_ids.specs.Table.{Tells}
use Rattle.gsl_ids.proofs.Rows.{none_behind}
use Rattle.gsl_ids.proofs.table.rows_of.Goals as goal

pub loop-at-init : goal.loop-at-init
loop-at-init c =
    let code = c.args.of.now.instrs in
    let whole : length code ≤ c.len-at.result = omega (arith, c.len-at.ensures) in
    (search rules, search rules, subst (λ rows. Tells rows c.len-at.result (drop c.len-at.result code)) (sym (c.in_ok-rows.ensures.items_if_clones_equal (λ y same. same))) (none_behind c.args.of.now.bound c.len-at.result code whole))
