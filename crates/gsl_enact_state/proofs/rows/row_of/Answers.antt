use Rattle.std.proofs.Common.{◌<◌, arith}
use Rattle.gsl_enact_state.specs.Seen.{given}
use Rattle.gsl_enact_state.proofs.Rowed.{no_row, row_before, row_here}
use Rattle.gsl_enact_state.proofs.rows.row_of.Goals as goal

pub returns-then-id-row : goal.returns-then-id-row
returns-then-id-row c =
    row_here c.args.rows.now c.loop-at.at c.args.id c.index-rows-at.result (λ ids. given ids c.args.rows.now c.args.id) c.loop-at-test.true c.loop-at.invariant.0 c.index-rows-at.is c.if-id-row.true c.loop-at.invariant.1

pub loop-at-preserved : goal.loop-at-preserved
loop-at-preserved c =
    let some : 0 < c.loop-at.at = c.loop-at-test.true in (
      omega (arith, c.loop-at.invariant.0),
      row_before c.args.rows.now c.loop-at.at c.args.id c.index-rows-at.result (λ ids. given ids c.args.rows.now c.args.id) some c.loop-at.invariant.0 c.index-rows-at.is c.if-id-row.false c.loop-at.invariant.1,
    )

pub returns : goal.returns
returns c = no_row c.args.rows.now c.loop-at.at c.args.id (λ ids. given ids c.args.rows.now c.args.id) c.loop-at-test.false c.loop-at.invariant.1
