use Rattle.std.proofs.Common.{drop, ◌+◌, sym, ap, ◌∙◌, arith}
use Rattle.gsl_ids.proofs.Places.{made, here}
use Rattle.gsl_valid.specs.Types as types
use Rattle.gsl_valid_blocks.proofs.Fronts.{one_more, up_to, to_end}
use Rattle.gsl_valid_blocks.proofs.variables.count_outside.Goals as goal

pub returns-then-begins : goal.returns-then-begins
returns-then-begins c =
    let code = c.args.of.now.instrs in
    let at = c.loop-at.at in
    let cut = here code at c.op.result c.args-in-loop-at.result.now c.op.ensures c.args-in-loop-at.ensures in
    let is = sym (c.begins.ensures ∙ ap types.begins c.kind_at.ensures) ∙ c.if-begins.true in
    up_to code (drop (at + 1) code) at (made c.op.result c.args-in-loop-at.result.now) cut is c.loop-at.invariant.1

pub loop-at-preserved : goal.loop-at-preserved
loop-at-preserved c =
    let code = c.args.of.now.instrs in
    let at = c.loop-at.at in
    let cut = here code at c.op.result c.args-in-loop-at.result.now c.op.ensures c.args-in-loop-at.ensures in
    let is = sym (c.begins.ensures ∙ ap types.begins c.kind_at.ensures) ∙ c.if-begins.false in
    (omega (arith, c.loop-at-test.true, c.len.ensures), one_more code (drop (at + 1) code) at (made c.op.result c.args-in-loop-at.result.now) cut is c.loop-at.invariant.1)

pub returns : goal.returns
returns c = to_end c.args.of.now.instrs c.loop-at.at (omega (arith, c.loop-at-test.false, c.len.ensures)) c.loop-at.invariant.1
