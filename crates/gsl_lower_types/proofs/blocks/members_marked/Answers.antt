use Rattle.std.proofs.Common.{arith}
use Rattle.std.proofs.lemmas.Result.{err_from_is_err_and}
use Rattle.gsl_lower_types.specs.Blocks.{members_marked}
use Rattle.gsl_lower_types.proofs.Rows.{marks_end, marks_on, marks_stop}
use Rattle.gsl_lower_types.proofs.blocks.members_marked.Goals as goal

pub returns-in_err-member_marked : goal.returns-in_err-member_marked
returns-in_err-member_marked c =
    let p = err_from_is_err_and c.from_residual-in_err-member_marked.result c.from_residual-in_err-member_marked.ensures.1 in
    rw (p.1, p.2) (marks_stop c.args.id c.args.members.now c.loop-k.k c.in_ok-number.number c.index.result.now _ c.loop-k.b (members_marked c.args.id 0 c.args.members.now c.args.b.now) c.index.ensures c.in_ok-number.ensures c.in_err-member_marked.ensures c.loop-k.invariant)

pub loop-k-preserved : goal.loop-k-preserved
loop-k-preserved c =
    marks_on c.args.id c.args.members.now c.loop-k.k c.in_ok-number.number c.index.result.now c.loop-k.b c.member_marked.new.b (members_marked c.args.id 0 c.args.members.now c.args.b.now) c.index.ensures c.in_ok-number.ensures c.in_ok-member_marked.ensures
    c.loop-k.invariant

pub returns : goal.returns
returns c = marks_end c.args.id c.args.members.now c.loop-k.k c.loop-k.b _ (omega (arith, c.loop-k-test.false, c.len-k-end.ensures)) c.loop-k.invariant
