use Rattle.std.proofs.Common.{arith}
use Rattle.std.proofs.lemmas.Result.{err_from_is_err_and}
use Rattle.gsl_lower_types.specs.Known.{each}
use Rattle.gsl_lower_types.specs.Values.{member_type}
use Rattle.gsl_lower_types.proofs.Turns.{ends, goes_on, stops}
use Rattle.gsl_lower_types.proofs.values.members_types.Goals as goal

pub returns-in_err-member_type : goal.returns-in_err-member_type
returns-in_err-member_type c =
    let p = err_from_is_err_and c.from_residual.result c.from_residual.ensures.1 in
    rw (p.1, p.2) (stops member_type c.args.members.now c.loop-k.k c.index.result.now c.loop-k.ids _ c.loop-k.known c.loop-k.b (each member_type c.args.members.now c.args.known.now c.args.b.now) c.index.ensures c.in_err-member_type.ensures c.loop-k.invariant)

pub loop-k-preserved : goal.loop-k-preserved
loop-k-preserved c =
    goes_on member_type c.args.members.now c.loop-k.k c.index.result.now c.loop-k.ids c.push.new.self c.in_ok-member_type.field-0 c.loop-k.known c.member_type.new.known c.loop-k.b c.member_type.new.b
    (each member_type c.args.members.now c.args.known.now c.args.b.now) c.index.ensures c.in_ok-member_type.ensures c.in_ok-push.ensures.ok c.loop-k.invariant

pub returns : goal.returns
returns c = ends member_type c.args.members.now c.loop-k.k c.loop-k.ids c.loop-k.known c.loop-k.b _ (omega (arith, c.loop-k-test.false, c.len-k-end.ensures)) c.loop-k.invariant
