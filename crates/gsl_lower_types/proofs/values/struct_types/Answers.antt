use Rattle.std.proofs.Common.{arith}
use Rattle.std.proofs.lemmas.Result.{err_from_is_err_and}
use Rattle.gsl_lower_types.specs.Values.{struct_types}
use Rattle.gsl_lower_types.proofs.Turns.{structs_end, structs_on, structs_stop}
use Rattle.gsl_lower_types.proofs.values.struct_types.Goals as goal

pub returns-in_err-struct_type : goal.returns-in_err-struct_type
returns-in_err-struct_type c =
    let p = err_from_is_err_and c.from_residual-in_err-struct_type.result c.from_residual-in_err-struct_type.ensures.1 in
    rw (p.1, p.2) (structs_stop c.args.structs.now c.loop-k.k c.in_ok-number.number c.index.result.now _ c.loop-k.known c.loop-k.b (struct_types 0 c.args.structs.now c.args.known.now c.args.b.now) c.index.ensures c.in_ok-number.ensures c.in_err-struct_type.ensures c.loop-k.invariant)

pub loop-k-preserved : goal.loop-k-preserved
loop-k-preserved c =
    structs_on c.args.structs.now c.loop-k.k c.in_ok-number.number c.index.result.now c.loop-k.known c.struct_type.new.known c.loop-k.b c.struct_type.new.b (struct_types 0 c.args.structs.now c.args.known.now c.args.b.now) c.index.ensures
    c.in_ok-number.ensures c.in_ok-struct_type.ensures c.loop-k.invariant

pub returns : goal.returns
returns c = structs_end c.args.structs.now c.loop-k.k c.loop-k.known c.loop-k.b _ (omega (arith, c.loop-k-test.false, c.len-k-end.ensures)) c.loop-k.invariant
