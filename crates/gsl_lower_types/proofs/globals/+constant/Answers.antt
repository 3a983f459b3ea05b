use Rattle.std.proofs.Common.{sym, ◌∙◌, map, arith}
use Rattle.std.proofs.lemmas.Result.{err_from_is_err_and}
use Rattle.gsl_lower_types.specs.Globals.{constant_of, parts_put}
use Rattle.gsl_lower_types.proofs.Rows.{parts_end, parts_on, parts_stop}
use Rattle.gsl_lower_types.proofs.globals.+constant.Goals as goal

pub parts_put-returns-in_err-constant_of : goal.parts_put-returns-in_err-constant_of
parts_put-returns-in_err-constant_of t c =
    let p = err_from_is_err_and c.from_residual-in_err-constant_of.result c.from_residual-in_err-constant_of.ensures.1 in
    rw (p.1, p.2) (parts_stop c.args.structs.now c.args.ty.now c.args.parts.now c.loop-k.k c.index.result.now c.in-Some.t c.loop-k.ids _ c.loop-k.known c.loop-k.b
    (parts_put c.args.structs.now c.args.ty.now 0 (map (constant_of c.args.structs.now) c.args.parts.now) c.args.known.now c.args.b.now) c.index.ensures (sym c.in_ok-t.ensures ∙ c.in-Some.is) c.in_err-constant_of.ensures c.loop-k.invariant)

pub parts_put-loop-k-preserved : goal.parts_put-loop-k-preserved
parts_put-loop-k-preserved t c =
    parts_on c.args.structs.now c.args.ty.now c.args.parts.now c.loop-k.k c.index.result.now c.in-Some.t c.loop-k.ids c.push.new.self c.in_ok-constant_of.field-0 c.loop-k.known c.constant_of.new.known c.loop-k.b c.constant_of.new.b
    (parts_put c.args.structs.now c.args.ty.now 0 (map (constant_of c.args.structs.now) c.args.parts.now) c.args.known.now c.args.b.now) c.index.ensures (sym c.in_ok-t.ensures ∙ c.in-Some.is) c.in_ok-constant_of.ensures c.in_ok-push.ensures.ok
    c.loop-k.invariant

pub parts_put-returns : goal.parts_put-returns
parts_put-returns t c = parts_end c.args.structs.now c.args.ty.now c.args.parts.now c.loop-k.k c.loop-k.ids c.loop-k.known c.loop-k.b _ (omega (arith, c.loop-k-test.false, c.len-k-end.ensures)) c.loop-k.invariant
