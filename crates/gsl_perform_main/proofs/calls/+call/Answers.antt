use Rattle.std.proofs.Common.{◌≡◌, ap, subst, ◌∙◌, Some, slice_get, arith}
use Rattle.std.proofs.lemmas.Result.{err_from_is_err_and}
use Rattle.gsl_tree.specs.declared.program.Program.{Program}
use Rattle.gsl_meaning.specs.Shader.{function_of, result_type}
use Rattle.gsl_perform_main.proofs.Depths.{performed, unit_wanting}
use Rattle.gsl_perform_main.proofs.calls.+call.Goals as goal

pub call-returns-in_err-spend-in-Some : goal.call-returns-in_err-spend-in-Some
call-returns-in_err-spend-in-Some t c =
    let p = err_from_is_err_and c.from_residual.result c.from_residual.ensures.1 in
    rw (p.1, p.2) (unit_wanting c.args.frame.now c.args.depth c.args.number c.args.args (omega (arith, c.if-depth-eq0.false)) c.in-Some.f.now
    (subst (λ (x : Program). function_of x.functions c.args.number ≡ Some c.in-Some.f.now) c.program-program.ensures c.in-Some.ensures) _ c.args.w.now c.spend.new.w c.in_err-spend-in-Some.ensures)

pub call-returns-in_ok-spend-in-Some : goal.call-returns-in_ok-spend-in-Some
call-returns-in_ok-spend-in-Some t c =
    performed c.args.frame.now c.args.depth c.args.number c.args.args (omega (arith, c.if-depth-eq0.false)) c.in-Some.f.now
    (subst (λ (x : Program). function_of x.functions c.args.number ≡ Some c.in-Some.f.now) c.program-program.ensures c.in-Some.ensures)
    c.args.w.now c.spend.new.w c.performs_at.new.w c.in_ok-spend-in-Some.field-0 c.in_ok-spend-in-Some.ensures c.result_type-ty.result.now
    (c.result_type-ty.ensures ∙ ap (λ (x : Program). result_type (slice_get x.prototypes c.args.number)) c.program-program.ensures) c.performs_at.result c.performs_at.ensures
