use Rattle.std.proofs.Common.{refl, ap, ◌∙◌}
use Rattle.gsl_cmd.specs.declared.code.Code.{Code}
use Rattle.gsl_cmd.proofs.Constants.{run_more}
use Rattle.gsl_cmd.proofs.lowering.put_decorations.Goals as goal

pub loop-i-preserved : goal.loop-i-preserved
loop-i-preserved c = record {
  instrs = run_more _ _ _ _ c.loop-i.i _ c.loop-i.invariant.instrs (ap (λ (code : Code). code.instrs) c.in_ok-put-2.ensures) refl;
  next = ap (λ (code : Code). code.next) c.in_ok-put-2.ensures ∙ c.loop-i.invariant.next;
}
