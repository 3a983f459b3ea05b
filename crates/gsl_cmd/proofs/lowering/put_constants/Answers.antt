use Rattle.std.proofs.Common.{ap, sym, ◌∙◌, ◌+◌, [], ◌∷◌}
use Rattle.std.proofs.lemmas.Option.{get_or_from_slice_get}
use Rattle.gsl_instr.specs.declared.op.TheConstants as op
use Rattle.gsl_cmd.specs.declared.lowering.id.TheConstants as id
use Rattle.gsl_cmd.specs.declared.code.Code.{Code}
use Rattle.gsl_cmd.specs.Lowering.{instr}
use Rattle.gsl_cmd.proofs.Constants.{run_more}
use Rattle.gsl_cmd.proofs.lowering.put_constants.Goals as goal

pub loop-i-preserved : goal.loop-i-preserved
loop-i-preserved c = record {
  instrs = run_more _ _ _ _ c.loop-i.i _ c.loop-i.invariant.instrs (ap (λ (code : Code). code.instrs) c.in_ok-put.ensures)
      (ap (λ value. instr op.CONSTANT (id.INT ∷ (id.FIRST_CONSTANT + c.loop-i.i) ∷ value ∷ []))
      (sym (get_or_from_slice_get c.args.constants.now c.loop-i.i _ 0 c.index.ensures)));
  next = ap (λ (code : Code). code.next) c.in_ok-put.ensures ∙ c.loop-i.invariant.next;
}
