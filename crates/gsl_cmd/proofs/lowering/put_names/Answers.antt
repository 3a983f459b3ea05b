use Rattle.std.proofs.Common.{ap, sym, ◌∙◌, [], ◌∷◌}
use Rattle.std.proofs.lemmas.Option.{get_or_from_slice_get}
use Rattle.gsl_instr.specs.declared.op.TheConstants as op
use Rattle.gsl_instr.specs.Strings.{string_words}
use Rattle.gsl_cmd.specs.declared.lowering.id.TheConstants as id
use Rattle.gsl_cmd.specs.Lowering.{instr}
use Rattle.gsl_cmd.specs.declared.code.Code.{Code}
use Rattle.gsl_cmd.proofs.Constants.{run_more}
use Rattle.gsl_cmd.proofs.lowering.put_names.Goals as goal

pub loop-i-preserved : goal.loop-i-preserved
loop-i-preserved c = record {
  instrs = run_more _ _ _ _ c.loop-i.i _ c.loop-i.invariant.instrs (ap (λ (code : Code). code.instrs) c.in_ok-put_text-2.ensures)
      (ap (λ name. instr op.MEMBER_NAME (id.BLOCK ∷ c.loop-i.i ∷ string_words name))
      (c.as_str.ensures ∙ sym (get_or_from_slice_get c.args.members.now c.loop-i.i _ [] c.index.ensures)));
  next = ap (λ (code : Code). code.next) c.in_ok-put_text-2.ensures ∙ c.loop-i.invariant.next;
}
