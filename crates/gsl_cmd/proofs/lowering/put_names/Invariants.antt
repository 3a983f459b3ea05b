use Rattle.std.proofs.Common.{◌≡◌, ◌++◌, ◌∷◌, map}
use Rattle.std.specs.List.{range_with_len}
use Rattle.gsl_instr.specs.declared.op.TheConstants as op
use Rattle.gsl_instr.specs.Strings.{string_words}
use Rattle.gsl_cmd.specs.declared.lowering.id.TheConstants as id
use Rattle.gsl_form.specs.Form.{name_of}
use Rattle.gsl_cmd.specs.Lowering.{instr}
use Rattle.gsl_cmd.proofs.lowering.put_names.Given as goal

abbrev pub invariant-loop-i : goal.invariant-loop-i
invariant-loop-i l = record {
  instrs : l.code.instrs ≡ l.initial.code.instrs
      ++ map (λ i. instr op.MEMBER_NAME (id.BLOCK ∷ i ∷ string_words (name_of l.members i))) (range_with_len 0 l.i);
  next : l.code.next ≡ l.initial.code.next;
}
