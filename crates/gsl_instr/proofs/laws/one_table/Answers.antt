use Rattle.gsl_instr.proofs.Agreeing.{read_agrees}
use Rattle.gsl_instr.proofs.laws.one_table.Goals as goal

pub returns : goal.returns
returns c = record {
  defines = λ op args form i fits found is. (read_agrees op args form i fits found is).0;
  needs_before = λ op args form i fits found is. (read_agrees op args form i fits found is).1;
  mentions_later = λ op args form i fits found is. (read_agrees op args form i fits found is).2;
}
