use Rattle.gsl_types.specs.declared.ty.Ty.TheVariants as ty
use Rattle.gsl_link_law.proofs.Exprs.{read_new, constant_new}
use Rattle.gsl_link_law.proofs.Nodes.{expr_new}
use Rattle.gsl_link_law.proofs.Stmts.{depth_new}
use Rattle.gsl_link_law.proofs.laws.expressions_are_renumbered.Goals as goal

pub returns : goal.returns
returns c = record {
  typed = λ n few many e is fine typed. expr_new n few many is fine e typed;
  reads = λ n few many e is fine typed reads. read_new n few many is fine e typed reads;
  depth = λ n few many e is fine typed. depth_new n few many is fine ty.Void e typed;
  constant = λ n few many e is fine typed. constant_new n few many is fine e typed;
}
