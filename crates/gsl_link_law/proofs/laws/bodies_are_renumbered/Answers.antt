use Rattle.gsl_link_law.proofs.Stmts.{body_new, body_deep}
use Rattle.gsl_link_law.proofs.laws.bodies_are_renumbered.Goals as goal

pub returns : goal.returns
returns c = record {
  typed = λ n few many result body is fine has. body_new n few many is fine result body has;
  depth = λ n few many result body is fine has. body_deep n few many is fine result body has;
}
