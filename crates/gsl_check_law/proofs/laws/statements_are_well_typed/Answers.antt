use Rattle.gsl_check_stmt.specs.Statements.{statements}
use Rattle.gsl_check_law.specs.Labels.{exits_of}
use Rattle.gsl_check_law.proofs.Rows.{given}
use Rattle.gsl_check_law.proofs.Declarators.{DidAll}
use Rattle.gsl_check_law.proofs.Walked.{statements_are}
use Rattle.gsl_check_law.proofs.laws.statements_are_well_typed.Goals as goal

pub returns : goal.returns
returns c = record {
  typed = λ env result all within done fine has formed is.
      let did = given (DidAll result (exits_of within) env) (statements result all within env) done (statements_are result all within formed env fine has) is in
      did.stmts;
  behind = λ env result all within done fine has formed is.
      let did = given (DidAll result (exits_of within) env) (statements result all within env) done (statements_are result all within formed env fine has) is in did.env;
}
